-- The parts of a leaf's text, and the path and the pattern of a pattern leaf.
use Rattle.std.specs.Prelude.{ℕ, Bool, false, ◌&&◌, ◌||◌, ◌==◌, nat_le, List, [], ◌∷◌, ◌++◌, if◌then◌else◌}
use Rattle.std.specs.List.{list_all, slice_split}

-- what stands between the colons of a text
unfoldable pub parts : List ℕ → List (List ℕ)
parts text = slice_split (λ b. b == 58) text

-- parts with a colon between each two
abbrev pub joined_path : List (List ℕ) → List ℕ
joined_path [] = []
joined_path (p ∷ []) = p
joined_path (p ∷ q ∷ ps) = p ++ 58 ∷ joined_path (q ∷ ps)

-- a letter, a digit, `_` or `-`
abbrev pub is_name_byte : ℕ → Bool
is_name_byte b = (nat_le 65 b && nat_le b 90) || (nat_le 97 b && nat_le b 122) || (nat_le 48 b && nat_le b 57) || b == 95 || b == 45

-- at least one byte, each of them such a byte
abbrev pub is_key_name : List ℕ → Bool
is_key_name [] = false
is_key_name (b ∷ bytes) = list_all is_name_byte (b ∷ bytes)

-- the longest run of leading names, never the last part
abbrev pub path_of : List (List ℕ) → List (List ℕ)
path_of [] = []
path_of (p ∷ []) = []
path_of (p ∷ q ∷ ps) = if is_key_name p then p ∷ path_of (q ∷ ps) else []

-- the parts after the path
abbrev pub after_path : List (List ℕ) → List (List ℕ)
after_path [] = []
after_path (p ∷ []) = p ∷ []
after_path (p ∷ q ∷ ps) = if is_key_name p then after_path (q ∷ ps) else p ∷ q ∷ ps

-- the pattern of a leaf's parts: those after the path, joined
abbrev pub pattern_of : List (List ℕ) → List ℕ
pattern_of ps = joined_path (after_path ps)

-- The pattern of a leaf's text. No public contract cites it.
abbrev pub pattern_in : List ℕ → List ℕ
pattern_in text = pattern_of (parts text)
