-- Globs: which texts a pattern stands for.
use Rattle.std.specs.Prelude.{◌≡◌, ℕ, zero, suc, ◌+◌, ◌≤◌, ◌==◌, slice_index, drop, Bool, true, false, ◌||◌, ◌&&◌, if◌then◌else◌, IsTrue, List, [], ◌∷◌, ◌++◌, Option, None, Some}
use Rattle.salt_glob.specs.Classes.{Class, class_of, class_size, in_class}

-- what stands at the front of a pattern
pub data Piece : Type 0 where
  star : Piece
  any : Piece
  set : Class → Piece
  plain : ℕ → Piece

-- a `[` opens a class where a `]` closes it, and else stands for itself
abbrev pub class_piece : Option Class → Piece
class_piece None = plain 91
class_piece (Some c) = set c

-- the piece that begins with this byte, before the rest of the pattern
abbrev pub piece : ℕ → List ℕ → Piece
piece b rest = if b == 42 then star else (if b == 63 then any else (if b == 91 then class_piece (class_of rest) else plain b))

-- how many bytes the piece has after its first
abbrev pub more : Piece → ℕ
more star = 0
more any = 0
more (set c) = class_size c
more (plain b) = 0

-- the same after the first `skipped` bytes, which belong to the piece before
abbrev pub pieces_after : ℕ → List ℕ → List Piece
pieces_after skipped [] = []
pieces_after (suc skipped) (b ∷ rest) = pieces_after skipped rest
pieces_after zero (b ∷ rest) = piece b rest ∷ pieces_after (more (piece b rest)) rest

-- the pieces of a pattern from left to right
abbrev pub pieces : List ℕ → List Piece
pieces pattern = pieces_after 0 pattern

-- a piece other than `*` takes one byte
abbrev pub takes : Piece → ℕ → Bool
takes star b = false
takes any b = true
takes (set c) b = in_class b c
takes (plain x) b = b == x

-- These pieces match a text. No piece matches the empty text alone; `*` leaves any suffix to the others, and each other
-- piece takes the first byte and leaves the rest.
abbrev pub Matches : List Piece → List ℕ → Type 0
Matches [] text = text ≡ []
Matches (star ∷ ps) text = (before : List ℕ) × (after : List ℕ) × (text ≡ before ++ after) × Matches ps after
Matches (any ∷ ps) text = (b : ℕ) × (rest : List ℕ) × (text ≡ b ∷ rest) × Matches ps rest
Matches (set c ∷ ps) text = (b : ℕ) × (rest : List ℕ) × (text ≡ b ∷ rest) × IsTrue (in_class b c) × Matches ps rest
Matches (plain x ∷ ps) text = (rest : List ℕ) × (text ≡ x ∷ rest) × Matches ps rest

-- the pattern holds for the text
abbrev pub Glob : List ℕ → List ℕ → Type 0
Glob pattern text = Matches (pieces pattern) text

-- some suffix passes
abbrev pub some_suffix : (List ℕ → Bool) → List ℕ → Bool
some_suffix f [] = f []
some_suffix f (b ∷ rest) = f (b ∷ rest) || some_suffix f rest

-- the piece takes the first byte, and the rest passes
abbrev pub after_first : Piece → (List ℕ → Bool) → List ℕ → Bool
after_first p f [] = false
after_first p f (b ∷ rest) = takes p b && f rest

-- the piece is a `*`
abbrev pub is_star : Piece → Bool
is_star star = true
is_star any = false
is_star (set c) = false
is_star (plain x) = false

-- `Matches` as a function, for definitions that ask it
unfoldable pub is_match : List Piece → List ℕ → Bool
is_match [] [] = true
is_match [] (b ∷ rest) = false
is_match (p ∷ ps) text = if is_star p then some_suffix (is_match ps) text else after_first p (is_match ps) text

-- `Glob` as a function
abbrev pub glob : List ℕ → List ℕ → Bool
glob pattern text = is_match (pieces pattern) text

-- The piece at a place of a pattern. No public contract cites it.
abbrev pub piece_at : List ℕ → ℕ → Piece
piece_at pattern at = piece (slice_index pattern at) (drop (at + 1) pattern)

-- How many bytes of the pattern a piece has, where it takes the byte. No public contract cites it.
abbrev pub bytes_taken : Piece → ℕ → Option ℕ
bytes_taken p b = if takes p b then Some (more p + 1) else None

-- The pattern from one place on holds for the text from another place on. No public contract cites it.
abbrev pub MatchesAt : List ℕ → List ℕ → ℕ → ℕ → Type 0
MatchesAt pattern text p t = Glob (drop p pattern) (drop t text)

-- The same from a later place of the text on. No public contract cites it.
abbrev pub MatchesLater : List ℕ → List ℕ → ℕ → ℕ → Type 0
MatchesLater pattern text p t = (u : ℕ) × (t ≤ u) × MatchesAt pattern text p u
