-- The lines and the words of a text.
use Rattle.std.specs.Prelude.{ℕ, ◌≡◌, ◌≢◌, ◌==◌, ◌&&◌, ◌||◌, nat_le, Bool, false, List, [], ◌∷◌, ◌++◌, length, if◌then◌else◌}
use Rattle.std.specs.List.{onto_first, AllByRecursion}

-- the lines of a text: each ends with a line feed, the last one with it or with the text
abbrev pub lines_of : List ℕ → List (List ℕ)
lines_of [] = []
lines_of (b ∷ bytes) = if b == 10 then [] ∷ lines_of bytes else onto_first b (lines_of bytes)

-- words parted by one space
abbrev pub spaced_words : List (List ℕ) → List ℕ
spaced_words [] = []
spaced_words (word ∷ []) = word
spaced_words (word ∷ next ∷ words) = word ++ 32 ∷ spaced_words (next ∷ words)

-- No byte is this mark. No public contract cites it.
abbrev pub Lacks : ℕ → List ℕ → Type 0
Lacks mark bytes = AllByRecursion (λ b. b == mark ≡ false) bytes

-- The text is a front without the mark, the mark, and what stands after it. No public contract cites it.
abbrev pub IsCutAt : ℕ → List ℕ → List ℕ → List ℕ → Type 0
IsCutAt mark text front rest = (text ≡ front ++ mark ∷ rest) × Lacks mark front

-- The text does not begin with this head. No public contract cites it.
abbrev pub LacksHead : List ℕ → List ℕ → Type 0
LacksHead head text = (rest : List ℕ) → text ≢ head ++ rest

-- The text does not end with this tail. No public contract cites it.
abbrev pub LacksTail : List ℕ → List ℕ → Type 0
LacksTail tail text = (rest : List ℕ) → text ≢ rest ++ tail

-- The first of these lines, if any, is not this one. No public contract cites it.
abbrev pub LacksFirst : List ℕ → List (List ℕ) → Type 0
LacksFirst word lines = (more : List (List ℕ)) → lines ≡ word ∷ more → ⊥

-- A text begins as a number in decimal: with a digit from 1 to 9, or it is `0`. No public contract cites it.
abbrev pub begins_as_decimal : List ℕ → Bool
begins_as_decimal [] = false
begins_as_decimal (b ∷ rest) = (nat_le 49 b && nat_le b 57) || (b == 48 && (length rest == 0))
