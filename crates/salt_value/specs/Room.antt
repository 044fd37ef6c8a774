-- The room that a part takes. No public contract cites it.
use Rattle.std.specs.Prelude.{◌≡◌, ◌≤◌, ◌+◌, ◌++◌, ◌&&◌, ℕ, true, List, length, map, Option, Some, None}
use Rattle.salt_value.specs.declared.value.Value.{Value}
use Rattle.salt_value.specs.Spelling.{text, bytes, concatenation, pairs_spelling, spelled_pairs}
use Rattle.salt_value.specs.WellFormed.{IsWellFormed, AllWellFormed, PairsWellFormed, is_text, well_formed, depth, greatest}

-- what is left of some bytes after a part of this depth and size, which is well-formed, and none exactly where the levels or the bytes don't suffice
abbrev pub Leaves : Type 0 → ℕ → ℕ → ℕ → ℕ → Option ℕ → Type 0
Leaves IsWell depth levels size room None = depth ≤ levels → size ≤ room → ⊥
Leaves IsWell depth levels size room (Some left) = IsWell × (depth ≤ levels) × (size + left ≡ room)

-- what is left after a value
abbrev pub LeavesAfterValue : Value → ℕ → ℕ → Option ℕ → Type 0
LeavesAfterValue v levels room left = Leaves (IsWellFormed v) (depth v) levels (length (bytes v)) room left

-- what is left after a tag, a count and these values
abbrev pub LeavesAfterItems : List Value → ℕ → ℕ → Option ℕ → Type 0
LeavesAfterItems vs levels room left =
    Leaves (AllWellFormed vs) (greatest (map depth vs)) levels (5 + length (concatenation (map bytes vs))) room left

-- what is left after a key and its value
abbrev pub LeavesAfterPair : List ℕ → Value → ℕ → ℕ → Option ℕ → Type 0
LeavesAfterPair key v levels room left =
    Leaves ((is_text key && well_formed v) ≡ true) (depth v) levels (length (text key ++ bytes v)) room left

-- what is left after a tag, a count and these pairs
abbrev pub LeavesAfterPairs : List (List ℕ × Value) → ℕ → ℕ → Option ℕ → Type 0
LeavesAfterPairs ps levels room left =
    Leaves (PairsWellFormed ps) (greatest (map (λ p. depth p.1) ps)) levels (5 + length (pairs_spelling (spelled_pairs ps))) room left
