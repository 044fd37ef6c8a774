-- Globs without regard to case.
use Rattle.std.specs.Prelude.{ℕ, Bool, true, false, List, map}
use Rattle.std.specs.Char.{to_ascii_lowercase}
use Rattle.salt_glob.specs.Globs.{glob}

-- `A` to `Z` are lowered, and each other byte is kept
abbrev pub lower_case : List ℕ → List ℕ
lower_case bytes = map to_ascii_lowercase bytes

-- the lowered pattern holds for the lowered text
abbrev pub glob_caseless : List ℕ → List ℕ → Bool
glob_caseless pattern text = glob (lower_case pattern) (lower_case text)

-- The bytes as a matcher reads them. No public contract cites it.
abbrev pub matcher_bytes : Bool → List ℕ → List ℕ
matcher_bytes true bytes = lower_case bytes
matcher_bytes false bytes = bytes
