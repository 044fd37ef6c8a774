-- The keys of a map.
use Rattle.std.specs.Prelude.{ℕ, Bool, List, [], ◌∷◌, ◌++◌, bytes_eq, if◌then◌else◌}
use Rattle.std.specs.List.{list_any}

-- is a key among these
abbrev pub has_key : List (List ℕ) → List ℕ → Bool
has_key keys key = list_any (bytes_eq key) keys

-- these, and a key after them that is not among them
abbrev pub with_key : List (List ℕ) → List ℕ → List (List ℕ)
with_key keys key = if has_key keys key then keys else keys ++ key ∷ []
