-- Nodegroups: names, and the texts that they stand for.
use Rattle.std.specs.Prelude.{◌≡◌, ℕ, Bool, List, map, is_some, Option, None, Some, MatchOption, bytes_eq}
use Rattle.std.specs.List.{list_any, AllByRecursion}
use Rattle.std.specs.Map.{lookup}
use Rattle.std.specs.Borrow.{Bor}
use Rattle.salt_value.specs.Id.{IsId}

-- a nodegroup: its name and its text
abbrev pub Group : Type 0
Group = List ℕ × List ℕ

-- the text of the nodegroup that has this name
abbrev pub text_named : List Group → List ℕ → Option (List ℕ)
text_named groups name = lookup (bytes_eq name) groups

-- the text of the nodegroup that has this name is answered, and none where no nodegroup has it
abbrev pub FindsGroup : List Group → List ℕ → Option (Bor (List ℕ)) → Type 0
FindsGroup groups name found = MatchOption found (text_named groups name ≡ None) (λ text. text_named groups name ≡ Some text.now)

-- a nodegroup has this name
abbrev pub is_named : List Group → List ℕ → Bool
is_named groups name = is_some (text_named groups name)

-- Each name is an id. No public contract cites it.
abbrev pub HaveIds : List Group → Type 0
HaveIds groups = AllByRecursion IsId (map (λ group. group.0) groups)

-- one of these names is this one
abbrev pub is_among : List (List ℕ) → List ℕ → Bool
is_among names name = list_any (λ other. bytes_eq other name) names
