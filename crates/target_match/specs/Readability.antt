-- Whether the patterns of a target can be read, as a test, and which one is the first that cannot.
use Rattle.std.specs.Prelude.{◌≡◌, ℕ, nat_le, not, chars, position, Bool, true, false, List, Option, None, Some, option_map}
use Rattle.regex.specs.Patterns.{Re, default_config}
use Rattle.regex_syntax.specs.Brackets.{Nested}
use Rattle.regex_syntax.specs.Grammar.{Names, read}
use Rattle.target_tree.specs.declared.target.Target.{Target}
use Rattle.target_match.specs.Holds.{patterns, leaf_count, NamesBadPattern, NamesBigPattern}
use Rattle.target_match.specs.declared.fault.BuildFault.{BuildFault}
use Rattle.target_match.specs.declared.fault.BuildFault.TheVariants.{NoMemory, BadPattern, TooBig}

-- an expression was read, and its nesting is within the limit
abbrev pub is_within_nesting : Option (Nested Re × Names) → Bool
is_within_nesting None = false
is_within_nesting (Some (re, names)) = nat_le re.depth default_config.nest_limit

-- the grammar reads the pattern, and its nesting is within the limit
unfoldable pub is_readable : List ℕ → Bool
is_readable pattern = is_within_nesting (read default_config (chars pattern))

-- the leaf has no pattern, or one that can be read
abbrev pub is_readable_leaf : Option (List ℕ) → Bool
is_readable_leaf None = true
is_readable_leaf (Some pattern) = is_readable pattern

-- the number, as it is told, of the first leaf of these whose pattern cannot be read
abbrev pub first_unread : List (Option (List ℕ)) → Option ℕ
first_unread leaves = option_map leaf_count (position (λ leaf. not (is_readable_leaf leaf)) leaves)

-- the number of the first leaf of a target whose pattern cannot be read
unfoldable pub unread_leaf : Target → Option ℕ
unread_leaf target = first_unread (patterns target)

-- Why a target is not made ready: the first pattern that cannot be read, or one that can be read and is too big.
abbrev pub IsBuildFault : Target → BuildFault → Type 0
IsBuildFault target NoMemory = Unit {0}
IsBuildFault target (BadPattern leaf) = (unread_leaf target ≡ Some leaf) × NamesBadPattern target leaf
IsBuildFault target (TooBig leaf) = NamesBigPattern target leaf
