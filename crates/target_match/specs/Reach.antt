-- What a compiled pattern finds at the end of paths. Private contracts alone cite these definitions.
use Rattle.std.specs.Prelude.{ℕ, Bool, List}
use Rattle.std.specs.List.{list_any}
use Rattle.regex.specs.Strings.{regex_source}
use Rattle.regex.specs.declared.string.regex.Regex.{Regex}
use Rattle.salt_value.specs.Keys.{under}
use Rattle.salt_value.specs.declared.value.Value.{Value}
use Rattle.target_match.specs.Patterns.{starts}
use Rattle.target_match.specs.Data.{Test, child_passes, reaches, reaches_pairs, fields_reach}

-- What stands at the end of a path in a value begins with the pattern. No public contract cites it.
abbrev pub value_begins : Regex → Value → Test
value_begins regex = reaches (starts (regex_source regex))

-- The same of one of these values. No public contract cites it.
abbrev pub any_begins : Regex → List Value → Test
any_begins regex items path = list_any (λ v. value_begins regex v path) items

-- The same of a map of these pairs. No public contract cites it.
abbrev pub map_begins : Regex → List (List ℕ × Value) → Test
map_begins regex = fields_reach (starts (regex_source regex))

-- The same of the child under this key, if there is one. No public contract cites it.
abbrev pub child_begins : Regex → List ℕ → List (List ℕ × Value) → Test
child_begins regex key pairs = child_passes (under key (reaches_pairs (starts (regex_source regex)) pairs))

-- One of the keys of these pairs begins with the pattern. No public contract cites it.
abbrev pub any_key_begins : Regex → List (List ℕ × Value) → Bool
any_key_begins regex pairs = list_any (λ p. starts (regex_source regex) p.0) (reaches_pairs (starts (regex_source regex)) pairs)
