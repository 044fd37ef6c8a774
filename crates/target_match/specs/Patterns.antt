-- Patterns: which are readable, and which texts they match from their start on.
use Rattle.std.specs.Prelude.{◌≡◌, ℕ, ◌≤◌, ◌==◌, Bool, false, List, Option, None, Some, IsSomeAnd, chars}
use Rattle.regex.specs.Patterns.{Re, Match, find_str, default_config}
use Rattle.regex.specs.Strings.{regex_config, IsReadFromSource}
use Rattle.regex.specs.declared.string.regex.Regex.{Regex}
use Rattle.regex_syntax.specs.Brackets.{Nested}
use Rattle.regex_syntax.specs.Grammar.{Names, read}

-- the grammar reads it, and its nesting is within the limit
abbrev pub IsReadable : List ℕ → Type 0
IsReadable pattern = IsSomeAnd (read default_config (chars pattern)) (λ (re, _). re.depth ≤ default_config.nest_limit)

-- a match is there and begins at 0
abbrev pub begins : Option Match → Bool
begins None = false
begins (Some m) = m.start == 0

-- the expression that was read, if one was, matches first at the start of the text
abbrev pub starts_by : Option (Nested Re × Names) → List ℕ → Bool
starts_by None text = false
starts_by (Some (re, names)) text = begins (find_str re.value text 0)

-- the first match of the pattern in the text begins at its start
abbrev pub starts : List ℕ → List ℕ → Bool
starts pattern text = starts_by (read default_config (chars pattern)) text

-- What compiling gives. No public contract cites it.
abbrev pub IsCompiled : Regex → Type 0
IsCompiled r = (regex_config r ≡ default_config) × IsReadFromSource r
