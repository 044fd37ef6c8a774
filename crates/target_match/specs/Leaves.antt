-- What is made once of a pattern leaf's text.
use Rattle.std.specs.Prelude.{◌≡◌, ℕ, List}
use Rattle.regex.specs.Strings.{regex_source}
use Rattle.regex.specs.declared.string.regex.Regex.{Regex}
use Rattle.target_match.specs.Patterns.{IsCompiled}
use Rattle.target_match.specs.Paths.{parts, path_of, pattern_of}

-- The path and the compiled pattern of a leaf's text. No public contract cites it.
pub record IsDataPattern (text : List ℕ) (path : List (List ℕ)) (regex : Regex) : Type 0 where
  pub path_is : path ≡ path_of (parts text)
  pub source : regex_source regex ≡ pattern_of (parts text)
  pub compiled : IsCompiled regex
