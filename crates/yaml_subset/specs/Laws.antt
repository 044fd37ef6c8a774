-- What a fault says of the lines of a text.
use Rattle.std.specs.Prelude.{◌≡◌, ℕ, ◌+◌, List, ◌∷◌, ◌++◌, length, Err, IsOk}
use Rattle.yaml_words.specs.declared.fault.YamlCause.{YamlCause}
use Rattle.yaml_words.specs.declared.fault.YamlFault.TheVariants.{Line}
use Rattle.yaml_subset.specs.Document.{lines_of, yaml_reading, lines_tree}

-- One of the lines brings this fault: it has this number, the lines before it are read, and with it they have the fault, whatever lines follow.
pub record BreaksAt (first : ℕ) (lines : List (List ℕ)) (n : ℕ) (cause : YamlCause) : Type 0 where
  pub before : List (List ℕ)
  pub line : List ℕ
  pub after : List (List ℕ)
  pub parts : lines ≡ before ++ line ∷ after
  pub number : n ≡ first + length before
  pub read : IsOk (lines_tree first before)
  pub broken : (more : List (List ℕ)) → lines_tree first (before ++ line ∷ more) ≡ Err (Line n cause)

-- each fault that the text has, with its lines numbered from here on, is brought by the line with its number
abbrev pub EachFaultBreaks : ℕ → List ℕ → Type 0
EachFaultBreaks first text =
    (n : ℕ) (cause : YamlCause) → yaml_reading first text ≡ Err (Line n cause) → BreaksAt first (lines_of text) n cause
