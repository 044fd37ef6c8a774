-- What a line is read as: a value, or a fault of that line.
use Rattle.std.specs.Prelude.{◌≡◌, ℕ, Option, None, Some, Result, Ok, Err}
use Rattle.yaml_words.specs.declared.fault.YamlCause.{YamlCause}
use Rattle.yaml_words.specs.declared.fault.YamlFault.{YamlFault}
use Rattle.yaml_words.specs.declared.fault.YamlFault.TheVariants.{NoMemory, Line}

-- this fault is to be given, unless memory ran out
abbrev pub FailsYaml : {A : Type 0} → YamlFault → Result A YamlFault → Type 0
FailsYaml NoMemory to = Unit {0}
FailsYaml (Line line cause) to = to ≡ Err (Line line cause)

-- this answer is to be given, unless memory ran out
abbrev pub GivesYaml : {A : Type 0} → Result A YamlFault → Result A YamlFault → Type 0
GivesYaml (Ok x) to = to ≡ Ok x
GivesYaml (Err e) to = FailsYaml e to

-- a fault of the line with this number
abbrev pub refused : {A : Type 0} → ℕ → YamlCause → Result A YamlFault
refused line cause = Err (Line line cause)

-- this, unless there is a cause to refuse the line
abbrev pub unless : {A : Type 0} → ℕ → Option YamlCause → A → Result A YamlFault
unless line None x = Ok x
unless line (Some cause) x = refused line cause

-- whatever fault there is, it is told with this number of a line
pub record IsOnLine {A : Type 0} (line : ℕ) (read : Result A YamlFault) : Type 0 where
  pub told : (n : ℕ) (cause : YamlCause) → read ≡ Err (Line n cause) → n ≡ line
