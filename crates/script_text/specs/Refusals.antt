-- The line at which a text is refused.
use Rattle.std.specs.Prelude.{ℕ, ◌≡◌, ◌<◌, ◌≤◌, ◌+◌, ◌-◌, List, ◌++◌, length, take}
use Rattle.script_text.specs.declared.script.Script.{Script}
use Rattle.script_text.specs.Lines.{lines_of}
use Rattle.script_text.specs.Script.{IsScript, script_lines, Spells}

-- some script begins with these lines
abbrev pub GoesOn : List (List ℕ) → Type 0
GoesOn lines = (s : Script) × IsScript s × ((rest : List (List ℕ)) × (lines ++ rest ≡ script_lines s))

-- The first line, from 1, with which no script goes on, or the number after the last line where each of them goes on.
pub record IsRefusedAt (n : ℕ) (text : List ℕ) : Type 0 where
  pub some : 0 < n
  pub within : n ≤ length (lines_of text) + 1
  pub before : GoesOn (take (n - 1) (lines_of text))
  pub here : n ≤ length (lines_of text) → GoesOn (take n (lines_of text)) → ⊥
  pub none : (s : Script) → Spells s text → ⊥
