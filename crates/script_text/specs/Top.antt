-- The lines of the top at the front of a text.
use Rattle.std.specs.Prelude.{ℕ, ◌≡◌, List, ◌∷◌, ◌++◌}
use Rattle.script_text.specs.Lines.{lines_of}
use Rattle.script_text.specs.Script.{IsName, id_line, top_lines}

-- The first line is that of this id, and this comes after it. No public contract cites it.
abbrev pub HasFirstId : List ℕ → List ℕ → List ℕ → Type 0
HasFirstId text id rest = IsName id × (lines_of text ≡ id_line id ∷ lines_of rest)

-- The first line, if any, is not that of an id. No public contract cites it.
abbrev pub LacksFirstId : List ℕ → Type 0
LacksFirstId text = (id : List ℕ) (more : List (List ℕ)) → IsName id → lines_of text ≡ id_line id ∷ more → ⊥

-- The first four lines are those of the top with this id, and this comes after them. No public contract cites it.
abbrev pub HasTop : List ℕ → List ℕ → List ℕ → Type 0
HasTop text id rest = IsName id × (lines_of text ≡ top_lines id ++ lines_of rest)
