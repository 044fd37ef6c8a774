use Rattle.std.proofs.Common.{◌≡◌, ◌++◌, drop}
use Rattle.std.specs.Prelude.{flat_map}
use Rattle.tree_world.specs.Text.{exit_text, exit_row_text}
use Rattle.tree_world.proofs.queries.exit_text.Given as goal

-- the text so far and that of the rows left are the whole text
abbrev pub invariant-loop-row : goal.invariant-loop-row
invariant-loop-row l = l.out.items ++ flat_map exit_row_text (drop l.row-index l.rows) ≡ exit_text l.fn.jid l.rows
