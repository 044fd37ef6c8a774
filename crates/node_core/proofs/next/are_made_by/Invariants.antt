use Rattle.std.proofs.Common.{◌≡◌, drop}
use Rattle.std.specs.List.{list_all}
use Rattle.node_core.specs.NextRecords.{is_made_by}
use Rattle.node_core.proofs.next.are_made_by.Given as goal

-- the entries that are left decide
abbrev pub invariant-loop-entry : goal.invariant-loop-entry
invariant-loop-entry l = list_all (is_made_by l.seq) (drop l.entry-index l.entries) ≡ list_all (is_made_by l.seq) l.entries
