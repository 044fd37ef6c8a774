use Rattle.std.proofs.Common.{◌≡◌, ◌≤◌, ◌+◌, drop, length}
use Rattle.std.specs.Prelude.{filter}
use Rattle.node_core.specs.NextRecords.{is_return}
use Rattle.node_core.proofs.next.return_count.Given as goal

-- the returns so far and those of the entries that are left are all
abbrev pub invariant-loop-entry : goal.invariant-loop-entry
invariant-loop-entry l = record {
  all : l.count + length (filter is_return (drop l.entry-index l.entries)) ≡ length (filter is_return l.entries);
  few : l.count ≤ l.entry-index;
}
