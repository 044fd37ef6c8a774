use Rattle.std.proofs.Common.{◌≡◌, ◌≤◌, ◌*◌}
use Rattle.tree_world.specs.Report.{row_count}
use Rattle.tree_world.proofs.report.row_count.Given as goal

-- the rows of the jobs so far, each with a count of 32 bits
abbrev pub invariant-loop-seq : goal.invariant-loop-seq
invariant-loop-seq l = record {
  count : l.rows ≡ row_count l.fleet.tree l.node.state.records l.seq;
  few : l.rows ≤ 4294967295 * l.seq;
}
