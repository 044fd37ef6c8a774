use Rattle.std.proofs.Common.{◌≡◌, ◌≤◌, ◌+◌, drop, length}
use Rattle.std.specs.Prelude.{filter_map}
use Rattle.fleet_config.specs.Tree.{id_of}
use Rattle.minion_core.specs.Flat.{row_of, return_of}
use Rattle.node_core.specs.Records.{log}
use Rattle.tree_world.specs.Report.{report}
use Rattle.tree_world.proofs.report.job_row_count.Given as goal

-- the rows so far and those of the minions that are left, at most one for each minion
abbrev pub invariant-loop-minion : goal.invariant-loop-minion
invariant-loop-minion l = record {
  count : l.rows
      + length (filter_map (λ m. row_of (id_of l.fleet.tree m) (return_of l.seq (log (id_of l.fleet.tree m) l.node.state.records))) (drop l.minion-index l.order))
      ≡ length (report l.fleet.tree l.node.state.records l.seq);
  few : l.rows ≤ l.minion-index;
}
