use Rattle.std.proofs.Common.{List, subst, sym}
use Rattle.fleet_config.specs.Fleet.{FleetConfig}
use Rattle.fleet_turns.specs.declared.turn.Turn.{Turn}
use Rattle.fleet_turns.specs.Turns.{IsTurn}
use Rattle.tree_world.specs.Network.{Network, start, top_jobs}
use Rattle.tree_laws.specs.Invariant.{Holds}
use Rattle.tree_laws.specs.Laws.{IsRun, network_after, IsReportFlat}
use Rattle.tree_laws.proofs.Lists.{prefix_same}
use Rattle.tree_laws.proofs.Turns.{start_holds}
use Rattle.tree_laws.proofs.After.{run_holds}
use Rattle.tree_laws.proofs.Laws.{prefix_law, jobs_law, names_law, packets_law, acted_law, outcomes_law, report_law, so_far_law, none_stray_law}
use Rattle.tree_laws.proofs.Bounds.{top_bound}
use Rattle.tree_laws.proofs.Whence.{top_told}
use Rattle.tree_laws.proofs.Rows.{flat_rows, rows_ascend}
use Rattle.tree_laws.proofs.Grows.{run_grows, top_grows}
use Rattle.tree_laws.proofs.Runs.{after_append, all_front}
use Rattle.tree_laws.proofs.whole_runs.Goals as goal

holds : (f : FleetConfig) (turns : List Turn) → IsRun f turns → Holds f.tree (network_after f turns)
holds f turns run = run_holds f turns (start f) run.fleet run.each (start_holds f run.fleet.tree)

pub returns : goal.returns
returns c = record {
  invariant = holds;
  prefixes = λ f turns run c lo up. prefix_law f.tree (network_after f turns) c run.fleet.tree (holds f turns run) lo up;
  jobs_in_order = λ f turns run. jobs_law f (network_after f turns) (holds f turns run) (top_bound f turns run.fleet run.each);
  published = λ f turns run. top_told f turns run.fleet run.each;
  names_held = λ f turns run i l. names_law f.tree (network_after f turns) i (holds f turns run) l;
  packets_fit = λ f turns run. packets_law f.tree (network_after f turns) (holds f turns run);
  acted_once = λ f turns run m up z. acted_law f.tree (network_after f turns) m (holds f turns run) up z;
  outcomes = λ f turns run p m seq up z i. outcomes_law f.tree (network_after f turns) p m seq run.fleet.tree (holds f turns run) up z i;
  reports = λ f turns run seq. report_law f.tree (network_after f turns) (top_jobs (network_after f turns)) seq run.fleet.tree (holds f turns run) (prefix_same (top_jobs (network_after f turns)));
  reports_stay = λ f turns later seq run.
      subst (λ (w : Network). IsReportFlat f.tree (top_jobs w) (network_after f turns) seq) (sym (after_append f turns later (start f)))
      (report_law f.tree (network_after f turns) _ seq run.fleet.tree (holds f turns run) (top_grows f later (network_after f turns)));
  reports_so_far = λ f turns run seq. so_far_law f.tree (network_after f turns) (top_jobs (network_after f turns)) seq run.fleet.tree (holds f turns run) (prefix_same (top_jobs (network_after f turns)));
  flat_rows = λ f fleet jobs seq. flat_rows f.tree jobs seq fleet.tree;
  rows_ascend = λ f fleet outcome. rows_ascend f.tree outcome fleet.tree;
  none_stray = λ f turns run. none_stray_law f.tree (network_after f turns) run.fleet.tree (holds f turns run);
  grows = run_grows;
  after_append = after_append;
  front = λ f turns later all. all_front (IsTurn f) turns later all;
}
