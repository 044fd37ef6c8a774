use Rattle.std.proofs.Common.{List, ◌∷◌, subst, sym}
use Rattle.fleet_config.specs.Fleet.{FleetConfig}
use Rattle.fleet_turns.specs.declared.turn.Turn.{Turn}
use Rattle.fleet_turns.specs.declared.turn.Turn.TheVariants.{Settle}
use Rattle.fleet_turns.specs.Turns.{IsTurn}
use Rattle.tree_world.specs.Network.{Network, start}
use Rattle.tree_laws.specs.Invariant.{Holds}
use Rattle.tree_laws.specs.Laws.{IsRun, network_after}
use Rattle.tree_laws.specs.Settles.{IsReportWhole}
use Rattle.tree_laws.proofs.Turns.{start_holds}
use Rattle.tree_laws.proofs.After.{run_holds}
use Rattle.tree_laws.proofs.Runs.{after_append, all_parts}
use Rattle.tree_laws.proofs.Whole.{settle_law, whole_law}
use Rattle.tree_laws.proofs.PacketCounts.{bound_law}
use Rattle.tree_laws.proofs.whole_settles.Goals as goal

holds : (f : FleetConfig) (turns : List Turn) → IsRun f turns → Holds f.tree (network_after f turns)
holds f turns run = run_holds f turns (start f) run.fleet run.each (start_holds f run.fleet.tree)

pub returns : goal.returns
returns c = record {
  settles = λ f turns run. settle_law f (network_after f turns) run.fleet.tree (holds f turns run);
  settle_bound = λ f turns run. bound_law f (network_after f turns) run.fleet.tree (holds f turns run);
  reports_whole = λ f turns later seq run l.
      let parts = all_parts (IsTurn f) turns (Settle ∷ later) run.each in
      subst (λ (w : Network). IsReportWhole f.tree w seq) (sym (after_append f turns (Settle ∷ later) (start f)))
      (whole_law f (network_after f turns) later 0 seq run.fleet (holds f turns (record { fleet = run.fleet; each = parts.0 })) parts.1.1 l);
}
