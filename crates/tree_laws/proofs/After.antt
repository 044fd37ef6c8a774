-- What each turn keeps, and a run.
use Rattle.std.proofs.Common.{List, [], ◌∷◌, arith}
use Rattle.std.specs.List.{AllByRecursion}
use Rattle.fleet_config.specs.Fleet.{FleetConfig, IsFleet}
use Rattle.node_core.specs.Publications.{order}
use Rattle.fleet_turns.specs.declared.turn.Turn.{Turn}
use Rattle.fleet_turns.specs.declared.turn.Turn.TheVariants as kind
use Rattle.fleet_turns.specs.Turns.{IsTurn}
use Rattle.tree_world.specs.Network.{Network, node_at}
use Rattle.tree_world.specs.Runs.{after, after_all}
use Rattle.tree_laws.specs.Invariant.{Holds}
use Rattle.tree_laws.proofs.Published.{published_either}
use Rattle.tree_laws.proofs.Turns.{add_step, send_step, pending_fits, delivered_step}
use Rattle.tree_laws.proofs.Passes.{settle_step}

pub after_step : (f : FleetConfig) (turn : Turn) (w : Network) → IsFleet f → IsTurn f turn → Holds f.tree w → Holds f.tree (after f turn w)
after_step f (kind.Publish moment k tgt fun args) w fleet t h =
    published_either (Holds f.tree) f w moment (order k tgt fun args) h
    (λ job new. let l = fleet.limits.few_jobs in let few = new.few in add_step f.tree w job fleet.tree h (omega arith) new.later new.readable)
after_step f (kind.Send from to count) w fleet t h = send_step f w from to count h t.0 t.1 (pending_fits f.tree from to (node_at w.nodes from) fleet.tree t.3)
after_step f (kind.Deliver i) w fleet t h = delivered_step f w i fleet.tree h
after_step f kind.Settle w fleet t h = settle_step f w fleet.tree h
after_step f (kind.Report jid) w fleet t h = h
after_step f (kind.Exit jid) w fleet t h = h
after_step f kind.Jobs w fleet t h = h
after_step f kind.Summary w fleet t h = h
after_step f (kind.Data node) w fleet t h = h
after_step f (kind.Counts node) w fleet t h = h
after_step f (kind.Packet i) w fleet t h = h

pub run_holds : (f : FleetConfig) (turns : List Turn) (w : Network) → IsFleet f → AllByRecursion (IsTurn f) turns → Holds f.tree w → Holds f.tree (after_all f turns w)
run_holds f [] w fleet t h = h
run_holds f (turn ∷ turns) w fleet t h = run_holds f turns (after f turn w) fleet t.1 (after_step f turn w fleet t.0 h)
