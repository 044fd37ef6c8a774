-- Each job of the top was published by one of the turns.
use Rattle.std.proofs.Common.{suc, ◌<◌, sym, refl, subst, List, [], ◌∷◌, length, arith}
use Rattle.std.specs.Prelude.{Contains}
use Rattle.std.specs.List.{AllByRecursion}
use Rattle.std.proofs.lemmas.List.Elements.{All-from_recursion}
use Rattle.fleet_config.specs.Fleet.{FleetConfig, IsFleet}
use Rattle.salt_wire.specs.declared.deed.Deed.TheVariants.{Publish}
use Rattle.node_core.specs.Node.{with_record}
use Rattle.node_core.specs.Publications.{order}
use Rattle.fleet_turns.specs.declared.turn.Turn.{Turn}
use Rattle.fleet_turns.specs.declared.turn.Turn.TheVariants as kind
use Rattle.tree_world.specs.Network.{Network, node_at, start, top_jobs}
use Rattle.tree_world.specs.Runs.{after, after_all}
use Rattle.tree_laws.specs.Invariant.{Holds}
use Rattle.tree_laws.specs.Laws.{AreTurns, IsPublishedBy, ArePublished}
use Rattle.tree_laws.proofs.Lists.{all_join}
use Rattle.tree_laws.proofs.Records.{jobs_push}
use Rattle.tree_laws.proofs.Calls.{at_same}
use Rattle.tree_laws.proofs.Published.{published_either}
use Rattle.tree_laws.proofs.Turns.{first_jobs, start_holds}
use Rattle.tree_laws.proofs.After.{after_step}
use Rattle.tree_laws.proofs.Bounds.{delivered_top, settled_top}

-- each job of the top is that of a publication among these turns
abbrev Told : FleetConfig → List Turn → Network → Type 0
Told f all w = AllByRecursion (IsPublishedBy f all) (top_jobs w)

after_told : (f : FleetConfig) (all : List Turn) (turn : Turn) (w : Network) → Contains all turn → 0 < length w.nodes → Told f all w → Told f all (after f turn w)
after_told f all (kind.Publish moment k tgt fun args) w here some h =
    published_either (Told f all) f w moment (order k tgt fun args) h
    (λ job new. rw (at_same w.nodes 0 (with_record (Publish job) (node_at w.nodes 0)) some, jobs_push)
    (all_join (IsPublishedBy f all) (top_jobs w) (job ∷ []) h
    (record { moment = moment; order = order k tgt fun args; turn = here; tree = new.tree; is = new.is }, tt)))
after_told f all (kind.Send from to count) w here some h = h
after_told f all (kind.Deliver i) w here some h = subst (λ js. AllByRecursion (IsPublishedBy f all) js) (sym (delivered_top f w i)) h
after_told f all kind.Settle w here some h = subst (λ js. AllByRecursion (IsPublishedBy f all) js) (sym (settled_top f w)) h
after_told f all (kind.Report jid) w here some h = h
after_told f all (kind.Exit jid) w here some h = h
after_told f all kind.Jobs w here some h = h
after_told f all kind.Summary w here some h = h
after_told f all (kind.Data node) w here some h = h
after_told f all (kind.Counts node) w here some h = h
after_told f all (kind.Packet i) w here some h = h

-- the first of some turns, and the others
first_in : (turn : Turn) (turns : List Turn) → Contains (turn ∷ turns) turn
first_in turn turns = (0, omega arith, refl)

later_in : (turn : Turn) (turns : List Turn) (x : Turn) → Contains turns x → Contains (turn ∷ turns) x
later_in turn turns x h = (suc h.0, omega (arith, h.1), h.2)

run_told : (f : FleetConfig) (all turns : List Turn) (w : Network) → ((turn : Turn) → Contains turns turn → Contains all turn)
    → IsFleet f → AreTurns f turns → Holds f.tree w → Told f all w → Told f all (after_all f turns w)
run_told f all [] w among fleet each h told = told
run_told f all (turn ∷ turns) w among fleet each h told =
    let s = h.size in
    let some = fleet.tree.some in
    run_told f all turns (after f turn w) (λ x there. among x (later_in turn turns x there)) fleet each.1
    (after_step f turn w fleet each.0 h)
    (after_told f all turn w (among turn (first_in turn turns)) (omega arith) told)

pub top_told : (f : FleetConfig) (turns : List Turn) → IsFleet f → AreTurns f turns → ArePublished f turns
top_told f turns fleet each =
    All-from_recursion (IsPublishedBy f turns) (top_jobs (after_all f turns (start f)))
    (run_told f turns turns (start f) (λ x there. there) fleet each (start_holds f fleet.tree)
    (subst (λ js. AllByRecursion (IsPublishedBy f turns) js) (sym (first_jobs f fleet.tree)) tt))
