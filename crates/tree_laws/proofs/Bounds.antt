-- The top holds at most as many jobs as its fleet says.
use Rattle.std.proofs.Common.{◌≡◌, ℕ, zero, suc, ◌<◌, ◌≤◌, ◌∙◌, refl, subst, sym, inl, inr, Bool, true, false, nat_lt, ◌&&◌, ◌==◌, List, [], ◌∷◌, length, set, arith, append-nil}
use Rattle.std.specs.Prelude.{Option, None, Some, is_none, unwrap_or, not, ◌||◌, slice_get}
use Rattle.std.specs.List.{AllByRecursion}
use Rattle.std.proofs.lemmas.List.{length_push, set_past}
use Rattle.std.proofs.lemmas.Bool.{cases_lt}
use Rattle.std.proofs.lemmas.Option.{slice_get_cases}
use Rattle.fleet_config.specs.Causes.{first_cause}
use Rattle.fleet_config.specs.Fleet.{FleetConfig, IsFleet}
use Rattle.fleet_config.specs.Tree.{Tree}
use Rattle.salt_wire.specs.declared.message.Entry.{Entry}
use Rattle.salt_wire.specs.declared.message.Message.{Message}
use Rattle.salt_wire.specs.declared.message.Message.TheVariants as msg
use Rattle.salt_wire.specs.declared.deed.Deed.TheVariants.{Publish, Up}
use Rattle.node_core.specs.declared.faults.Stray.{Stray}
use Rattle.node_core.specs.declared.faults.Stray.TheVariants.{NotNeighbour, WrongWay, BadPattern}
use Rattle.node_core.specs.Records.{jobs, log}
use Rattle.target_match.specs.Readability.{unread_leaf}
use Rattle.node_core.specs.Publications.{order}
use Rattle.node_core.specs.Node.{NodeState, MessageResult, with_record, with_next_record, after_pub, after_message, is_neighbour, may_take, runs_next, stray_of, unless_stray, message_result}
use Rattle.fleet_turns.specs.declared.turn.Turn.{Turn}
use Rattle.fleet_turns.specs.declared.turn.Turn.TheVariants as kind
use Rattle.fleet_turns.specs.Turns.{IsTurn}
use Rattle.tree_world.specs.Network.{Network, node_at, start, top_jobs, after_receipt, after_delivery}
use Rattle.tree_world.specs.Settle.{after_settle}
use Rattle.tree_world.specs.Runs.{after, after_all}
use Rattle.tree_laws.specs.Invariant.{Holds}
use Rattle.tree_laws.proofs.Records.{jobs_push}
use Rattle.tree_laws.proofs.Calls.{at_same, at_other}
use Rattle.tree_laws.proofs.Published.{published_either}
use Rattle.tree_laws.proofs.Turns.{by_receiver, first_jobs, start_holds}
use Rattle.tree_laws.proofs.Parts.{settle_keeps}
use Rattle.tree_laws.proofs.After.{after_step}

-- ---- no message changes the jobs of the top, which has no parent

recorded_same : (t : Bool) (id : List ℕ) (entry : Entry) (node : NodeState) → jobs (with_next_record t (Up id entry) node).records ≡ jobs node.records
recorded_same true id entry node = jobs_push node.records (Up id entry) ∙ append-nil (jobs node.records)
recorded_same false id entry node = refl

by_stray : (o : Option Stray) (node : NodeState) (done : MessageResult) → jobs done.node.records ≡ jobs node.records → jobs (unless_stray o node done).node.records ≡ jobs node.records
by_stray None node done e = e
by_stray (Some cause) node done e = refl

job_stray : (a b c : Bool) (x : Stray) (node : NodeState) (done : MessageResult)
    → jobs (unless_stray (first_cause ((a, NotNeighbour) ∷ (false && b, WrongWay) ∷ (c, x) ∷ [])) node done).node.records ≡ jobs node.records
job_stray true b c x node done = refl
job_stray false b c x node done = refl

top_taken : (t : Tree) (from : ℕ) (message : Message) (node : NodeState) → jobs (message_result t 0 from message node).node.records ≡ jobs node.records
top_taken t from (msg.Pub seq job) node = job_stray (is_neighbour t 0 from) (may_take seq job node) (not (runs_next seq node) || is_none (unread_leaf job.target)) (BadPattern (unwrap_or (unread_leaf job.target) 0)) node (after_pub t 0 seq job node)
top_taken t from (msg.Have n) node = by_stray (stray_of t 0 from (msg.Have n) node) node (after_message t 0 from (msg.Have n) node) refl
top_taken t from (msg.Up id n entry) node =
    by_stray (stray_of t 0 from (msg.Up id n entry) node) node (after_message t 0 from (msg.Up id n entry) node) (recorded_same (n == length (log id node.records)) id entry node)
top_taken t from (msg.UpHave id n) node = by_stray (stray_of t 0 from (msg.UpHave id n) node) node (after_message t 0 from (msg.UpHave id n) node) refl
top_taken t from other node = by_stray (stray_of t 0 from other node) node (after_message t 0 from other node) refl

taken_at : (t : Tree) (nodes : List NodeState) (k from : ℕ) (message : Message) → k ≡ 0
    → jobs (message_result t k from message (node_at nodes k)).node.records ≡ jobs (node_at nodes 0).records
taken_at t nodes zero from message e = top_taken t from message (node_at nodes 0)
taken_at t nodes (suc k) from message e = absurd (omega arith)

set_top : (nodes : List NodeState) (k : ℕ) (v : NodeState) → (k ≡ 0 → jobs v.records ≡ jobs (node_at nodes 0).records)
    → jobs (node_at (set nodes k v) 0).records ≡ jobs (node_at nodes 0).records
set_top nodes zero v h = elim (cases_lt 0 (length nodes)) [
  | inl l ↦ rw (at_same nodes 0 v l) (h refl)
  | inr l ↦ rw (set_past nodes 0 v l) refl
]
set_top nodes (suc k) v h = rw (at_other nodes 0 (suc k) v (λ e. omega arith)) refl

pub delivered_top : (f : FleetConfig) (w : Network) (i : ℕ) → top_jobs (after_delivery f w (slice_get w.packets i)) ≡ top_jobs w
delivered_top f w i = elim (slice_get_cases w.packets i).1 [
  | inl c ↦ rw c.2 (by_receiver (λ v. top_jobs v ≡ top_jobs w) (nat_lt c.0.to (length w.nodes)) w (after_receipt f w c.0) refl
      (set_top w.nodes c.0.to (message_result f.tree c.0.to c.0.from c.0.message (node_at w.nodes c.0.to)).node
      (taken_at f.tree w.nodes c.0.to c.0.from c.0.message)))
  | inr c ↦ rw c.1 refl
]

-- a settle delivers messages only
pub settled_top : (f : FleetConfig) (w : Network) → top_jobs (after_settle f w) ≡ top_jobs w
settled_top f w = settle_keeps f (λ u v. top_jobs v ≡ top_jobs u) (λ v. refl) (λ u v x a b. b ∙ a) (λ v p. refl) (delivered_top f) w

-- ---- every run

after_bound : (f : FleetConfig) (turn : Turn) (w : Network) → 0 < length w.nodes → length (top_jobs w) ≤ f.max_jobs → length (top_jobs (after f turn w)) ≤ f.max_jobs
after_bound f (kind.Publish moment k tgt fun args) w some h =
    published_either (λ v. length (top_jobs v) ≤ f.max_jobs) f w moment (order k tgt fun args) h
    (λ job new. rw (at_same w.nodes 0 (with_record (Publish job) (node_at w.nodes 0)) some, jobs_push)
    (let few = new.few in let e = length_push (top_jobs w) job in omega arith))
after_bound f (kind.Send from to count) w some h = h
after_bound f (kind.Deliver i) w some h = subst (λ js. length js ≤ f.max_jobs) (sym (delivered_top f w i)) h
after_bound f kind.Settle w some h = subst (λ js. length js ≤ f.max_jobs) (sym (settled_top f w)) h
after_bound f (kind.Report jid) w some h = h
after_bound f (kind.Exit jid) w some h = h
after_bound f kind.Jobs w some h = h
after_bound f kind.Summary w some h = h
after_bound f (kind.Data node) w some h = h
after_bound f (kind.Counts node) w some h = h
after_bound f (kind.Packet i) w some h = h

run_bound : (f : FleetConfig) (turns : List Turn) (w : Network) → IsFleet f → AllByRecursion (IsTurn f) turns → Holds f.tree w
    → length (top_jobs w) ≤ f.max_jobs → length (top_jobs (after_all f turns w)) ≤ f.max_jobs
run_bound f [] w fleet all h l = l
run_bound f (turn ∷ turns) w fleet all h l =
    let s = h.size in
    let some = fleet.tree.some in
    run_bound f turns (after f turn w) fleet all.1 (after_step f turn w fleet all.0 h) (after_bound f turn w (omega arith) l)

pub top_bound : (f : FleetConfig) (turns : List Turn) → IsFleet f → AllByRecursion (IsTurn f) turns → length (top_jobs (after_all f turns (start f))) ≤ f.max_jobs
top_bound f turns fleet all = run_bound f turns (start f) fleet all (start_holds f fleet.tree) (rw (first_jobs f fleet.tree) (omega arith))
