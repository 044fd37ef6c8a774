-- No turn takes a record away.
use Rattle.std.proofs.Common.{ℕ, ◌==◌, refl, inl, inr, Bool, true, false, nat_lt, List, [], ◌∷◌, length, set}
use Rattle.std.specs.Prelude.{Option, None, Some, slice_get}
use Rattle.std.proofs.lemmas.List.{set_past}
use Rattle.std.proofs.lemmas.Bool.{cases_lt}
use Rattle.std.proofs.lemmas.Option.{slice_get_cases}
use Rattle.fleet_config.specs.Tree.{Tree}
use Rattle.fleet_config.specs.Fleet.{FleetConfig}
use Rattle.node_core.specs.declared.faults.Stray.{Stray}
use Rattle.salt_wire.specs.declared.deed.Deed.{Deed}
use Rattle.salt_wire.specs.declared.deed.Deed.TheVariants.{Publish, Up}
use Rattle.salt_wire.specs.declared.message.Message.{Message}
use Rattle.salt_wire.specs.declared.message.Message.TheVariants as msg
use Rattle.node_core.specs.Records.{jobs_held, log}
use Rattle.node_core.specs.Publications.{order}
use Rattle.node_core.specs.Node.{NodeState, MessageResult, with_record, with_next_record, taken_in, after_message, stray_of, unless_stray, message_result}
use Rattle.fleet_turns.specs.declared.turn.Turn.{Turn}
use Rattle.fleet_turns.specs.declared.turn.Turn.TheVariants as kind
use Rattle.tree_world.specs.Network.{Network, node_at, top_jobs, after_receipt, after_delivery}
use Rattle.tree_world.specs.Runs.{after, after_all}
use Rattle.tree_laws.specs.Lists.{IsPrefix}
use Rattle.tree_laws.proofs.Lists.{prefix_same, prefix_trans}
use Rattle.tree_laws.proofs.Records.{jobs_prefix}
use Rattle.tree_laws.proofs.Calls.{at_grows}
use Rattle.tree_laws.proofs.Published.{published_either}
use Rattle.tree_laws.proofs.Turns.{by_receiver}
use Rattle.tree_laws.proofs.Parts.{settle_keeps}

-- one call on a node
recorded_grows : (t : Bool) (new : Deed) (node : NodeState) → IsPrefix node.records (with_next_record t new node).records
recorded_grows true new node = (new ∷ [], refl)
recorded_grows false new node = prefix_same node.records

accepted_grows : (f : Tree) (me from : ℕ) (message : Message) (node : NodeState) → IsPrefix node.records (after_message f me from message node).node.records
accepted_grows f me from (msg.Pub seq job) node = recorded_grows (seq == jobs_held node.records) (taken_in f me seq job node) node
accepted_grows f me from (msg.Have n) node = prefix_same node.records
accepted_grows f me from (msg.Up id n entry) node = recorded_grows (n == length (log id node.records)) (Up id entry) node
accepted_grows f me from (msg.UpHave id n) node = prefix_same node.records
accepted_grows f me from other node = prefix_same node.records

taken_by_grows : (o : Option Stray) (node : NodeState) (done : MessageResult) → IsPrefix node.records done.node.records → IsPrefix node.records (unless_stray o node done).node.records
taken_by_grows None node done p = p
taken_by_grows (Some cause) node done p = prefix_same node.records

taken_grows : (f : Tree) (me from : ℕ) (message : Message) (node : NodeState) → IsPrefix node.records (message_result f me from message node).node.records
taken_grows f me from message node = taken_by_grows (stray_of f me from message node) node (after_message f me from message node) (accepted_grows f me from message node)

-- one network has the records of another, and maybe more
abbrev pub Grew : Network → Network → Type 0
Grew w v = (i : ℕ) → IsPrefix (node_at w.nodes i).records (node_at v.nodes i).records

set_grows : (nodes : List NodeState) (k : ℕ) (v : NodeState) → IsPrefix (node_at nodes k).records v.records
    → (i : ℕ) → IsPrefix (node_at nodes i).records (node_at (set nodes k v) i).records
set_grows nodes k v p i = elim (cases_lt k (length nodes)) [
  | inl l ↦ at_grows nodes k v l p i
  | inr l ↦ rw (set_past nodes k v l) (prefix_same (node_at nodes i).records)
]

delivered_grows : (f : FleetConfig) (w : Network) (i : ℕ) → Grew w (after_delivery f w (slice_get w.packets i))
delivered_grows f w i = elim (slice_get_cases w.packets i).1 [
  | inl c ↦ rw c.2 (by_receiver (Grew w) (nat_lt c.0.to (length w.nodes)) w (after_receipt f w c.0) (λ j. prefix_same (node_at w.nodes j).records)
      (set_grows w.nodes c.0.to (message_result f.tree c.0.to c.0.from c.0.message (node_at w.nodes c.0.to)).node
      (taken_grows f.tree c.0.to c.0.from c.0.message (node_at w.nodes c.0.to))))
  | inr c ↦ rw c.1 (λ i. prefix_same (node_at w.nodes i).records)
]

after_grows : (f : FleetConfig) (turn : Turn) (w : Network) → Grew w (after f turn w)
after_grows f (kind.Publish moment k tgt fun args) w =
    published_either (Grew w) f w moment (order k tgt fun args) (λ i. prefix_same (node_at w.nodes i).records)
    (λ job new. set_grows w.nodes 0 (with_record (Publish job) (node_at w.nodes 0)) (Publish job ∷ [], refl))
after_grows f (kind.Send from to count) w = λ i. prefix_same (node_at w.nodes i).records
after_grows f (kind.Deliver i) w = delivered_grows f w i
after_grows f kind.Settle w =
    settle_keeps f Grew (λ v i. prefix_same (node_at v.nodes i).records) (λ u v x a b i. prefix_trans _ _ _ (a i) (b i))
    (λ v p i. prefix_same (node_at v.nodes i).records) (delivered_grows f) w
after_grows f (kind.Report jid) w = λ i. prefix_same (node_at w.nodes i).records
after_grows f (kind.Exit jid) w = λ j. prefix_same (node_at w.nodes j).records
after_grows f kind.Jobs w = λ j. prefix_same (node_at w.nodes j).records
after_grows f kind.Summary w = λ j. prefix_same (node_at w.nodes j).records
after_grows f (kind.Data node) w = λ j. prefix_same (node_at w.nodes j).records
after_grows f (kind.Counts node) w = λ j. prefix_same (node_at w.nodes j).records
after_grows f (kind.Packet i) w = λ j. prefix_same (node_at w.nodes j).records

pub run_grows : (f : FleetConfig) (turns : List Turn) (w : Network) → Grew w (after_all f turns w)
run_grows f [] w = λ i. prefix_same (node_at w.nodes i).records
run_grows f (turn ∷ turns) w = λ i. prefix_trans _ _ _ (after_grows f turn w i) (run_grows f turns (after f turn w) i)

pub top_grows : (f : FleetConfig) (turns : List Turn) (w : Network) → IsPrefix (top_jobs w) (top_jobs (after_all f turns w))
top_grows f turns w = jobs_prefix _ _ (run_grows f turns w 0)
