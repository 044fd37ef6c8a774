-- The states of nodes, and nodes at their places.
use Rattle.std.proofs.Common.{◌≡◌, ℕ, zero, suc, ◌+◌, ◌<◌, All, ◌∙◌, sym, ap, refl, subst, List, [], ◌∷◌, ◌++◌, length, set, get_or, take, map, Option, arith}
use Rattle.std.specs.Prelude.{Result, Ok, Err, IfOk, IfErr, OnErr}
use Rattle.std.proofs.lemmas.List.{length-set, length-map, length_push, map-set, map-append}
use Rattle.salt_wire.specs.declared.message.Message.{Message}
use Rattle.std.proofs.Math.Seq.{take-suc}
use Rattle.exec_functions.specs.Limits.{no_holdings}
use Rattle.fleet_config.specs.declared.fleet.Member.{Member}
use Rattle.fleet_config.specs.declared.fleet.Role.TheVariants as role
use Rattle.fleet_config.specs.Fleet.{FleetConfig}
use Rattle.node_core.specs.declared.faults.TakeFault.{TakeFault}
use Rattle.node_core.specs.declared.faults.PublishFault.{PublishFault}
use Rattle.node_core.specs.Node.{NodeState, PlacedNode, MessageResult, message_result, reply_answer, first_node, starting_node, TakesMessage, DeniesMessage, IsTakeFault}
use Rattle.node_core.specs.Publications.{Order, PublishesOrder, DeniesOrder, Publishes, IsPublishFault}
use Rattle.fleet_config.specs.Tree.{minions}
use Rattle.tree_world.specs.Network.{node_at}
use Rattle.tree_world.specs.Report.{by_id}
use Rattle.tree_world.specs.Nodes.{FleetNodes, ArePlacedFrom, ArePlaced, AreStarted, IsWhole, TakesAt, StaysAt, PublishesAtTop, states_of}

-- the state at a place
pub state_at : (nodes : List PlacedNode) (i : ℕ) (d : PlacedNode) → i < length nodes → node_at (states_of nodes) i ≡ (get_or nodes i d).state
state_at [] i d l = absurd (omega arith)
state_at (m ∷ nodes) zero d l = refl
state_at (m ∷ nodes) (suc i) d l = state_at nodes i d (omega arith)

-- the nodes with another one at a place
pub states_after : (nodes : List PlacedNode) (i : ℕ) (n : PlacedNode) → states_of (set nodes i n) ≡ set (states_of nodes) i n.state
states_after nodes i n = map-set (λ (p : PlacedNode). p.state) nodes i n

-- the fleet and the place of a node
fleet_at : (f : FleetConfig) (k : ℕ) (nodes : List PlacedNode) (i : ℕ) (d : PlacedNode) → ArePlacedFrom f k nodes → i < length nodes → (get_or nodes i d).fleet ≡ f
fleet_at f k [] i d h l = absurd (omega arith)
fleet_at f k (n ∷ nodes) zero d h l = h.0
fleet_at f k (n ∷ nodes) (suc i) d h l = fleet_at f (k + 1) nodes i d h.2 (omega arith)

place_at : (f : FleetConfig) (k : ℕ) (nodes : List PlacedNode) (i : ℕ) (d : PlacedNode) → ArePlacedFrom f k nodes → i < length nodes → (get_or nodes i d).me ≡ k + i
place_at f k [] i d h l = absurd (omega arith)
place_at f k (n ∷ nodes) zero d h l = h.1 ∙ (omega arith)
place_at f k (n ∷ nodes) (suc i) d h l = place_at f (k + 1) nodes i d h.2 (omega arith) ∙ (omega arith)

pub fleet_is : (f : FleetConfig) (nodes : List PlacedNode) (i : ℕ) (d : PlacedNode) → ArePlaced f nodes → i < length nodes → (get_or nodes i d).fleet ≡ f
fleet_is f nodes i d h l = fleet_at f 0 nodes i d h.each l

pub me_is : (f : FleetConfig) (nodes : List PlacedNode) (i : ℕ) (d : PlacedNode) → ArePlaced f nodes → i < length nodes → (get_or nodes i d).me ≡ i
me_is f nodes i d h l = place_at f 0 nodes i d h.each l ∙ (omega arith)

-- a place of a state is one of a node
pub within_nodes : (nodes : List PlacedNode) (all : FleetNodes) (i to : ℕ) → states_of nodes ≡ all.states → to < length all.states → i ≡ to → i < length nodes
within_nodes nodes all i to is l same =
    let count : length all.states ≡ length nodes = ap (λ (s : List NodeState). length s) (sym is) ∙ length-map nodes (λ (p : PlacedNode). p.state) in
    omega arith

set_from : (f : FleetConfig) (k : ℕ) (nodes : List PlacedNode) (i : ℕ) (n : PlacedNode) → ArePlacedFrom f k nodes → n.fleet ≡ f → n.me ≡ k + i → ArePlacedFrom f k (set nodes i n)
set_from f k [] i n h fl me = h
set_from f k (m ∷ nodes) zero n h fl me = (fl, me ∙ (omega arith), h.2)
set_from f k (m ∷ nodes) (suc i) n h fl me = (h.0, h.1, set_from f (k + 1) nodes i n h.2 fl (me ∙ (omega arith)))

-- a node at its place may be another one of the same fleet and place
pub placed_after : (f : FleetConfig) (nodes : List PlacedNode) (i : ℕ) (n : PlacedNode) → ArePlaced f nodes → n.fleet ≡ f → n.me ≡ i → ArePlaced f (set nodes i n)
placed_after f nodes i n h fl me = record { count = length-set nodes i n ∙ h.count; each = set_from f 0 nodes i n h.each fl (me ∙ (omega arith)) }

push_from : (f : FleetConfig) (k : ℕ) (nodes : List PlacedNode) (n : PlacedNode) → ArePlacedFrom f k nodes → n.fleet ≡ f → n.me ≡ k + length nodes → ArePlacedFrom f k (nodes ++ n ∷ [])
push_from f k [] n h fl me = (fl, me ∙ (omega arith), tt)
push_from f k (m ∷ nodes) n h fl me = (h.0, h.1, push_from f (k + 1) nodes n h.2 fl (me ∙ (omega arith)))

module _ (f : FleetConfig) (i from : ℕ) (message : Message) (nodes : List PlacedNode) (old new : PlacedNode) (state : node_at (states_of nodes) i ≡ old.state)
    (fleet : old.fleet ≡ f) (me : old.me ≡ i) where
  result_at : (r : MessageResult) → message_result old.fleet.tree old.me from message old.state ≡ r → message_result f.tree i from message (node_at (states_of nodes) i) ≡ r
  result_at r h =
      let a : message_result f.tree old.me from message old.state ≡ r = subst (λ (g : FleetConfig). message_result g.tree old.me from message old.state ≡ r) fleet h in
      let b : message_result f.tree i from message old.state ≡ r = subst (λ (k : ℕ). message_result f.tree k from message old.state ≡ r) me a in
      subst (λ (s : NodeState). message_result f.tree i from message s ≡ r) (sym state) b

  pub takes_at : (r : Result (Option Message) TakeFault) → IfOk r (TakesMessage from message old new)
      → IfOk r (TakesAt f i from message (states_of nodes) (states_of (set nodes i new)))
  takes_at (Err e) h = tt
  takes_at (Ok reply) h = record { state = new.state; states = states_after nodes i new; result = result_at (record { node = new.state; answer = reply_answer reply }) h }

  pub stays_at : (r : Result (Option Message) TakeFault) → OnErr r (new ≡ old) → OnErr r (StaysAt i (states_of nodes) (states_of (set nodes i new)))
  stays_at (Err e) h = states_after nodes i new ∙ ap (λ s. set (states_of nodes) i s) (ap (λ (p : PlacedNode). p.state) h ∙ sym state)
  stays_at (Ok reply) h = tt

  pub denies_at : (r : Result (Option Message) TakeFault) → IfErr r (DeniesMessage from message old)
      → IfErr r (IsTakeFault f.tree i from message (node_at (states_of nodes) i))
  denies_at r h =
      let a = subst (λ (g : FleetConfig). IfErr r (IsTakeFault g.tree old.me from message old.state)) fleet h in
      let b = subst (λ (k : ℕ). IfErr r (IsTakeFault f.tree k from message old.state)) me a in
      subst (λ (s : NodeState). IfErr r (IsTakeFault f.tree i from message s)) (sym state) b

module _ (f : FleetConfig) (moment : ℕ) (o : Order) (nodes : List PlacedNode) (old new : PlacedNode) (state : node_at (states_of nodes) 0 ≡ old.state) (fleet : old.fleet ≡ f) where
  pub publishes_at : (r : Result ℕ PublishFault) → IfOk r (PublishesOrder moment o old new)
      → IfOk r (PublishesAtTop moment o (record { fleet = f; states = states_of nodes }) (record { fleet = f; states = states_of (set nodes 0 new) }))
  publishes_at (Err e) h = tt
  publishes_at (Ok jid) h =
      let a : Publishes f moment o old.state new.state jid = subst (λ (g : FleetConfig). Publishes g moment o old.state new.state jid) fleet h in
      let p : Publishes f moment o (node_at (states_of nodes) 0) new.state jid = subst (λ (s : NodeState). Publishes f moment o s new.state jid) (sym state) a in
      record { job = p.job; is = p.is; jid_is = p.jid_is; states = states_after nodes 0 new ∙ ap (λ s. set (states_of nodes) 0 s) p.recorded }

  pub denies_order : (r : Result ℕ PublishFault) → IfErr r (DeniesOrder moment o old) → IfErr r (IsPublishFault f moment o (node_at (states_of nodes) 0))
  denies_order r h =
      let a = subst (λ (g : FleetConfig). IfErr r (IsPublishFault g moment o old.state)) fleet h in
      subst (λ (s : NodeState). IfErr r (IsPublishFault f moment o s)) (sym state) a

first_more : (f : FleetConfig) (i : ℕ) (n : PlacedNode) → i < length f.tree → n ≡ starting_node f i
    → map first_node (take i f.tree) ++ n.state ∷ [] ≡ map first_node (take (i + 1) f.tree)
first_more f i n l is =
    let past : Member = record { id = []; role = role.Top; parent = 0; port = 0; held = no_holdings } in
    let more : i + 1 ≡ suc i = omega arith in
    rw (more, take-suc f.tree i past l, map-append first_node (take i f.tree) (get_or f.tree i past ∷ []))
    (ap (λ (s : NodeState). map first_node (take i f.tree) ++ s ∷ []) (ap (λ (p : PlacedNode). p.state) is))

-- one node more as it starts
pub one_more : (f : FleetConfig) (i : ℕ) (nodes : List PlacedNode) (n : PlacedNode) → i < length f.tree → n ≡ starting_node f i → AreStarted f i nodes → AreStarted f (i + 1) (nodes ++ n ∷ [])
one_more f i nodes n l is h =
    let count = h.is_count in
    let more : i + 1 ≡ suc i = omega arith in
    record {
      is_count = length_push nodes n ∙ ap (λ k. k + 1) count;
      each = push_from f 0 nodes n h.each (ap (λ (p : PlacedNode). p.fleet) is) (ap (λ (p : PlacedNode). p.me) is ∙ sym count ∙ (omega arith));
      states = map-append (λ (p : PlacedNode). p.state) nodes (n ∷ []) ∙ ap (λ s. s ++ n.state ∷ []) h.states ∙ first_more f i n l is;
    }

-- as many states with another one at a place
pub same_count : (nodes : List PlacedNode) (i : ℕ) (n : PlacedNode) → length (states_of (set nodes i n)) ≡ length (states_of nodes)
same_count nodes i n =
    length-map (set nodes i n) (λ (p : PlacedNode). p.state) ∙ length-set nodes i n ∙ sym (length-map nodes (λ (p : PlacedNode). p.state))

-- a world is whole with other states of as many nodes
pub whole_after : (old new : FleetNodes) (sorted : List ℕ) → IsWhole old sorted → new.fleet ≡ old.fleet → length new.states ≡ length old.states → IsWhole new sorted
whole_after old new sorted h fleet count = record {
  some = subst (λ (f : FleetConfig). 0 < length f.tree) (sym fleet) h.some;
  count = count ∙ h.count ∙ ap (λ (f : FleetConfig). length f.tree) (sym fleet);
  order = subst (λ (f : FleetConfig). sorted ≡ by_id f.tree (minions f.tree 0)) (sym fleet) h.order;
  within = subst (λ (f : FleetConfig). All (λ m. m < length f.tree) sorted) (sym fleet) h.within;
}
