use Rattle.std.proofs.Common.{◌<◌, subst, sym, ◌∙◌, ap, ℕ, length, set}
use Rattle.std.specs.Prelude.{IfOk, IfErr, OnErr}
use Rattle.node_core.specs.Node.{PlacedNode}
use Rattle.tree_world.specs.Nodes.{FleetNodes, TakesAt, StaysAt, DeniesAt, states_of}
use Rattle.tree_world.proofs.Placed.{placed_after, takes_at, stays_at, denies_at, fleet_is, me_is, state_at, within_nodes, same_count}
use Rattle.tree_world.proofs.nodes.Nodes.take.Goals as goal

pub invariant_of-self : goal.invariant_of-self
invariant_of-self c =
    let f = c.self.inside.fleet.now in
    let nodes = c.self.inside.nodes.items in
    let i = c.index.result in
    let old = c.index_mut.result.now in
    let is = c.index_mut.ensures.value in
    let place = c.take.ensures.place in
    let l : i < length nodes = within_nodes nodes c.args.self.now i c.args.to (ap (λ (v : FleetNodes). v.states) c.self.view_is) c.requires.within c.index.ensures in
    placed_after f nodes i c.take.new.self c.self.invariant (place.fleet ∙ ap (λ (p : PlacedNode). p.fleet) is ∙ fleet_is f nodes i old c.self.invariant l)
    (place.me ∙ ap (λ (p : PlacedNode). p.me) is ∙ me_is f nodes i old c.self.invariant l)

pub returns : goal.returns
returns c =
    let f = c.self.inside.fleet.now in
    let nodes = c.self.inside.nodes.items in
    let i = c.index.result in
    let old = c.index_mut.result.now in
    let is = c.index_mut.ensures.value in
    let new = c.take.new.self in
    let from = c.args.from in
    let message = c.args.message.now in
    let r = c.take.result in
    let l : i < length nodes = within_nodes nodes c.args.self.now i c.args.to (ap (λ (v : FleetNodes). v.states) c.self.view_is) c.requires.within c.index.ensures in
    let state = state_at nodes i old l ∙ sym (ap (λ (p : PlacedNode). p.state) is) in
    let fleet = ap (λ (p : PlacedNode). p.fleet) is ∙ fleet_is f nodes i old c.self.invariant l in
    let me = ap (λ (p : PlacedNode). p.me) is ∙ me_is f nodes i old c.self.invariant l in
    let took = takes_at f i from message nodes old new state fleet me r c.take.ensures.ok in
    let stays = stays_at f i from message nodes old new state fleet me r c.take.ensures.err in
    let denied = denies_at f i from message nodes old new state fleet me r c.take.ensures.fault in
    record {
      fleet = ap (λ (v : FleetNodes). v.fleet) c.self.view_is;
      count = same_count nodes i new ∙ ap (λ (v : FleetNodes). length v.states) c.self.view_is;
      ok = subst (λ (v : FleetNodes). IfOk r (TakesAt v.fleet c.args.to from message v.states (states_of (set nodes i new)))) c.self.view_is
          (subst (λ (k : ℕ). IfOk r (TakesAt f k from message (states_of nodes) (states_of (set nodes i new)))) c.index.ensures took);
      counted = c.take.ensures.counted;
      fits = c.take.ensures.fits;
      err = subst (λ (v : FleetNodes). OnErr r (StaysAt c.args.to v.states (states_of (set nodes i new)))) c.self.view_is
          (subst (λ (k : ℕ). OnErr r (StaysAt k (states_of nodes) (states_of (set nodes i new)))) c.index.ensures stays);
      fault = subst (λ (v : FleetNodes). IfErr r (DeniesAt c.args.to from message v)) c.self.view_is
          (subst (λ (k : ℕ). IfErr r (DeniesAt k from message (record { fleet = f; states = states_of nodes }))) c.index.ensures denied);
    }
