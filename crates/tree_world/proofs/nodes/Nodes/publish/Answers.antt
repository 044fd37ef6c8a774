use Rattle.std.proofs.Common.{◌<◌, subst, sym, ◌∙◌, ap, refl, ℕ, length, set, List}
use Rattle.std.specs.Prelude.{IfOk, IfErr}
use Rattle.node_core.specs.Node.{PlacedNode}
use Rattle.node_core.specs.Publications.{order, PublishesOrder, DeniesOrder}
use Rattle.tree_world.specs.Nodes.{FleetNodes, PublishesAtTop, DeniesAtTop, states_of}
use Rattle.tree_world.proofs.Placed.{placed_after, publishes_at, denies_order, fleet_is, me_is, state_at, within_nodes, same_count}
use Rattle.tree_world.proofs.nodes.Nodes.publish.Goals as goal

pub invariant_of-self : goal.invariant_of-self
invariant_of-self c =
    let f = c.self.inside.fleet.now in
    let nodes = c.self.inside.nodes.items in
    let old = c.index_mut.result.now in
    let is = c.index_mut.ensures.value in
    let place = c.publish.ensures.place in
    let l : 0 < length nodes = within_nodes nodes c.args.self.now 0 0 (ap (λ (v : FleetNodes). v.states) c.self.view_is) c.requires.some refl in
    placed_after f nodes 0 c.publish.new.self c.self.invariant (place.fleet ∙ ap (λ (p : PlacedNode). p.fleet) is ∙ fleet_is f nodes 0 old c.self.invariant l)
    (place.me ∙ ap (λ (p : PlacedNode). p.me) is ∙ me_is f nodes 0 old c.self.invariant l)

pub returns-clause-ok : goal.returns-clause-ok
returns-clause-ok c =
    let f = c.self.inside.fleet.now in
    let nodes = c.self.inside.nodes.items in
    let old = c.index_mut.result.now in
    let new = c.publish.new.self in
    let is = c.index_mut.ensures.value in
    let r = c.publish.result in
    let o = order c.args.kind c.args.tgt.now c.args.fun.now c.args.args.now in
    let l : 0 < length nodes = within_nodes nodes c.args.self.now 0 0 (ap (λ (v : FleetNodes). v.states) c.self.view_is) c.requires.some refl in
    let state = state_at nodes 0 old l ∙ sym (ap (λ (p : PlacedNode). p.state) is) in
    let fleet = ap (λ (p : PlacedNode). p.fleet) is ∙ fleet_is f nodes 0 old c.self.invariant l in
    let told = subst (λ (t : List ℕ). IfOk r (PublishesOrder c.args.moment (order c.args.kind t c.args.fun.now c.args.args.now) old new)) c.as_str.ensures.value c.publish.ensures.ok in
    subst (λ (v : FleetNodes). IfOk r (PublishesAtTop c.args.moment o v (record { fleet = f; states = states_of (set nodes 0 new) }))) c.self.view_is
    (publishes_at f c.args.moment o nodes old new state fleet r told)

pub returns-clause-fault : goal.returns-clause-fault
returns-clause-fault c =
    let f = c.self.inside.fleet.now in
    let nodes = c.self.inside.nodes.items in
    let old = c.index_mut.result.now in
    let new = c.publish.new.self in
    let is = c.index_mut.ensures.value in
    let r = c.publish.result in
    let o = order c.args.kind c.args.tgt.now c.args.fun.now c.args.args.now in
    let l : 0 < length nodes = within_nodes nodes c.args.self.now 0 0 (ap (λ (v : FleetNodes). v.states) c.self.view_is) c.requires.some refl in
    let state = state_at nodes 0 old l ∙ sym (ap (λ (p : PlacedNode). p.state) is) in
    let fleet = ap (λ (p : PlacedNode). p.fleet) is ∙ fleet_is f nodes 0 old c.self.invariant l in
    let told = subst (λ (t : List ℕ). IfErr r (DeniesOrder c.args.moment (order c.args.kind t c.args.fun.now c.args.args.now) old)) c.as_str.ensures.value c.publish.ensures.fault in
    subst (λ (v : FleetNodes). IfErr r (DeniesAtTop c.args.moment o v)) c.self.view_is
    (denies_order f c.args.moment o nodes old new state fleet r told)

pub returns-clause-count : goal.returns-clause-count
returns-clause-count c = same_count c.self.inside.nodes.items 0 c.publish.new.self ∙ ap (λ (v : FleetNodes). length v.states) c.self.view_is
