use Rattle.std.proofs.Common.{◌<◌, ◌∙◌, ap, length}
use Rattle.node_core.specs.Node.{PlacedNode}
use Rattle.tree_world.specs.Nodes.{FleetNodes}
use Rattle.tree_world.proofs.Placed.{fleet_is, me_is, within_nodes}
use Rattle.tree_world.proofs.nodes.Nodes.get.Goals as goal

pub returns-clause-fleet : goal.returns-clause-fleet
returns-clause-fleet c =
    let nodes = c.self.inside.nodes.items in
    let i = c.index.result in
    let node = c.index-2.result.now in
    let l : i < length nodes = within_nodes nodes c.args.self.now i c.args.place (ap (λ (v : FleetNodes). v.states) c.self.view_is) c.requires.within c.index.ensures in
    ap (λ (p : PlacedNode). p.fleet) c.index-2.ensures ∙ fleet_is c.self.inside.fleet.now nodes i node c.self.invariant l ∙ ap (λ (v : FleetNodes). v.fleet) c.self.view_is

pub returns-clause-me : goal.returns-clause-me
returns-clause-me c =
    let nodes = c.self.inside.nodes.items in
    let i = c.index.result in
    let node = c.index-2.result.now in
    let l : i < length nodes = within_nodes nodes c.args.self.now i c.args.place (ap (λ (v : FleetNodes). v.states) c.self.view_is) c.requires.within c.index.ensures in
    ap (λ (p : PlacedNode). p.me) c.index-2.ensures ∙ me_is c.self.inside.fleet.now nodes i node c.self.invariant l ∙ c.index.ensures
