use Rattle.std.proofs.Common.{subst, sym}
use Rattle.node_core.specs.Node.{PlacedNode}
use Rattle.node_core.specs.NextRecords.{MayAdd}
use Rattle.node_core.specs.Index.{IsIndex}
use Rattle.node_core.proofs.Index.{right_master, index_master}
use Rattle.node_core.proofs.node.Node.add_at_master.Goals as goal

pub push_deed-requires : goal.push_deed-requires
push_deed-requires c =
    let n = c.self.inside in
    let old = subst (λ k. IsIndex n.fleet.now.tree n.me n.below.items n.records k) c.in-Master.is c.self.invariant in
    let may = subst (λ (p : PlacedNode). MayAdd c.args.deed p) (sym c.self.view_is) c.requires.next in
    let found = c.minions_are_found.ensures in
    record { right = right_master n.fleet.now.tree n.me n.below.items found.below found.places _ _ c.args.deed may.next may.room may.fits old }

pub invariant_of-self-2 : goal.invariant_of-self-2
invariant_of-self-2 c =
    let n = c.self.inside in
    let old = subst (λ k. IsIndex n.fleet.now.tree n.me n.below.items n.records k) c.in-Master.is c.self.invariant in
    let may = subst (λ (p : PlacedNode). MayAdd c.args.deed p) (sym c.self.view_is) c.requires.next in
    let found = c.minions_are_found.ensures in
    let laws = c.outcomes_by_steps.ensures in
    rw (c.in_ok-push_deed.ensures.records, c.in_ok-push_deed.ensures.core)
    (index_master n.fleet.now.tree n.me n.below.items found.below found.places laws.jobs laws.value laws.other_minions laws.other_jobs laws.listed c.logs_by_steps.ensures.up
    _ _ c.args.deed may.next may.room may.fits old)
