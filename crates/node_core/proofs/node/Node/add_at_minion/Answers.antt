use Rattle.std.proofs.Common.{subst, sym}
use Rattle.node_core.specs.Node.{PlacedNode}
use Rattle.node_core.specs.NextRecords.{MayAdd}
use Rattle.node_core.specs.Index.{IsIndex}
use Rattle.node_core.proofs.Index.{index_minion}
use Rattle.node_core.proofs.node.Node.add_at_minion.Goals as goal

pub invariant_of-self-2 : goal.invariant_of-self-2
invariant_of-self-2 c =
    let n = c.self.inside in
    let old = subst (λ k. IsIndex n.fleet.now.tree n.me n.below.items n.records k) c.in-Minion.is c.self.invariant in
    let may = subst (λ (p : PlacedNode). MayAdd c.args.deed.now p) (sym c.self.view_is) c.requires.next in
    rw (c.in_ok-push_done.ensures.records, c.in_ok-push_done.ensures.core)
    (index_minion n.fleet.now.tree n.me n.below.items _ _ c.args.deed.now may.next may.room may.fits old)
