use Rattle.node_core.proofs.Index.{index_start}
use Rattle.node_core.proofs.node.Node.empty_master.Goals as goal

pub invariant_of-result : goal.invariant_of-result
invariant_of-result c =
    rw (c.new-2.ensures.value, c.in_ok-core.ensures.ok)
    (index_start c.args.fleet.now.tree c.args.me c.in_ok-minions.field-0.items _ c.requires.within c.in_ok-minions.ensures.ok c.in_ok-minions.ensures.within
    c.requires.master c.in_ok-ids_below.ensures.ok)
