use Rattle.node_core.proofs.Index.{index_empty}
use Rattle.node_core.proofs.node.Node.empty_minion.Goals as goal

pub invariant_of-result : goal.invariant_of-result
invariant_of-result c =
    rw (c.new.ensures.value, c.new-core.ensures)
    (index_empty c.args.fleet.now.tree c.args.me c.in_ok-minions.field-0.items _ c.requires.within c.in_ok-minions.ensures.ok c.in_ok-minions.ensures.within c.requires.minion)
