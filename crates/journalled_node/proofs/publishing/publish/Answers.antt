use Rattle.node_core.specs.Publications.{order}
use Rattle.journalled_node.specs.Orders.{published_at}
use Rattle.journalled_node.proofs.Appends.{quiet_order, published}
use Rattle.journalled_node.proofs.publishing.publish.Goals as goal

pub returns-in-Ok-clause-ok : goal.returns-in-Ok-clause-ok
returns-in-Ok-clause-ok g c =
    published c.args.moment (order c.args.kind c.args.tgt.now c.args.fun.now c.args.args.now) c.in-Ok.job c.args.node.now c.publish_new.new.node c.publish_new.result
    c.in-Ok.ensures.ok c.publish_new.ensures.ok c.publish_new.ensures.jid

pub returns-in-Err-clause-journal : goal.returns-in-Err-clause-journal
returns-in-Err-clause-journal g c =
    let p = c.args.node.now in
    rw (c.requires.up.1, c.unmade.ensures)
    (quiet_order g.D.Disk c.args.disk.now p c.args.log.now c.logs_at_rest_are_left.ensures c.requires.stands
    (published_at c.args.moment (order c.args.kind c.args.tgt.now c.args.fun.now c.args.args.now) p) c.in-Err.fault)
