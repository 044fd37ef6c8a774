use Rattle.std.proofs.Common.{ap}
use Rattle.salt_wire.specs.declared.deed.Deed.TheVariants.{Boot}
use Rattle.node_core.specs.Node.{PlacedNode}
use Rattle.journalled_node.proofs.Appends.{kept_ok, kept_lost, kept_err}
use Rattle.journalled_node.proofs.loading.boot.Goals as goal

pub returns-in-Ok-add_record-clause-journal : goal.returns-in-Ok-add_record-clause-journal
returns-in-Ok-add_record-clause-journal g c =
    let k = c.in-Ok.ensures in
    rw c.requires.up.1
    (kept_ok g.D.Disk c.args.disk.now c.keep.new.disk c.args.node.now c.args.log.now c.keep.new.log Boot c.requires.up.0 c.requires.stands c.in-Ok.field-0
    k.held k.any_moment k.left k.fuse k.log c.add_record.new.self (ap (λ (n : PlacedNode). n.state.records) c.in-Ok-add_record.ensures.ok))

pub returns-in-Err-add_record-clause-journal : goal.returns-in-Err-add_record-clause-journal
returns-in-Err-add_record-clause-journal g c =
    let k = c.in-Ok.ensures in
    rw (c.requires.up.1, c.in-Err-add_record.ensures.err)
    (kept_lost g.D.Disk c.args.disk.now c.keep.new.disk c.args.node.now c.args.log.now c.keep.new.log Boot c.requires.up.0 c.requires.stands c.in-Ok.field-0
    k.held k.any_moment k.left k.fuse k.log)

pub returns-in-Err-clause-journal : goal.returns-in-Err-clause-journal
returns-in-Err-clause-journal g c =
    let k = c.in-Err.ensures in
    rw c.requires.up.1
    (kept_err g.D.Disk c.args.disk.now c.keep.new.disk c.args.node.now c.args.log.now c.keep.new.log Boot c.requires.up.0 c.requires.stands
    c.stops_go_by_the_gate.ensures c.in-Err.fault k.held k.any_moment k.left k.fuse k.log k.down)
