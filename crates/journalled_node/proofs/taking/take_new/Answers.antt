use Rattle.std.proofs.Common.{◌∙◌, ap, sym, Option}
use Rattle.salt_wire.specs.declared.deed.Deed.{Deed}
use Rattle.node_core.specs.NextRecords.{with_if_any}
use Rattle.journalled_node.proofs.Appends.{kept_ok, kept_lost, kept_taken}
use Rattle.journalled_node.proofs.taking.take_new.Goals as goal

pub returns-in-Ok-take_with-clause-journal : goal.returns-in-Ok-take_with-clause-journal
returns-in-Ok-take_with-clause-journal g c =
    let p = c.args.node.now in
    let q = c.take_with.new.self in
    let k = c.in-Ok.ensures in
    let for_it = c.requires.record in
    let grown = c.records_by_calls.ensures.messages p.fleet.tree p.me c.args.from c.args.message.now p.state q.state c.in-Ok-take_with.reply for_it.taken c.in-Ok-take_with.ensures.ok
    ∙ ap (λ (o : Option Deed). with_if_any o p.state.records) (sym for_it.added.is) in
    rw c.requires.up.1
    (kept_ok g.D.Disk c.args.disk.now c.keep.new.disk p c.args.log.now c.keep.new.log c.args.deed c.requires.up.0 c.requires.stands c.in-Ok.field-0
    k.held k.any_moment k.left k.fuse k.log q grown)

pub returns-in-Err-take_with-clause-journal : goal.returns-in-Err-take_with-clause-journal
returns-in-Err-take_with-clause-journal g c =
    let k = c.in-Ok.ensures in
    rw (c.requires.up.1, c.in-Err-take_with.ensures.err)
    (kept_lost g.D.Disk c.args.disk.now c.keep.new.disk c.args.node.now c.args.log.now c.keep.new.log c.args.deed c.requires.up.0 c.requires.stands c.in-Ok.field-0
    k.held k.any_moment k.left k.fuse k.log)

pub returns-in-Err-clause-journal : goal.returns-in-Err-clause-journal
returns-in-Err-clause-journal g c =
    let k = c.in-Err.ensures in
    rw (c.requires.up.1, c.kept_fault.ensures)
    (kept_taken g.D.Disk c.args.disk.now c.keep.new.disk c.args.node.now c.args.log.now c.keep.new.log c.args.deed c.requires.up.0 c.requires.stands
    c.stops_go_by_the_gate.ensures c.in-Err.fault k.held k.any_moment k.left k.fuse k.log k.down)
