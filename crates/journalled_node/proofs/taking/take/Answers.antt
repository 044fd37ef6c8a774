use Rattle.std.proofs.Common.{◌∙◌, ap, sym, subst, Option}
use Rattle.salt_wire.specs.declared.deed.Deed.{Deed}
use Rattle.node_core.specs.NextRecords.{with_if_any, IsRecordFor}
use Rattle.journalled_node.specs.Calls.{added_at}
use Rattle.journalled_node.specs.Calls.CallEnd.{WantedMemory}
use Rattle.journalled_node.proofs.Appends.{quiet_ok, quiet_err, quiet_fault}
use Rattle.journalled_node.proofs.taking.take.Goals as goal

pub returns-in-Ok-clause-journal : goal.returns-in-Ok-clause-journal
returns-in-Ok-clause-journal g c =
    let p = c.args.node.now in
    let q = c.take_with.new.self in
    let for_it = subst (λ (o : Option Deed). IsRecordFor c.args.from c.args.message.now p o) c.in-Ok-None.field-0-is c.in-Ok-None.ensures.ok in
    let same = c.records_by_calls.ensures.messages p.fleet.tree p.me c.args.from c.args.message.now p.state q.state c.in-Ok.reply for_it.taken c.in-Ok.ensures.ok
    ∙ ap (λ (o : Option Deed). with_if_any o p.state.records) (sym for_it.added.is) in
    rw (c.requires.up.1, sym for_it.added.is)
    (quiet_ok g.D.Disk c.args.disk.now p c.args.log.now c.logs_at_rest_are_left.ensures c.requires.stands q same)

pub returns-in-Err-take_with-clause-journal : goal.returns-in-Err-take_with-clause-journal
returns-in-Err-take_with-clause-journal g c =
    let p = c.args.node.now in
    rw (c.requires.up.1, c.in-Err-take_with.ensures.err)
    (quiet_err g.D.Disk c.args.disk.now p c.args.log.now c.logs_at_rest_are_left.ensures c.requires.stands (added_at c.args.message.now p) WantedMemory
    (λ e. absurd cc) (λ e. absurd cc) (λ image h. h))

pub returns-in-Err-clause-journal : goal.returns-in-Err-clause-journal
returns-in-Err-clause-journal g c =
    let p = c.args.node.now in
    rw (c.requires.up.1, c.node_fault.ensures)
    (quiet_fault g.D.Disk c.args.disk.now p c.args.log.now c.logs_at_rest_are_left.ensures c.requires.stands (added_at c.args.message.now p) c.in-Err.fault)
