use Rattle.std.proofs.Common.{false}
use Rattle.journalled_node.proofs.Loads.{kept_unread, loaded_at, loaded_from, kept_started, kept_unstarted, start_fault, start_counts}
use Rattle.journalled_node.proofs.Payloads.{may_start}
use Rattle.journalled_node.specs.Calls.{node_over}
use Rattle.journalled_node.specs.Loading.{start_at}
use Rattle.journalled_node.proofs.loading.load.Goals as goal

pub returns-in-Err-clause-journal : goal.returns-in-Err-clause-journal
returns-in-Err-clause-journal g c = λ told.
    kept_unread g.D.Disk c.args.disk.now c.read_node.new.disk c.args.fleet.now c.args.me c.in-Err.fault (c.in-Err.ensures.disk told)

pub start-requires-clause-next : goal.start-requires-clause-next
start-requires-clause-next g c = may_start c.args.fleet.now c.args.me c.in-Ok.read c.in-Ok.ensures.ok

pub returns-in-Ok-start-clause-place : goal.returns-in-Ok-start-clause-place
returns-in-Ok-start-clause-place g c =
    rw c.new.ensures.value
    (loaded_at c.args.fleet.now c.args.me c.in-Ok.read.0 c.start.new.node c.start.new.log c.in-Ok.ensures.ok.node c.in-Ok-start.ensures.ok c.in-Ok-start.ensures.up.0)

pub returns-in-Ok-start-clause-ok : goal.returns-in-Ok-start-clause-ok
returns-in-Ok-start-clause-ok g c = λ told.
    rw c.new.ensures.value
    (loaded_from g.D.Disk c.args.disk.now c.read_node.new.disk c.start.new.disk c.args.fleet.now c.args.me c.in-Ok.read c.in-Ok.ensures.ok (c.in-Ok.ensures.disk told)
    c.start.new.node c.start.new.log c.in-Ok-start.ensures.journal.limit c.in-Ok-start.ensures.ok c.in-Ok-start.ensures.room)

pub returns-in-Ok-start-clause-journal : goal.returns-in-Ok-start-clause-journal
returns-in-Ok-start-clause-journal g c = λ told.
    rw c.new.ensures.value
    (kept_started g.D.Disk c.args.disk.now c.read_node.new.disk c.start.new.disk c.args.fleet.now c.args.me c.in-Ok.read c.in-Ok.ensures.ok (c.in-Ok.ensures.disk told)
    c.start.new.node c.start.new.log c.start.new.lost told c.in-Ok-start.ensures.up.0 c.in-Ok-start.ensures.up.1 c.in-Ok-start.ensures.ok c.in-Ok-start.ensures.journal)

pub returns-clause-journal : goal.returns-clause-journal
returns-clause-journal g c = λ told.
    rw c.unstarted.ensures
    (kept_unstarted g.D.Disk c.args.disk.now c.read_node.new.disk c.start.new.disk c.args.fleet.now c.args.me c.in-Ok.read c.in-Ok.ensures.ok (c.in-Ok.ensures.disk told)
    c.records_read_back.ensures.unique c.logs_are_one.ensures told (node_over c.start.new.node c.start.new.log c.start.new.lost) c.in-Err-start.fault
    c.in-Err-start.ensures.fault c.in-Err-start.ensures.journal)

pub returns-clause-fault : goal.returns-clause-fault
returns-clause-fault g c = λ told.
    rw c.unstarted.ensures
    (start_fault g.D.Disk c.args.disk.now c.read_node.new.disk c.start.new.disk c.args.fleet.now c.args.me c.in-Ok.read c.in-Ok.ensures.ok (c.in-Ok.ensures.disk told)
    c.in-Err-start.fault c.in-Err-start.ensures.fault)

pub returns-clause-faults : goal.returns-clause-faults
returns-clause-faults g c =
    let p = c.in-Ok.read.0 in
    rw c.unstarted.ensures
    (start_counts c.in-Ok.read (node_over p c.in-Ok.read.1 false) (start_at p.fleet.tree p.me) c.in-Err-start.fault (g.D.Disk.faults c.args.disk.now) (g.D.Disk.faults c.read_node.new.disk)
    (g.D.Disk.faults c.start.new.disk) c.in-Err-start.ensures.fault c.in-Ok.ensures.faults c.in-Err-start.ensures.faults)
