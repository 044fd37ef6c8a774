use Rattle.salt_disk.specs.Crash.{MayLeave}
use Rattle.gate_journal.specs.Creation.{HoldsNothing}
use Rattle.gate_journal.proofs.Making.{before_create, stands}
use Rattle.gate_journal.proofs.journal.Journal.create.Goals as goal

pub returns-in-Err-clause-any_moment : goal.returns-in-Err-clause-any_moment
returns-in-Err-clause-any_moment g c = λ told short.
    let old = g.D.Disk.state c.args.disk.now in
    stands g.D.Disk.past g.D.Disk.state c.args.disk.now c.len.new.self (HoldsNothing c.args.part old) (c.len.ensures.same told) (before_create c.args.part old (c.requires.settled told) short)

pub returns-in-Err-clause-long_moment : goal.returns-in-Err-clause-long_moment
returns-in-Err-clause-long_moment g c = λ told over.
    stands g.D.Disk.past g.D.Disk.state c.args.disk.now c.len.new.self (MayLeave (g.D.Disk.state c.args.disk.now)) (c.len.ensures.same told) (λ image may. may)
