use Rattle.checkpoint_log.specs.Content.{bytes_in}
use Rattle.checkpoint_log.proofs.Faults.{answers_each}
use Rattle.checkpoint_log.proofs.PartReads.{holds_from}
use Rattle.checkpoint_log.proofs.log.Log.load.Goals as goal

pub returns-in-Ok-clause-ok : goal.returns-in-Ok-clause-ok
returns-in-Ok-clause-ok g c = λ told.
    let old = g.D.Disk.state c.args.disk.now in
    let read = c.in-Ok.ensures.ok told in
    holds_from old (g.D.Disk.state c.read_parts.new.disk) c.first_generation.result (c.first_generation.ensures.ok (bytes_in old) read.0 read.1) c.first_generation.ensures.part (c.in-Ok.ensures.bytes told) (c.in-Ok.ensures.settled told)

pub returns-in-Ok-clause-fault : goal.returns-in-Ok-clause-fault
returns-in-Ok-clause-fault g c = λ told fault e.
    let old = g.D.Disk.state c.args.disk.now in
    let read = c.in-Ok.ensures.ok told in
    (c.first_generation.ensures.ok (bytes_in old) read.0 read.1).faulty fault e

pub returns-in-Ok-clause-complete : goal.returns-in-Ok-clause-complete
returns-in-Ok-clause-complete g c = λ told.
    let old = g.D.Disk.state c.args.disk.now in
    let read = c.in-Ok.ensures.ok told in
    answers_each (bytes_in old) c.first_generation.result (c.first_generation.ensures.ok (bytes_in old) read.0 read.1)
