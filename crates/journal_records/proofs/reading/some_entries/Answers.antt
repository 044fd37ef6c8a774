use Rattle.salt_value.proofs.ReaderLoops.{goes_on, ends, is_done}
use Rattle.salt_wire.specs.Decoding.{entry_field}
use Rattle.journal_records.specs.Decoding.{part}
use Rattle.journal_records.specs.declared.fault.RecordFault.TheVariants.{NoMemory}
use Rattle.journal_records.proofs.reading.some_entries.Goals as goal

pub returns-in-Err : goal.returns-in-Err
returns-in-Err c = ends (part entry_field) NoMemory c.in-Err.fault c.loop.entries c.args.count c.loop.counter c.loop.rest.now _ c.loop-test.true c.in-Err.ensures c.loop.invariant

pub loop-preserved : goal.loop-preserved
loop-preserved c =
    rw c.in_ok-push.ensures.ok (goes_on (part entry_field) c.loop.entries c.args.count c.loop.counter c.loop.rest.now c.in-Ok.found.0 c.in-Ok.found.1.now _ c.loop-test.true c.in-Ok.ensures c.loop.invariant)

pub returns : goal.returns
returns c = is_done (part entry_field) c.loop.entries c.args.count c.loop.counter c.loop.rest.now _ c.loop-test.false c.loop.invariant
