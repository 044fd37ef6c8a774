use Rattle.salt_value.proofs.ReaderLoops.{goes_on, ends, is_done}
use Rattle.journal_records.specs.Decoding.{react_part}
use Rattle.journal_records.specs.declared.fault.RecordFault.TheVariants.{NoMemory}
use Rattle.journal_records.proofs.reading.some_reacts.Goals as goal

pub returns-in-Err : goal.returns-in-Err
returns-in-Err c = ends react_part NoMemory c.in-Err.fault c.loop.items c.args.count c.loop.counter c.loop.rest.now _ c.loop-test.true c.in-Err.ensures c.loop.invariant

pub loop-preserved : goal.loop-preserved
loop-preserved c =
    rw c.in_ok-push.ensures.ok (goes_on react_part c.loop.items c.args.count c.loop.counter c.loop.rest.now c.in-Ok.found.0 c.in-Ok.found.1.now _ c.loop-test.true c.in-Ok.ensures c.loop.invariant)

pub returns : goal.returns
returns c = is_done react_part c.loop.items c.args.count c.loop.counter c.loop.rest.now _ c.loop-test.false c.loop.invariant
