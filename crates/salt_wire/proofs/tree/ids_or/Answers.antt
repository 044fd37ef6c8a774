use Rattle.salt_wire.specs.Decoding.{id_or}
use Rattle.salt_wire.specs.declared.fault.Misread.TheVariants.{NoMemory}
use Rattle.salt_value.proofs.ReaderLoops.{goes_on, ends, is_done}
use Rattle.salt_wire.proofs.tree.ids_or.Goals as goal

pub returns-in-Err : goal.returns-in-Err
returns-in-Err c = ends (id_or c.args.bad) NoMemory c.in-Err.fault c.loop.ids c.args.count c.loop.counter c.loop.rest.now _ c.loop-test.true c.in-Err.ensures.gives c.loop.invariant

pub loop-preserved : goal.loop-preserved
loop-preserved c =
    rw c.in_ok-push.ensures.ok (goes_on (id_or c.args.bad) c.loop.ids c.args.count c.loop.counter c.loop.rest.now c.in-Ok.found.0 c.in-Ok.found.1.now _ c.loop-test.true c.in-Ok.ensures.gives c.loop.invariant)

pub returns : goal.returns
returns c = is_done (id_or c.args.bad) c.loop.ids c.args.count c.loop.counter c.loop.rest.now _ c.loop-test.false c.loop.invariant
