use Rattle.salt_outside.proofs.Written.{appends_front, appends_more}
use Rattle.salt_outside.proofs.standard.write_and_flush.Goals as goal

pub returns-then-count-eq0-clause-known_part : goal.returns-then-count-eq0-clause-known_part
returns-then-count-eq0-clause-known_part g c = appends_front _ _ _ _ (appends_more _ _ _ c.args.bytes.now c.loop-done.done c.in_ok-count.count c.loop-done.invariant c.in_ok-count.ensures.bytes)

pub loop-done-preserved : goal.loop-done-preserved
loop-done-preserved g c = appends_more _ _ _ c.args.bytes.now c.loop-done.done c.in_ok-count.count c.loop-done.invariant c.in_ok-count.ensures.bytes
