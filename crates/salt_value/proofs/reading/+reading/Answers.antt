use Rattle.std.proofs.Common.{inr, arith}
use Rattle.std.proofs.lemmas.Result.{err_from_is_err_and}
use Rattle.salt_value.specs.Keys.{last_key}
use Rattle.salt_value.specs.Decoding.{value_at}
use Rattle.salt_value.proofs.ReaderLoops.{goes_on, ends, is_done}
use Rattle.salt_value.proofs.PairLoops.{pair_goes_on, pair_ends, pairs_done}
use Rattle.salt_value.specs.declared.fault.Misread.TheVariants.{NoMemory}
use Rattle.salt_value.proofs.ReadLemmas.{value_at-empty, value_at-tagged, pair_after}
use Rattle.salt_value.proofs.reading.+reading.Goals as goal

pub items_at-returns-in_err-item : goal.items_at-returns-in_err-item
items_at-returns-in_err-item t c =
    let p = err_from_is_err_and c.from_residual.result c.from_residual.ensures.1 in
    rw (p.1, p.2) (ends (value_at c.args.levels) NoMemory c.in_err-item.field-0.0 c.loop.items c.args.count c.loop.counter c.loop.rest.now _ c.loop-test.true c.in_err-item.ensures c.loop.invariant)

pub items_at-loop-preserved : goal.items_at-loop-preserved
items_at-loop-preserved t c =
    rw c.in_ok-push.ensures.ok (goes_on (value_at c.args.levels) c.loop.items c.args.count c.loop.counter c.loop.rest.now c.in_ok-item.item c.in_ok-item.after.now _ c.loop-test.true c.in_ok-item.ensures c.loop.invariant)

pub items_at-returns : goal.items_at-returns
items_at-returns t c = is_done (value_at c.args.levels) c.loop.items c.args.count c.loop.counter c.loop.rest.now _ c.loop-test.false c.loop.invariant

pub pairs_at-returns-in_err-key : goal.pairs_at-returns-in_err-key
pairs_at-returns-in_err-key t c =
    let p = err_from_is_err_and c.from_residual.result c.from_residual.ensures.1 in
    rw (p.1, p.2) (pair_ends c.args.levels (value_at c.args.levels) c.in_err-key.field-0.0 c.loop.fields c.args.count c.loop.counter c.loop.rest.now _ c.loop-test.true (rw c.last_key.ensures at c.in_err-key.ensures) c.loop.invariant)

pub pairs_at-push-requires : goal.pairs_at-push-requires
pairs_at-push-requires t c =
    pair_after c.args.levels (value_at c.args.levels) (last_key c.loop.fields) c.loop.rest.now ((c.in_ok-key.key, c.in_ok-key.value), c.in_ok-key.after.now) (rw c.last_key.ensures at c.in_ok-key.ensures)

pub pairs_at-loop-preserved : goal.pairs_at-loop-preserved
pairs_at-loop-preserved t c =
    rw c.in_ok-push.ensures.ok (pair_goes_on c.args.levels (value_at c.args.levels) c.loop.fields c.args.count c.loop.counter c.loop.rest.now (c.in_ok-key.key, c.in_ok-key.value) c.in_ok-key.after.now _ c.loop-test.true (rw c.last_key.ensures at c.in_ok-key.ensures) c.loop.invariant)

pub pairs_at-returns : goal.pairs_at-returns
pairs_at-returns t c = pairs_done c.args.levels (value_at c.args.levels) c.loop.fields c.args.count c.loop.counter c.loop.rest.now _ c.loop-test.false c.loop.invariant

pub value_at-returns-in-empty : goal.value_at-returns-in-empty
value_at-returns-in-empty t c = inr (value_at-empty c.args.levels c.args.bytes.now (omega arith) (omega arith))

pub value_at-returns-in-len1-up : goal.value_at-returns-in-len1-up
value_at-returns-in-len1-up t c = rw (value_at-tagged c.args.levels c.args.bytes.now (omega arith) (omega arith)) c.tagged.ensures
