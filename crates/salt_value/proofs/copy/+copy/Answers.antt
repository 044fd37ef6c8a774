use Rattle.std.proofs.Common.{ap, arith}
use Rattle.salt_value.specs.declared.value.Value.{size-Value}
use Rattle.salt_value.proofs.KeyLemmas.{pairs_most, may_push}
use Rattle.salt_value.proofs.copy.+copy.Goals as goal

pub copy_pairs-copy-requires-in-loop-key : goal.copy_pairs-copy-requires-in-loop-key
copy_pairs-copy-requires-in-loop-key t c =
    let below = pairs_most c.args.pairs.now c.loop-key.key-index c.loop-key-item.result c.loop-key-test.true in
    let same = ap (λ p. size-Value p.1) c.loop-key-item.is in
    omega (arith, below, same, c.decreases)

pub copy_pairs-push-requires : goal.copy_pairs-push-requires
copy_pairs-push-requires t c =
    may_push c.args.pairs.now c.loop-key.copies c.loop-key.key-index c.loop-key-item.result c.in_ok-name.name
    c.loop-key.invariant c.in_ok-name.ensures c.loop-key-item.is c.loop-key-test.true c.requires
