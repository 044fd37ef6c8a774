use Rattle.std.proofs.Common.{◌≡◌, ◌+◌, ◌*◌, ◌-◌, None}
use Rattle.salt_value.specs.Keys.{last_key}
use Rattle.salt_value.specs.Readers.{several}
use Rattle.salt_value.specs.Decoding.{pairs_at, value_at}
use Rattle.salt_value.proofs.ReaderLoops.{with_front}
use Rattle.salt_value.proofs.reading.+reading.Given as goal

abbrev pub decreases-value_at : goal.decreases-value_at
decreases-value_at l = 4 * l.levels

abbrev pub decreases-items_at : goal.decreases-items_at
decreases-items_at l = 4 * l.levels + 1

abbrev pub decreases-pair_at : goal.decreases-pair_at
decreases-pair_at l = 4 * l.levels + 1

abbrev pub decreases-pairs_at : goal.decreases-pairs_at
decreases-pairs_at l = 4 * l.levels + 2

abbrev pub invariant-items_at-loop : goal.invariant-items_at-loop
invariant-items_at-loop l = with_front l.items (several (value_at l.levels) (l.count - l.counter) l.rest) ≡ several (value_at l.levels) l.count l.bytes

abbrev pub invariant-pairs_at-loop : goal.invariant-pairs_at-loop
invariant-pairs_at-loop l = with_front l.fields (pairs_at l.levels (value_at l.levels) (last_key l.fields) (l.count - l.counter) l.rest) ≡ pairs_at l.levels (value_at l.levels) None l.count l.bytes

abbrev pub decreases-tagged : goal.decreases-tagged
decreases-tagged l = 4 * l.levels + 3
