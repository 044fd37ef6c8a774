use Rattle.std.proofs.Common.{◌≡◌, ◌+◌, ◌*◌, take, map}
use denote.Param.Weighed.{most}
use Rattle.salt_value.specs.declared.value.Value.{size-Value}
use Rattle.salt_value.proofs.copy.+copy.Given as goal

abbrev pub decreases-copy : goal.decreases-copy
decreases-copy l = 2 * size-Value l.value.now

abbrev pub decreases-copy_items : goal.decreases-copy_items
decreases-copy_items l = 2 * most size-Value l.items.now + 1

abbrev pub decreases-copy_pairs : goal.decreases-copy_pairs
decreases-copy_pairs l = 2 * most size-Value (map (λ p. p.1) l.pairs.now) + 1

abbrev pub invariant-copy_items-loop-item : goal.invariant-copy_items-loop-item
invariant-copy_items-loop-item l = l.copies ≡ take l.item-index l.items

abbrev pub invariant-copy_pairs-loop-key : goal.invariant-copy_pairs-loop-key
invariant-copy_pairs-loop-key l = l.copies ≡ take l.key-index l.pairs
