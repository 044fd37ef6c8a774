use Rattle.std.proofs.Common.{◌≡◌, ◌+◌, ◌*◌, ◌++◌, length, map, take}
use Rattle.std.specs.Int.{w32, to_be_bytes}
use denote.Param.Weighed.{most}
use Rattle.salt_value.specs.declared.value.Value.{size-Value}
use Rattle.salt_value.specs.Spelling.{bytes, concatenation, pairs_spelling, spelled_pairs}
use Rattle.salt_value.proofs.writing.+writing.Given as goal

abbrev pub decreases-put : goal.decreases-put
decreases-put l = 2 * size-Value l.value.now

abbrev pub decreases-put_items : goal.decreases-put_items
decreases-put_items l = 2 * most size-Value l.items.now + 1

abbrev pub decreases-put_pairs : goal.decreases-put_pairs
decreases-put_pairs l = 2 * most size-Value (map (λ p. p.1) l.pairs.now) + 1

abbrev pub invariant-put_items-loop-item : goal.invariant-put_items-loop-item
invariant-put_items-loop-item l = l.out.items ≡ l.fn.out.items ++ (to_be_bytes w32 (length l.items) ++ concatenation (map bytes (take l.item-index l.items)))

abbrev pub invariant-put_pairs-loop-key : goal.invariant-put_pairs-loop-key
invariant-put_pairs-loop-key l = l.out.items ≡ l.fn.out.items ++ (to_be_bytes w32 (length l.pairs) ++ pairs_spelling (spelled_pairs (take l.key-index l.pairs)))
