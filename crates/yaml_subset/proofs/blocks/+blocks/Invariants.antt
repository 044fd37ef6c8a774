use Rattle.std.proofs.Common.{◌≡◌, ◌+◌, ◌*◌, [], map, drop}
use Rattle.yaml_subset.specs.Rows.{block_entry}
use Rattle.yaml_subset.specs.Blocks.{block, items_of, pairs_of, pair_keys}
use Rattle.yaml_subset.proofs.blocks.+blocks.Given as goal

abbrev pub decreases-block : goal.decreases-block
decreases-block l = 8 * l.levels

abbrev pub decreases-block_of : goal.decreases-block_of
decreases-block_of l = 8 * l.levels + 7

abbrev pub decreases-block_or_null : goal.decreases-block_or_null
decreases-block_or_null l = 8 * l.levels + 1

abbrev pub decreases-item : goal.decreases-item
decreases-item l = 8 * l.levels + 4

abbrev pub decreases-item_value : goal.decreases-item_value
decreases-item_value l = 8 * l.levels + 2

abbrev pub decreases-items : goal.decreases-items
decreases-items l = 8 * l.levels + 6

abbrev pub decreases-pair_value : goal.decreases-pair_value
decreases-pair_value l = 8 * l.levels + 2

abbrev pub decreases-pair_under : goal.decreases-pair_under
decreases-pair_under l = 8 * l.levels + 3

abbrev pub decreases-pair : goal.decreases-pair
decreases-pair l = 8 * l.levels + 4

abbrev pub decreases-pairs : goal.decreases-pairs
decreases-pairs l = 8 * l.levels + 6

-- the items so far, and then those of the entries that are left, are all items
abbrev pub invariant-items-loop-entry : goal.invariant-items-loop-entry
invariant-items-loop-entry l =
    items_of l.levels (block l.levels) l.column l.items (map block_entry (drop l.entry-index l.entry-items)) ≡ items_of l.levels (block l.levels) l.column [] (map block_entry l.entry-items)

-- the pairs so far, and then those of the entries that are left, are all pairs; the keys are those of the pairs so far
abbrev pub invariant-pairs-loop-entry : goal.invariant-pairs-loop-entry
invariant-pairs-loop-entry l =
    (l.keys ≡ pair_keys l.pairs)
    × (pairs_of l.levels (block l.levels) l.column l.pairs (map block_entry (drop l.entry-index l.entry-items)) ≡ pairs_of l.levels (block l.levels) l.column [] (map block_entry l.entry-items))
