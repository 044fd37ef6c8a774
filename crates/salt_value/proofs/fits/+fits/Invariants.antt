use Rattle.std.proofs.Common.{◌+◌, ◌*◌, ◌-◌, take}
use Rattle.salt_value.specs.Spelling.{bytes}
use Rattle.salt_value.specs.WellFormed.{well_formed, depth}
use Rattle.salt_value.proofs.RoomLemmas.{Walked, pair_well, pair_deep, pair_spell}
use Rattle.salt_value.proofs.fits.+fits.Given as goal

abbrev pub decreases-after : goal.decreases-after
decreases-after l = 3 * l.levels

abbrev pub decreases-after_items : goal.decreases-after_items
decreases-after_items l = 3 * l.levels + 1

abbrev pub decreases-after_pair : goal.decreases-after_pair
decreases-after_pair l = 3 * l.levels + 1

abbrev pub decreases-after_pairs : goal.decreases-after_pairs
decreases-after_pairs l = 3 * l.levels + 2

abbrev pub invariant-after_items-loop-item : goal.invariant-after_items-loop-item
invariant-after_items-loop-item l = Walked well_formed depth bytes (take l.item-index l.items) l.levels (l.room - 5) l.left

abbrev pub invariant-after_pairs-loop-key : goal.invariant-after_pairs-loop-key
invariant-after_pairs-loop-key l = Walked pair_well pair_deep pair_spell (take l.key-index l.pairs) l.levels (l.room - 5) l.left
