use Rattle.std.proofs.Common.{arith, sym, subst}
use Rattle.std.proofs.lemmas.List.{take_all}
use Rattle.salt_value.proofs.RoomLemmas.{ValueLeaves, list_leaves, map_leaves, items_end, items_more, pairs_end, pairs_more, pairs_whole}
use Rattle.salt_value.proofs.fits.+fits.Goals as goal

pub after-returns-in-List : goal.after-returns-in-List
after-returns-in-List t c =
    subst (λ w. ValueLeaves w c.args.levels c.args.room c.after_items.result) (sym c.in-List.is)
    (list_leaves c.in-List.items c.args.levels c.args.room c.after_items.result (omega arith) c.requires (rw c.as_slice.ensures at c.after_items.ensures))

pub after-returns-in-Map : goal.after-returns-in-Map
after-returns-in-Map t c =
    subst (λ w. ValueLeaves w c.args.levels c.args.room c.after_pairs.result) (sym c.in-Map.is)
    (map_leaves c.in-Map.fields c.args.levels c.args.room c.after_pairs.result (omega arith) c.requires c.as_slice-in-Map.ensures.ascend (rw c.as_slice-in-Map.ensures.value at c.after_pairs.ensures))

pub after_items-returns-in_default : goal.after_items-returns-in_default
after_items-returns-in_default t c =
    items_end c.args.items.now c.loop-item.item-index c.item-item.result c.args.levels c.args.room c.loop-item.left
    c.if-room-lt5.false c.loop-item-test.true c.item-item.is c.loop-item.invariant (c.in_default.ensures)

pub after_items-loop-item-preserved : goal.after_items-loop-item-preserved
after_items-loop-item-preserved t c =
    items_more c.args.items.now c.loop-item.item-index c.item-item.result _ _ _ _ c.loop-item-test.true c.item-item.is c.loop-item.invariant c.in-Some.ensures

pub after_pairs-returns-in_default : goal.after_pairs-returns-in_default
after_pairs-returns-in_default t c =
    pairs_end c.args.pairs.now c.loop-key.key-index c.loop-key-item.result c.args.levels c.args.room c.loop-key.left
    c.if-room-lt5.false c.loop-key-test.true c.loop-key-item.is c.loop-key.invariant (rw c.as_str.ensures.value at c.in_default.ensures)

pub after_pairs-loop-key-preserved : goal.after_pairs-loop-key-preserved
after_pairs-loop-key-preserved t c =
    pairs_more c.args.pairs.now c.loop-key.key-index c.loop-key-item.result _ _ _ _ c.loop-key-test.true c.loop-key-item.is c.loop-key.invariant (rw c.as_str.ensures.value at c.in-Some.ensures)

pub after_pairs-returns : goal.after_pairs-returns
after_pairs-returns t c = pairs_whole c.args.pairs.now _ c.args.levels c.args.room c.loop-key.left c.if-room-lt5.false (take_all c.loop-key.key-index c.args.pairs.now c.loop-key-test.false) c.loop-key.invariant
