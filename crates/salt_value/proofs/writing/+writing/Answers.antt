use Rattle.std.proofs.Common.{◌≡◌, ◌+◌, ◌++◌, ◌∷◌, [], length, get_or, take, map, arith, sym, ap, ◌∙◌, append_assoc}
use Rattle.std.specs.Int.{w32, to_be_bytes}
use Rattle.std.proofs.lemmas.List.{take_more}
use denote.Param.Weighed.{at_most}
use Rattle.salt_value.specs.declared.value.Value.{size-Value}
use Rattle.salt_value.specs.Spelling.{bytes, text, concatenation, pairs_spelling, spelled_pairs}
use Rattle.salt_value.proofs.WriteLemmas.{well_formed_at, pair_at, joined-push, pairs-push, bytes-Map}
use Rattle.salt_value.proofs.KeyLemmas.{pairs_most}
use Rattle.salt_value.proofs.writing.+writing.Goals as goal

pub put-returns-in_ok-put_pairs-in-Map-clause-ok :
    goal.put-returns-in_ok-put_pairs-in-Map-clause-ok
put-returns-in_ok-put_pairs-in-Map-clause-ok t c =
    c.in_ok-put_pairs-in-Map.ensures.ok
    ∙ ap (λ o. o ++ (to_be_bytes w32 (length c.as_slice-in-Map.result.now) ++ pairs_spelling (spelled_pairs c.as_slice-in-Map.result.now))) c.in_ok-push-in-Map.ensures.items
    ∙ append_assoc c.args.out.now.items (6 ∷ []) _
    ∙ ap (λ o. c.args.out.now.items ++ o) (ap (λ ps. 6 ∷ (to_be_bytes w32 (length ps) ++ pairs_spelling (spelled_pairs ps))) c.as_slice-in-Map.ensures.value ∙ sym (bytes-Map c.in-Map.fields) ∙ ap bytes (sym c.in-Map.is))

pub put_items-put-requires : goal.put_items-put-requires
put_items-put-requires t c =
    let below = at_most size-Value c.args.items.now c.loop-item.item-index c.item-item.result c.loop-item-test.true in
    let same = ap size-Value c.item-item.is in
    (omega (arith, below, same, c.decreases), rw c.item-item.is (well_formed_at c.args.items.now c.loop-item.item-index c.item-item.result c.requires.1 c.loop-item-test.true))

pub put_items-loop-item-preserved : goal.put_items-loop-item-preserved
put_items-loop-item-preserved t c =
    let xs = c.args.items.now in
    let i = c.loop-item.item-index in
    let v = c.item-item.result in
    let more : concatenation (map bytes (take (i + 1) xs)) ≡ concatenation (map bytes (take i xs)) ++ bytes v =
    ap (λ ys. concatenation (map bytes ys)) (take_more xs i v c.loop-item-test.true) ∙ joined-push (take i xs) (get_or xs i v) ∙ ap (λ w. concatenation (map bytes (take i xs)) ++ bytes w) (sym c.item-item.is) in
    c.in_ok-put.ensures.ok ∙ ap (λ o. o ++ bytes v) c.loop-item.invariant
    ∙ append_assoc c.args.out.now.items (to_be_bytes w32 (length xs) ++ concatenation (map bytes (take i xs))) (bytes v)
    ∙ ap (λ o. c.args.out.now.items ++ (to_be_bytes w32 (length xs) ++ o)) (sym more)

pub put_pairs-put_text-requires : goal.put_pairs-put_text-requires
put_pairs-put_text-requires t c = rw (c.as_bytes.ensures, c.loop-key-item.is) (pair_at c.args.pairs.now c.loop-key.key-index c.loop-key-item.result c.requires.1 c.loop-key-test.true).0

pub put_pairs-put-requires : goal.put_pairs-put-requires
put_pairs-put-requires t c =
    let below = pairs_most c.args.pairs.now c.loop-key.key-index c.loop-key-item.result c.loop-key-test.true in
    let same = ap (λ p. size-Value p.1) c.loop-key-item.is in
    (omega (arith, below, same, c.decreases), rw c.loop-key-item.is (pair_at c.args.pairs.now c.loop-key.key-index c.loop-key-item.result c.requires.1 c.loop-key-test.true).1)

pub put_pairs-loop-key-preserved : goal.put_pairs-loop-key-preserved
put_pairs-loop-key-preserved t c =
    let xs = c.args.pairs.now in
    let i = c.loop-key.key-index in
    let v = c.loop-key-item.result in
    let done = pairs_spelling (spelled_pairs (take i xs)) in
    let more : pairs_spelling (spelled_pairs (take (i + 1) xs)) ≡ done ++ (text v.0 ++ bytes v.1) =
    ap (λ ys. pairs_spelling (spelled_pairs ys)) (take_more xs i v c.loop-key-test.true) ∙ pairs-push (take i xs) (get_or xs i v) ∙ ap (λ w. done ++ (text w.0 ++ bytes w.1)) (sym c.loop-key-item.is) in
    c.in_ok-put.ensures.ok ∙ ap (λ o. o ++ bytes v.1) ((rw c.as_bytes.ensures at c.in_ok-put_text.ensures.ok) ∙ ap (λ o. o ++ text v.0) c.loop-key.invariant)
    ∙ append_assoc (c.args.out.now.items ++ (to_be_bytes w32 (length xs) ++ done)) (text v.0) (bytes v.1)
    ∙ append_assoc c.args.out.now.items (to_be_bytes w32 (length xs) ++ done) (text v.0 ++ bytes v.1)
    ∙ ap (λ o. c.args.out.now.items ++ (to_be_bytes w32 (length xs) ++ o)) (sym more)
