use Rattle.std.proofs.Common.{◌≡◌, ◌+◌, ◌++◌, ◌∷◌, length, get_or, take, map, sym, ap, ◌∙◌, append_assoc}
use Rattle.std.specs.Int.{w32, to_be_bytes}
use Rattle.std.proofs.lemmas.List.{take_more, take_all}
use Rattle.salt_value.specs.Spelling.{bytes, concatenation}
use Rattle.salt_wire.proofs.WriteLemmas.{fits_item, joined-push, bytes-List}
use Rattle.salt_wire.proofs.writing.put_items.Goals as goal

pub write-requires : goal.write-requires
write-requires c = rw c.item-item.is (fits_item c.args.items.now c.loop-item.item-index c.item-item.result c.requires c.loop-item-test.true)

pub loop-item-preserved : goal.loop-item-preserved
loop-item-preserved c =
    let xs = c.args.items.now in
    let i = c.loop-item.item-index in
    let v = c.item-item.result in
    let more : concatenation (map bytes (take (i + 1) xs)) ≡ concatenation (map bytes (take i xs)) ++ bytes v =
    ap (λ ys. concatenation (map bytes ys)) (take_more xs i v c.loop-item-test.true) ∙ joined-push bytes (take i xs) (get_or xs i v) ∙ ap (λ w. concatenation (map bytes (take i xs)) ++ bytes w) (sym c.item-item.is) in
    c.in_ok-write.ensures.ok ∙ ap (λ o. o ++ bytes v) c.loop-item.invariant
    ∙ append_assoc c.args.out.now.items (5 ∷ (to_be_bytes w32 (length xs) ++ concatenation (map bytes (take i xs)))) (bytes v)
    ∙ ap (λ o. c.args.out.now.items ++ 5 ∷ (to_be_bytes w32 (length xs) ++ o)) (sym more)

pub returns-clause-ok : goal.returns-clause-ok
returns-clause-ok c =
    let xs = c.args.items.now in
    c.loop-item.invariant
    ∙ ap (λ ys. c.args.out.now.items ++ 5 ∷ (to_be_bytes w32 (length xs) ++ concatenation (map bytes ys))) (take_all c.loop-item.item-index xs c.loop-item-test.false)
    ∙ ap (λ l. c.args.out.now.items ++ l) (sym (bytes-List xs))
