use Rattle.std.proofs.Common.{◌≡◌, ◌+◌, ◌++◌, length, get_or, take, map, sym, ap, ◌∙◌, append_assoc}
use Rattle.std.specs.Int.{w16, to_be_bytes}
use Rattle.std.proofs.lemmas.List.{take_more}
use Rattle.salt_value.specs.Spelling.{concatenation}
use Rattle.salt_wire.specs.Spelling.{id}
use Rattle.salt_wire.proofs.WriteLemmas.{joined-push}
use Rattle.salt_wire.proofs.writing.put_ids.Goals as goal

pub loop-id-preserved : goal.loop-id-preserved
loop-id-preserved c =
    let xs = c.args.ids.now in
    let i = c.loop-id.id-index in
    let v = c.id-item.result in
    let more : concatenation (map id (take (i + 1) xs)) ≡ concatenation (map id (take i xs)) ++ id v =
    ap (λ ys. concatenation (map id ys)) (take_more xs i v c.loop-id-test.true) ∙ joined-push id (take i xs) (get_or xs i v) ∙ ap (λ w. concatenation (map id (take i xs)) ++ id w) (sym c.id-item.is) in
    c.in_ok-put_id.ensures.ok ∙ ap (λ o. o ++ id v) c.loop-id.invariant
    ∙ append_assoc c.args.out.now.items (to_be_bytes w16 (length xs) ++ concatenation (map id (take i xs))) (id v)
    ∙ ap (λ o. c.args.out.now.items ++ (to_be_bytes w16 (length xs) ++ o)) (sym more)
