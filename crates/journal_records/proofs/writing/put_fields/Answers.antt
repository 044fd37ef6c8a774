use Rattle.std.proofs.Common.{◌≡◌, ◌+◌, ◌++◌, ◌∷◌, length, get_or, take, sym, ap, ◌∙◌, append_assoc}
use Rattle.std.specs.Int.{w32, to_be_bytes}
use Rattle.std.proofs.lemmas.List.{take_more, take_all}
use Rattle.salt_value.specs.Spelling.{bytes, text, pairs_spelling, spelled_pairs}
use Rattle.salt_wire.proofs.WriteLemmas.{fits_pair, pairs-push, bytes-Map}
use Rattle.journal_records.proofs.writing.put_fields.Goals as goal

pub put_pair-requires : goal.put_pair-requires
put_pair-requires c = rw c.loop-key-item.is (fits_pair c.args.pairs.now c.loop-key.key-index c.loop-key-item.result c.requires c.loop-key-test.true)

pub loop-key-preserved : goal.loop-key-preserved
loop-key-preserved c =
    let xs = c.args.pairs.now in
    let i = c.loop-key.key-index in
    let v = c.loop-key-item.result in
    let done = pairs_spelling (spelled_pairs (take i xs)) in
    let more : pairs_spelling (spelled_pairs (take (i + 1) xs)) ≡ done ++ (text v.0 ++ bytes v.1) =
    ap (λ ys. pairs_spelling (spelled_pairs ys)) (take_more xs i v c.loop-key-test.true) ∙ pairs-push (take i xs) (get_or xs i v) ∙ ap (λ w. done ++ (text w.0 ++ bytes w.1)) (sym c.loop-key-item.is) in
    c.in_ok-put_pair.ensures ∙ ap (λ o. o ++ (text v.0 ++ bytes v.1)) c.loop-key.invariant
    ∙ append_assoc c.args.out.now.items (6 ∷ (to_be_bytes w32 (length xs) ++ done)) (text v.0 ++ bytes v.1)
    ∙ ap (λ o. c.args.out.now.items ++ 6 ∷ (to_be_bytes w32 (length xs) ++ o)) (sym more)

pub returns : goal.returns
returns c =
    let xs = c.args.pairs.now in
    c.loop-key.invariant
    ∙ ap (λ ys. c.args.out.now.items ++ 6 ∷ (to_be_bytes w32 (length xs) ++ pairs_spelling (spelled_pairs ys))) (take_all c.loop-key.key-index xs c.loop-key-test.false)
    ∙ ap (λ l. c.args.out.now.items ++ l) (sym (bytes-Map xs))
