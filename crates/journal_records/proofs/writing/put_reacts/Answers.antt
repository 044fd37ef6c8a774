use Rattle.std.proofs.Common.{◌≡◌, ◌+◌, ◌++◌, length, get_or, take, map, sym, ap, ◌∙◌, append_assoc}
use Rattle.std.proofs.lemmas.List.{take_more}
use Rattle.std.proofs.lemmas.List.Elements.{All-get_or}
use Rattle.salt_value.specs.Spelling.{concatenation}
use Rattle.salt_wire.specs.Spelling.{number}
use Rattle.journal_records.specs.Spelling.{react_bytes}
use Rattle.journal_records.specs.Limits.{ReactFits}
use Rattle.salt_wire.proofs.WriteLemmas.{joined-push}
use Rattle.journal_records.proofs.writing.put_reacts.Goals as goal

pub put_react-requires : goal.put_react-requires
put_react-requires c = rw c.item-item.is (All-get_or ReactFits c.args.items.now c.loop-item.item-index c.item-item.result c.loop-item-test.true c.requires.1)

pub loop-item-preserved : goal.loop-item-preserved
loop-item-preserved c =
    let xs = c.args.items.now in
    let i = c.loop-item.item-index in
    let v = c.item-item.result in
    let done = concatenation (map react_bytes (take i xs)) in
    let more : concatenation (map react_bytes (take (i + 1) xs)) ≡ done ++ react_bytes v =
    ap (λ ys. concatenation (map react_bytes ys)) (take_more xs i v c.loop-item-test.true) ∙ joined-push react_bytes (take i xs) (get_or xs i v) ∙ ap (λ w. done ++ react_bytes w) (sym c.item-item.is) in
    c.in_ok-put_react.ensures ∙ ap (λ o. o ++ react_bytes v) c.loop-item.invariant
    ∙ append_assoc c.args.out.now.items (number (length xs) ++ done) (react_bytes v)
    ∙ ap (λ o. c.args.out.now.items ++ (number (length xs) ++ o)) (sym more)
