use Rattle.std.proofs.Common.{◌≡◌, ◌+◌, ◌++◌, length, get_or, take, map, sym, ap, ◌∙◌, append_assoc}
use Rattle.std.proofs.lemmas.List.{take_more}
use Rattle.std.proofs.lemmas.List.Elements.{All-get_or}
use Rattle.salt_value.specs.Spelling.{concatenation}
use Rattle.salt_wire.specs.Spelling.{number, entry}
use Rattle.salt_wire.specs.Limits.{EntryFits}
use Rattle.salt_wire.proofs.WriteLemmas.{joined-push}
use Rattle.journal_records.proofs.writing.put_entries.Goals as goal

pub write_entry-requires : goal.write_entry-requires
write_entry-requires c = rw c.entry-item.is (All-get_or EntryFits c.args.entries.now c.loop-entry.entry-index c.entry-item.result c.loop-entry-test.true c.requires.1)

pub loop-entry-preserved : goal.loop-entry-preserved
loop-entry-preserved c =
    let xs = c.args.entries.now in
    let i = c.loop-entry.entry-index in
    let v = c.entry-item.result in
    let done = concatenation (map entry (take i xs)) in
    let more : concatenation (map entry (take (i + 1) xs)) ≡ done ++ entry v =
    ap (λ ys. concatenation (map entry ys)) (take_more xs i v c.loop-entry-test.true) ∙ joined-push entry (take i xs) (get_or xs i v) ∙ ap (λ w. done ++ entry w) (sym c.entry-item.is) in
    c.in_ok-write_entry.ensures.ok ∙ ap (λ o. o ++ entry v) c.loop-entry.invariant
    ∙ append_assoc c.args.out.now.items (number (length xs) ++ done) (entry v)
    ∙ ap (λ o. c.args.out.now.items ++ (number (length xs) ++ o)) (sym more)
