use Rattle.std.proofs.Common.{◌≡◌, Ok, ◌+◌, ◌-◌, ◌≤◌, ◌∷◌, length, rules, ap, ◌∙◌, sym, arith}
use Rattle.target_tree.specs.Words.{tokens_of}
use Rattle.target_tree.specs.Machine.{GivesTree}
use Rattle.target_tree.specs.WaitingTexts.{Goes, going}
use Rattle.target_tree.proofs.Cuts.{tokens-more, tokens-none}
use Rattle.target_tree.proofs.Steps.{run-word, run-word-fails, run-last, run-end, run-end-fails, resumed-at, ended-at, handed}
use Rattle.target_tree.proofs.run.run.Goals as goal

pub loop-word-preserved-in-Some : goal.loop-word-preserved-in-Some
loop-word-preserved-in-Some c =
    let i = c.loop-word.invariant in
    let words : tokens_of c.loop-word.rest.now ≡ c.in_ok-word-in-Some.word ∷ tokens_of c.in-Some.more.now =
    tokens-more c.loop-word.rest.now c.in-Some.word.now c.in-Some.more.now c.in-Some.ensures ∙ ap (λ t. t ∷ tokens_of c.in-Some.more.now) (sym c.in_ok-word-in-Some.ensures) in
    let goes : Goes c.args.groups.now c.loop-word.outers c.one_word.new.outers c.loop-word.reader (c.in_ok-word-in-Some.word ∷ tokens_of c.in-Some.more.now) c.in_ok-next-in-Some.next c.in_ok-next-in-Some.to.now = c.in_ok-next-in-Some.ensures in
    let within : length c.loop-word.outers ≤ c.loop-word.reader.at = i.1 in
    let counted : c.in_ok-next-in-Some.next.at ≡ c.loop-word.reader.at + 1 = goes.one_word in
    let nested : length c.one_word.new.outers ≤ length c.loop-word.outers + 1 = goes.nested in (
      search rules,
      omega arith,
      goes.counted,
      run-word c.args.groups.now c.loop-word.outers c.one_word.new.outers c.loop-word.reader c.in_ok-next-in-Some.next c.loop-word.rest.now c.in-Some.more.now c.in_ok-next-in-Some.to.now c.in_ok-word-in-Some.word _ words i.3 goes,
    )

pub returns-in_err-next-in-Some : goal.returns-in_err-next-in-Some
returns-in_err-next-in-Some c =
    let i = c.loop-word.invariant in
    let words : tokens_of c.loop-word.rest.now ≡ c.in_ok-word-in-Some.word ∷ tokens_of c.in-Some.more.now =
    tokens-more c.loop-word.rest.now c.in-Some.word.now c.in-Some.more.now c.in-Some.ensures ∙ ap (λ t. t ∷ tokens_of c.in-Some.more.now) (sym c.in_ok-word-in-Some.ensures) in
    let whole = going (257 - length c.args.outers) c.args.groups.now c.args.outers (tokens_of c.args.rest.now) c.args.reader in
    handed c.from_residual-in_err-next-in-Some.result c.in_err-next-in-Some.field-0.0 (λ r. GivesTree r whole) c.from_residual-in_err-next-in-Some.ensures.1
    (run-word-fails c.args.groups.now c.loop-word.outers c.loop-word.reader c.loop-word.rest.now c.in-Some.more.now c.in_ok-word-in-Some.word whole c.in_err-next-in-Some.field-0.0 words i.3 c.in_err-next-in-Some.ensures)

pub returns-in_default : goal.returns-in_default
returns-in_default c =
    let i = c.loop-word.invariant in
    run-last c.args.groups.now c.loop-word.outers c.loop-word.reader c.loop-word.rest.now _ c.in_ok-ended-in-None.ended (tokens-none c.loop-word.rest.now c.in-None.ensures) i.3 (rw c.in_default.is at c.pop.ensures).0 c.in_ok-ended-in-None.ensures
    ∙ ap Ok (sym c.into_inner.ensures)

pub loop-word-preserved : goal.loop-word-preserved
loop-word-preserved c =
    let i = c.loop-word.invariant in
    let within : length c.loop-word.outers ≤ c.loop-word.reader.at = i.1 in
    let few : c.loop-word.reader.at ≤ 256 = i.2 in
    let popped : c.loop-word.outers ≡ c.in-Some-pop.outer ∷ c.pop.new.self = c.in-Some-pop.ensures in
    let longer : length c.loop-word.outers ≡ length (c.in-Some-pop.outer ∷ c.pop.new.self) = ap length popped in
    let at_end : c.in_ok-ended-in-None.ended.at ≡ c.loop-word.reader.at = ended-at c.loop-word.reader c.in_ok-ended-in-None.ended c.in_ok-ended-in-None.ensures in
    let at_next : c.in_ok-reader-in-None.reader.at ≡ c.in_ok-ended-in-None.ended.at = resumed-at c.in-Some-pop.outer.reader c.in_ok-reader-in-None.reader c.in_ok-ended-in-None.ended c.in_ok-reader-in-None.ensures in (
      search rules,
      omega arith,
      omega arith,
      run-end c.args.groups.now c.loop-word.outers c.pop.new.self c.in-Some-pop.outer c.loop-word.reader c.in_ok-reader-in-None.reader c.loop-word.rest.now _ c.in_ok-ended-in-None.ended
          (tokens-none c.loop-word.rest.now c.in-None.ensures) (omega arith) i.3 popped c.in_ok-ended-in-None.ensures c.in_ok-reader-in-None.ensures,
    )

pub returns-in_err-ended-in-None : goal.returns-in_err-ended-in-None
returns-in_err-ended-in-None c =
    let i = c.loop-word.invariant in
    let whole = going (257 - length c.args.outers) c.args.groups.now c.args.outers (tokens_of c.args.rest.now) c.args.reader in
    handed c.from_residual-in_err-ended-in-None.result c.in_err-ended-in-None.field-0.0 (λ r. GivesTree r whole) c.from_residual-in_err-ended-in-None.ensures.1
    (run-end-fails c.args.groups.now c.loop-word.outers c.loop-word.reader c.loop-word.rest.now whole c.in_err-ended-in-None.field-0.0 (tokens-none c.loop-word.rest.now c.in-None.ensures) i.3 c.in_err-ended-in-None.ensures)
