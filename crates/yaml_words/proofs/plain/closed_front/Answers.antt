use Rattle.std.proofs.Common.{◌≡◌, ◌∙◌, true, false, sym, drop}
use Rattle.std.proofs.lemmas.List.{take_rest}
use Rattle.yaml_words.specs.declared.places.Delimiter.TheVariants.{Close}
use Rattle.yaml_words.specs.Places.{is_at}
use Rattle.yaml_words.proofs.MarkLemmas.{end_met, end_passed, end_within}
use Rattle.yaml_words.proofs.plain.closed_front.Goals as goal
use Rattle.yaml_words.proofs.plain.closed_front.Goals.{then-is_at, else-is_at}

pub loop-at-preserved : goal.loop-at-preserved
loop-at-preserved c =
    elim c.if-is_at.branch [
      | then-is_at w ↦
          (let here : is_at Close (drop c.loop-at.at c.args.text.now) ≡ true = rw (take_rest c.args.text.now c.loop-at.at) at (sym c.is_at.ensures ∙ w.if-is_at.true) in
          rw w.end-is (end_within c.args.text.now c.loop-at.at c.loop-at-test.true here, c.loop-at.invariant.1 ∙ end_met c.args.text.now c.loop-at.at c.loop-at.end c.loop-at-test.true here))
      | else-is_at w ↦
          (let here : is_at Close (drop c.loop-at.at c.args.text.now) ≡ false = rw (take_rest c.args.text.now c.loop-at.at) at (sym c.is_at.ensures ∙ w.if-is_at.false) in
          rw w.end-is (c.loop-at.invariant.0, c.loop-at.invariant.1 ∙ end_passed c.args.text.now c.loop-at.at c.loop-at.end c.loop-at-test.true here))
    ]
