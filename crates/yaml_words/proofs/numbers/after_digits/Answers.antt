use Rattle.std.proofs.Common.{◌≡◌, ◌∙◌, true, sym, drop}
use Rattle.std.proofs.lemmas.List.{take_rest}
use Rattle.yaml_words.specs.Numbers.{begins_with_digit}
use Rattle.yaml_words.proofs.NumberLemmas.{digit_passes}
use Rattle.yaml_words.proofs.numbers.after_digits.Goals as goal

pub loop-at-preserved : goal.loop-at-preserved
loop-at-preserved c =
    let here : begins_with_digit (drop c.loop-at.at c.args.text.now) ≡ true = rw (take_rest c.args.text.now c.loop-at.at) at (sym c.begins_with_digit.ensures ∙ c.if-not-begins_with_digit.false) in
    c.loop-at.invariant ∙ digit_passes c.args.text.now c.loop-at.at c.loop-at-test.true here
