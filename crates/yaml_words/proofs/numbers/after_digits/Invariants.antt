use Rattle.std.proofs.Common.{◌≡◌, drop}
use Rattle.yaml_words.specs.Numbers.{after_digits}
use Rattle.yaml_words.proofs.numbers.after_digits.Given as goal

abbrev pub invariant-loop-at : goal.invariant-loop-at
invariant-loop-at l = after_digits l.text ≡ after_digits (drop l.at l.text)
