use Rattle.std.proofs.Common.{arith, ap, get_or}
use Rattle.std.proofs.lemmas.Bool.Decides.{nat_tests}
use Rattle.std.proofs.lemmas.Str.Pattern.{split_parts}
use Rattle.target_tree.proofs.Letters.{no-at, other-front, no-capital, outside, parted-so}
use Rattle.target_tree.proofs.token.parted.Goals as goal

pub returns-in_default : goal.returns-in_default
returns-in_default c = no-at c.args.word.now (rw c.in_default.is at (split_parts 64 c.args.word.now c.split_once.result c.split_once.ensures.cases (omega arith)))

pub returns-then-front-ne1 : goal.returns-then-front-ne1
returns-then-front-ne1 c =
    let cut = rw c.in-Some.is at (split_parts 64 c.args.word.now c.split_once.result c.split_once.ensures.cases (omega arith)) in
    other-front c.args.word.now c.in-Some.front.now c.in-Some.text.now cut.0 cut.1 (grind (arith, nat_tests))

pub returns-then-letter-lt65 : goal.returns-then-letter-lt65
returns-then-letter-lt65 c =
    let cut = rw c.in-Some.is at (split_parts 64 c.args.word.now c.split_once.result c.split_once.ensures.cases (omega arith)) in
    no-capital c.args.word.now c.in-Some.front.now c.in-Some.text.now (get_or c.as_bytes.result.now 0 0) cut.0 c.if-front-ne1.false (ap (λ s. get_or s 0 0) c.as_bytes.ensures.value)
    (outside (get_or c.as_bytes.result.now 0 0) c.then-letter-lt65.either)

pub returns : goal.returns
returns c =
    let cut = rw c.in-Some.is at (split_parts 64 c.args.word.now c.split_once.result c.split_once.ensures.cases (omega arith)) in
    parted-so c.args.word.now c.in-Some.front.now c.in-Some.text.now (get_or c.as_bytes.result.now 0 0) cut.0 c.if-front-ne1.false (ap (λ s. get_or s 0 0) c.as_bytes.ensures.value)
    c.if-letter-lt65.false c.if-letter-gt90.false
