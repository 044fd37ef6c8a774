use Rattle.std.proofs.Common.{lit<, arith}
use Rattle.std.proofs.lemmas.Str.Pattern.{split_parts}
use Rattle.target_match.proofs.Splits.{parts-more, parts-one}
use Rattle.target_match.proofs.parts.split.Goals as goal

pub returns-in_default-clause-none : goal.returns-in_default-clause-none
returns-in_default-clause-none c =
    parts-one c.args.text.now (rw c.in_default.is at (split_parts 58 c.args.text.now c.split_once.result c.split_once.ensures.cases (omega arith)))

pub returns-clause-some : goal.returns-clause-some
returns-clause-some c =
    let cut = rw c.in-Some.is at (c.split_once.ensures.byte (lit< tt) (λ w o h. h)) in
    parts-more c.args.text.now c.in-Some.part.now c.in-Some.rest.now cut.0 cut.1 cut.2
