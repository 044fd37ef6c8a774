use Rattle.std.proofs.Common.{◌∙◌}
use Rattle.target_match.proofs.Reading.{starts_as, begins_at, begins_nowhere}
use Rattle.target_match.proofs.pattern.starts.Goals as goal

pub returns-in-Some-clause-value : goal.returns-in-Some-clause-value
returns-in-Some-clause-value c =
    let whole = starts_as c.args._pattern.now c.requires.compiled c.args.text.now (λ k. (c.type_inv.text k).fits) in
    let here = begins_at _ _ (rw c.requires.same at c.in-Some.ensures.found) in
    rw c.start.ensures (here ∙ whole)

pub returns-in-None-clause-value : goal.returns-in-None-clause-value
returns-in-None-clause-value c =
    let whole = starts_as c.args._pattern.now c.requires.compiled c.args.text.now (λ k. (c.type_inv.text k).fits) in
    let here = begins_nowhere _ (rw c.requires.same at c.in-None.ensures.found) in
    here ∙ whole
