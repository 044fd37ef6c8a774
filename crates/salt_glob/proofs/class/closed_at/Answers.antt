use Rattle.std.proofs.Common.{arith, ◌≡◌, ◌+◌, ◌<◌, ◌∙◌, sym, drop, length}
use Rattle.std.specs.Prelude.{position, None, Some}
use Rattle.salt_glob.proofs.Lists.{closes, closed_none, closed_some, closed_none_found}
use Rattle.salt_glob.proofs.class.closed_at.Goals as goal

pub returns-then-last-lt2-clause-value : goal.returns-then-last-lt2-clause-value
returns-then-last-lt2-clause-value c = sym (closed_none c.args.negated c.args.pattern.now c.args.first c.args.last c.requires.closes (omega arith))

pub returns-then-first-last-clause-value : goal.returns-then-first-last-clause-value
returns-then-first-last-clause-value c = sym (closed_none c.args.negated c.args.pattern.now c.args.first c.args.last c.requires.closes (omega arith))

pub returns-in-None-clause-value : goal.returns-in-None-clause-value
returns-in-None-clause-value c =
    let e : position closes (drop (c.args.first + 1) c.args.pattern.now) ≡ None = sym c.first_close.ensures.value ∙ c.in-None.is in
    let low : c.args.first < length c.args.pattern.now = omega arith in
    sym (closed_none_found c.args.negated c.args.pattern.now c.args.first low e)

pub returns-in-Some-clause-value : goal.returns-in-Some-clause-value
returns-in-Some-clause-value c =
    let e : position closes (drop (c.args.first + 1) c.args.pattern.now) ≡ Some c.in-Some.n = sym c.first_close.ensures.value ∙ c.in-Some.is in
    let low : c.args.first < length c.args.pattern.now = omega arith in
    closed_some c.args.negated c.args.pattern.now c.args.first c.in-Some.n low e
