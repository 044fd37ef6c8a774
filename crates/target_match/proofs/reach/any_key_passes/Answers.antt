use Rattle.std.proofs.Common.{◌≡◌, true, sym, ap, ◌∙◌}
use Rattle.std.specs.List.{list_any}
use Rattle.std.proofs.Math.ListN.{drop_of_length-le}
use Rattle.regex.specs.Strings.{regex_source}
use Rattle.target_match.specs.Patterns.{starts}
use Rattle.target_match.specs.Data.{reaches}
use Rattle.target_match.proofs.Meeting.{keys-told, any-some}
use Rattle.target_match.proofs.reach.any_key_passes.Goals as goal

pub returns-then-starts-clause-value : goal.returns-then-starts-clause-value
returns-then-starts-clause-value c =
    let p = regex_source c.args.pattern.now in
    let i = c.loop-name.name-index in
    let d = c.loop-name-item.result in
    let one : starts p d.0 ≡ true = ap (starts p) (sym c.as_str.ensures.value) ∙ sym c.starts.ensures.value ∙ c.if-starts.true in
    sym (keys-told (reaches (starts p)) (starts p) c.args.pairs.now ∙ c.loop-name.invariant.same
    ∙ any-some (λ q. starts p q.0) c.args.pairs.now i d c.loop-name-test.true (ap (λ q. starts p q.0) (sym c.loop-name-item.is) ∙ one))

pub returns-clause-value : goal.returns-clause-value
returns-clause-value c =
    let p = regex_source c.args.pattern.now in
    sym (keys-told (reaches (starts p)) (starts p) c.args.pairs.now ∙ c.loop-name.invariant.same
    ∙ ap (list_any (λ q. starts p q.0)) (drop_of_length-le c.args.pairs.now c.loop-name-test.false))
