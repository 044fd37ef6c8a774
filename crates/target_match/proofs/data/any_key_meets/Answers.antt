use Rattle.std.proofs.Common.{◌≡◌, true, sym, ap, ◌∙◌}
use Rattle.std.specs.List.{list_any}
use Rattle.std.proofs.Math.ListN.{drop_of_length-le}
use Rattle.salt_glob.specs.LowerCase.{glob_caseless}
use Rattle.target_match.proofs.Meeting.{keys-any, any-some}
use Rattle.target_match.proofs.data.any_key_meets.Goals as goal

pub returns-then-glob_caseless : goal.returns-then-glob_caseless
returns-then-glob_caseless c =
    let i = c.loop-name.name-index in
    let d = c.loop-name-item.result in
    let one : glob_caseless c.args.glob.now d.0 ≡ true =
    ap (λ t. glob_caseless t d.0) (sym c.as_bytes.ensures.value) ∙ ap (glob_caseless c.as_bytes.result.now) (sym c.as_bytes-in-loop-name.ensures) ∙ sym c.glob_caseless.ensures.exact ∙ c.if-glob_caseless.true in
    sym (keys-any c.args.glob.now c.args.pairs.now ∙ c.loop-name.invariant
    ∙ any-some (λ p. glob_caseless c.args.glob.now p.0) c.args.pairs.now i d c.loop-name-test.true (ap (λ p. glob_caseless c.args.glob.now p.0) (sym c.loop-name-item.is) ∙ one))

pub returns : goal.returns
returns c =
    sym (keys-any c.args.glob.now c.args.pairs.now ∙ c.loop-name.invariant
    ∙ ap (list_any (λ p. glob_caseless c.args.glob.now p.0)) (drop_of_length-le c.args.pairs.now c.loop-name-test.false))
