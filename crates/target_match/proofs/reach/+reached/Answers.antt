use Rattle.std.proofs.Common.{arith, sym, ap, ◌∙◌}
use Rattle.std.specs.Prelude.{bytes_eq}
use Rattle.std.specs.List.{list_any}
use Rattle.regex.specs.Strings.{regex_source}
use Rattle.salt_value.specs.declared.value.Value.{size-Value}
use Rattle.target_match.specs.Patterns.{starts}
use Rattle.target_match.specs.Data.{reaches, map_reaches, reaches_pairs}
use Rattle.target_match.proofs.Meeting.{pairs_most, any-some, any-none, child-found, reached-List, reached-Map, carried}
use Rattle.target_match.proofs.reach.+reached.Goals as goal

pub any_reached-returns-then-branch-clause-ok :
    goal.any_reached-returns-then-branch-clause-ok
any_reached-returns-then-branch-clause-ok t c =
    let p = regex_source c.args.pattern.now in
    sym (c.loop-item.invariant.same
    ∙ any-some (λ v. reaches (starts p) v c.args.path.now) c.args.items.now c.loop-item.item-index c.item-item.result c.loop-item-test.true
    (ap (λ v. reaches (starts p) v c.args.path.now) (sym c.item-item.is) ∙ sym c.in_ok-reached.ensures.ok ∙ c.if-branch.true))

pub any_reached-loop-item-preserved : goal.any_reached-loop-item-preserved
any_reached-loop-item-preserved t c =
    let p = regex_source c.args.pattern.now in
    record {
      kept = c.in_ok-reached.ensures.kept ∙ c.loop-item.invariant.kept;
      same = c.loop-item.invariant.same
          ∙ any-none (λ v. reaches (starts p) v c.args.path.now) c.args.items.now c.loop-item.item-index c.item-item.result c.loop-item-test.true
          (ap (λ v. reaches (starts p) v c.args.path.now) (sym c.item-item.is) ∙ sym c.in_ok-reached.ensures.ok ∙ c.if-branch.false);
    }

pub child_reached-reached-requires : goal.child_reached-reached-requires
child_reached-reached-requires t c =
    let below = pairs_most c.args.pairs.now c.loop-name.name-index c.loop-name-item.result c.loop-name-test.true in
    let same = ap (λ p. size-Value p.1) c.loop-name-item.is in
    (omega (arith, below, same), (c.requires.compiled, c.loop-name.invariant.kept ∙ c.requires.same))

pub child_reached-returns-then-is_key-clause-ok :
    goal.child_reached-returns-then-is_key-clause-ok
child_reached-returns-then-is_key-clause-ok t c =
    let p = regex_source c.args.pattern.now in
    let d = c.loop-name-item.result in
    let here = ap (λ k. bytes_eq k c.args.key.now) (sym (ap (λ q. q.0) c.loop-name-item.is)) ∙ ap (bytes_eq d.0) (sym c.as_bytes.ensures) ∙ sym c.is_key.ensures ∙ c.if-is_key.true in
    carried c.reached.result _ _ c.reached.ensures.ok (sym (c.loop-name.invariant.same
    ∙ child-found (reaches (starts p)) c.args.key.now c.args.pairs.now c.loop-name.name-index d c.args.path.now c.loop-name-test.true here
    ∙ ap (λ q. reaches (starts p) q.1 c.args.path.now) (sym c.loop-name-item.is)))

pub reached-returns-in-List-clause-ok : goal.reached-returns-in-List-clause-ok
reached-returns-in-List-clause-ok t c =
    let p = regex_source c.args.pattern.now in
    carried c.any_reached.result _ _ c.any_reached.ensures.ok (ap (list_any (λ v. reaches (starts p) v c.args.path.now)) c.as_slice.ensures
    ∙ sym (reached-List (starts p) c.in-List.items c.args.path.now) ∙ ap (λ v. reaches (starts p) v c.args.path.now) (sym c.in-List.is))

pub reached-returns-in-Map-clause-ok : goal.reached-returns-in-Map-clause-ok
reached-returns-in-Map-clause-ok t c =
    let p = regex_source c.args.pattern.now in
    carried c.pairs_reached.result _ _ c.pairs_reached.ensures.ok (ap (λ l. map_reaches (starts p) (reaches_pairs (starts p) l) c.args.path.now) c.as_slice-in-Map.ensures.value
    ∙ sym (reached-Map (starts p) c.in-Map.fields c.args.path.now) ∙ ap (λ v. reaches (starts p) v c.args.path.now) (sym c.in-Map.is))
