use Rattle.std.proofs.Common.{◌≡◌, ◌+◌, ◌-◌, ◌≤◌, ◌∷◌, [], length, length-append, ap, arith, refl, rules, sym}
use Rattle.yaml_words.specs.Faults.{GivesYaml}
use Rattle.yaml_words.specs.Lists.{items}
use Rattle.yaml_words.proofs.ItemLemmas.{handed, given, failed, fault_kept, list_ends, list_goes_on, list_breaks}
use Rattle.yaml_words.proofs.lists.items.Goals as goal

pub returns-in_err-found : goal.returns-in_err-found
returns-in_err-found c =
    let levels : length c.items.rest.now ≤ length c.args.text.now - length c.items.items = omega arith in
    handed c.from_residual.result c.in_err-found.field-0.0 (λ r. GivesYaml r (items (length c.args.text.now) c.args.line [] c.args.text.now)) c.from_residual.ensures.1
    (fault_kept c.in_err-found.field-0.0 (length c.args.text.now - length c.items.items) c.args.line c.items.items c.items.rest.now _ c.items.invariant.2 levels c.in_err-found.ensures)

pub returns-in-Some : goal.returns-in-Some
returns-in-Some c =
    let levels : length c.items.rest.now ≤ length c.args.text.now - length c.items.items = omega arith in
    given c.closed_list.result _ _
    (list_ends (length c.args.text.now - length c.items.items) c.args.line c.items.items _ c.items.rest.now _ _ c.in_ok-found.found _ c.items.invariant.2 levels
    c.in_ok-found.ensures c.after_item-after.ensures.value c.in_ok-push.ensures.ok c.in-Some.ensures.value.0 c.in-Some.ensures.value.1)
    c.closed_list.ensures

pub items-preserved : goal.items-preserved
items-preserved c =
    let levels : length c.items.rest.now ≤ length c.args.text.now - length c.items.items = omega arith in
    let one = length-append c.items.items (c.in_ok-found.found ∷ []) in
    let count : length c.push.new.self ≡ length c.items.items + 1 = omega (arith, one, ap length c.in_ok-push.ensures.ok) in (
      search rules,
      omega (arith, count, c.after_item-after.ensures.within, c.in-Some-after_byte.ensures.shorter, c.after_spaces-rest.ensures.within),
      list_goes_on (length c.args.text.now - length c.push.new.self) (length c.args.text.now - length c.items.items) c.args.line c.items.items _ c.items.rest.now _ _ _ c.in_ok-found.found _
          c.items.invariant.2 levels c.in_ok-found.ensures c.after_item-after.ensures.value c.in_ok-push.ensures.ok c.in_default.ensures.none c.in-Some-after_byte.ensures.value.0
          c.in-Some-after_byte.ensures.value.1 c.after_spaces-rest.ensures.value (omega (arith, count)),
    )

pub returns-in-None : goal.returns-in-None
returns-in-None c =
    let levels : length c.items.rest.now ≤ length c.args.text.now - length c.items.items = omega arith in
    failed c.refused.result _ _ _ c.refused.ensures
    (sym (list_breaks (length c.args.text.now - length c.items.items) c.args.line c.items.items _ c.items.rest.now _ c.in_ok-found.found _ c.items.invariant.2 levels
    c.in_ok-found.ensures c.after_item-after.ensures.value c.in_ok-push.ensures.ok c.in_default.ensures.none c.in-None.ensures.none)) refl
