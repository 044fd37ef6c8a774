use Rattle.std.proofs.Common.{◌≡◌, [], ◌∙◌, subst, rules, arith, lit<}
use Rattle.std.specs.Prelude.{IfOk}
use Rattle.target_tree.specs.declared.token.Token.{Token}
use Rattle.std.proofs.lemmas.Str.Pattern.{split_parts}
use Rattle.target_tree.specs.Words.{list_items, trimmed_item}
use Rattle.target_tree.proofs.ItemList.{items-bad, items-good, next-item, last-item, one-more, last-more, all-more}
use Rattle.target_tree.proofs.items.id_list_of.Goals as goal

pub returns-in_default-id_of : goal.returns-in_default-id_of
returns-in_default-id_of c =
    let cut = rw c.in-Some.is at (c.split_once.ensures.byte (lit< tt) (λ w o h. h)) in
    let bad = rw c.in_default-id_of.is at c.id_of.ensures in
    items-bad c.args.text.now c.loop-item.ids (list_items c.in-Some.more.now) (trimmed_item c.in-Some.item.now)
    (c.loop-item.invariant.1 ∙ next-item c.loop-item.ids c.loop-item.rest.now c.in-Some.item.now c.in-Some.more.now cut.0 cut.1 cut.2) bad

pub loop-item-preserved : goal.loop-item-preserved
loop-item-preserved c =
    let cut = rw c.in-Some.is at (c.split_once.ensures.byte (lit< tt) (λ w o h. h)) in
    let good = c.in-Some-id_of.ensures in (
      search rules,
      c.loop-item.invariant.1 ∙ one-more c.loop-item.ids c.loop-item.rest.now c.in-Some.item.now c.in-Some.more.now c.in-Some-id_of.id c.push.new.self cut.0 cut.1 cut.2 good.0 c.in_ok-push.ensures.ok,
      all-more c.loop-item.ids c.in-Some-id_of.id c.push.new.self c.loop-item.invariant.2 good.1 c.in_ok-push.ensures.ok,
    )

pub returns-in_default-id_of-2 : goal.returns-in_default-id_of-2
returns-in_default-id_of-2 c =
    let none = rw c.in_default.is at (split_parts 44 c.loop-item.rest.now c.split_once.result c.split_once.ensures.cases (omega arith)) in
    let bad = rw c.in_default-id_of-2.is at c.id_of-2.ensures in
    items-bad c.args.text.now c.loop-item.ids [] (trimmed_item c.loop-item.rest.now)
    (c.loop-item.invariant.1 ∙ last-item c.loop-item.ids c.loop-item.rest.now none) bad

pub returns : goal.returns
returns c =
    let none = rw c.in_default.is at (split_parts 44 c.loop-item.rest.now c.split_once.result c.split_once.ensures.cases (omega arith)) in
    let good = c.in-Some-id_of-2.ensures in
    subst (λ (x : Token). IfOk c.leaf.result (λ t. t ≡ x))
    (items-good c.args.text.now c.push-2.new.self
    (c.loop-item.invariant.1 ∙ last-more c.loop-item.ids c.loop-item.rest.now c.in-Some-id_of-2.id c.push-2.new.self none good.0 c.in_ok-push-2.ensures.ok)
    (all-more c.loop-item.ids c.in-Some-id_of-2.id c.push-2.new.self c.loop-item.invariant.2 good.1 c.in_ok-push-2.ensures.ok))
    c.leaf.ensures
