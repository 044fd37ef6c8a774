use Rattle.std.proofs.Common.{codes, arith, sym, ap, ◌∙◌}
use Rattle.std.specs.List.{list_any}
use Rattle.salt_glob.specs.LowerCase.{glob_caseless}
use Rattle.salt_value.specs.declared.value.Value.{size-Value}
use Rattle.target_match.specs.Paths.{parts}
use Rattle.target_match.specs.Data.{meets, map_meets, told_pairs}
use Rattle.target_match.proofs.Meeting.{pairs_most, meets-Null, meets-Flag, meets-Int, meets-Str, meets-List, meets-Map, carried, more_parts}
use Rattle.target_match.proofs.data.+meets.Goals as goal

pub child_meets-meets-requires : goal.child_meets-meets-requires
child_meets-meets-requires t c =
    let below = pairs_most c.args.pairs.now c.loop-name.name-index c.loop-name-item.result c.loop-name-test.true in
    let same = ap (λ p. size-Value p.1) c.loop-name-item.is in
    (omega (arith, below, same), tt)

pub meets-returns-in-Null : goal.meets-returns-in-Null
meets-returns-in-Null t c =
    c.glob_caseless.ensures.exact ∙ ap (λ p. glob_caseless p (codes "None")) c.as_bytes.ensures.value
    ∙ sym (meets-Null c.args.text.now) ∙ ap (λ v. meets v (parts c.args.text.now)) (sym c.in-Null.is)

pub meets-returns-in-Flag : goal.meets-returns-in-Flag
meets-returns-in-Flag t c =
    c.glob_caseless-in-Flag.ensures.exact ∙ ap (λ p. glob_caseless p c.as_bytes-in-Flag-2.result.now) c.as_bytes-in-Flag.ensures.value
    ∙ ap (glob_caseless c.args.text.now) (c.as_bytes-in-Flag-2.ensures.value ∙ c.name_of.ensures)
    ∙ sym (meets-Flag c.in-Flag.flag c.args.text.now) ∙ ap (λ v. meets v (parts c.args.text.now)) (sym c.in-Flag.is)

pub meets-returns-in_ok-digits-in-Int : goal.meets-returns-in_ok-digits-in-Int
meets-returns-in_ok-digits-in-Int t c =
    c.glob_caseless-in-Int.ensures.exact ∙ ap (λ p. glob_caseless p c.as_bytes-in-Int-2.result.now) c.as_bytes-in-Int.ensures.value
    ∙ ap (glob_caseless c.args.text.now) (c.as_bytes-in-Int-2.ensures.value ∙ c.in_ok-digits-in-Int.ensures.ok)
    ∙ sym (meets-Int c.in-Int.number c.args.text.now) ∙ ap (λ v. meets v (parts c.args.text.now)) (sym c.in-Int.is)

pub meets-returns-in-Str : goal.meets-returns-in-Str
meets-returns-in-Str t c =
    c.glob_caseless-in-Str.ensures.exact ∙ ap (λ p. glob_caseless p c.as_bytes-in-Str-2.result.now) c.as_bytes-in-Str.ensures.value
    ∙ ap (glob_caseless c.args.text.now) c.as_bytes-in-Str-2.ensures
    ∙ sym (meets-Str c.in-Str.own c.args.text.now) ∙ ap (λ v. meets v (parts c.args.text.now)) (sym c.in-Str.is)

pub meets-returns-in-List : goal.meets-returns-in-List
meets-returns-in-List t c =
    carried c.any_meets.result _ _ c.any_meets.ensures (ap (λ l. list_any (λ v. meets v (parts c.args.text.now)) l) c.as_slice.ensures
    ∙ sym (meets-List c.in-List.items (parts c.args.text.now)) ∙ ap (λ v. meets v (parts c.args.text.now)) (sym c.in-List.is))

pub meets-returns-in-Map : goal.meets-returns-in-Map
meets-returns-in-Map t c =
    carried c.pairs_meet.result _ _ c.pairs_meet.ensures (ap (λ l. map_meets (told_pairs l) (parts c.args.text.now)) c.as_slice-in-Map.ensures.value
    ∙ sym (meets-Map c.in-Map.fields (parts c.args.text.now)) ∙ ap (λ v. meets v (parts c.args.text.now)) (sym c.in-Map.is))

pub pairs_meet-returns-in-Some : goal.pairs_meet-returns-in-Some
pairs_meet-returns-in-Some t c =
    carried c.child_meets.result _ _ c.child_meets.ensures (sym (more_parts (told_pairs c.args.pairs.now) c.in-Some.key.now c.in-Some.rest.now c.args.text.now c.in-Some.ensures.some))
