use Rattle.std.proofs.Common.{◌≡◌, inl, inr, true, false, sym, ap, subst, ◌∙◌, not}
use Rattle.std.specs.Prelude.{bytes_eq}
use Rattle.std.specs.List.{list_any}
use Rattle.salt_glob.specs.Globs.{glob}
use Rattle.target_match.specs.Patterns.{starts}
use Rattle.target_match.specs.Paths.{parts}
use Rattle.target_match.specs.Data.{map_meets, told_pairs}
use Rattle.target_match.specs.Holds.{holds, is_by_id}
use Rattle.target_match.specs.Ready.{target_of, ready_patterns}
use Rattle.target_match.specs.Searches.{Keeps, AddsOfReady}
use Rattle.target_match.proofs.Meeting.{carried, glob-holds}
use Rattle.target_match.proofs.Readied as R
use Rattle.target_match.proofs.Keeping as K
use Rattle.target_match.proofs.Asking as A
use Rattle.target_match.proofs.holding.+holds.Goals as goal

pub returns-in-IdGlob-clause-ok : goal.returns-in-IdGlob-clause-ok
returns-in-IdGlob-clause-ok t c =
    let a = c.args in
    c.glob.ensures.exact ∙ ap (λ x. glob x c.as_bytes-in-IdGlob.result.now) c.as_bytes.ensures ∙ ap (glob c.in-IdGlob.text) c.as_bytes-in-IdGlob.ensures.value
    ∙ sym (R.holds-IdGlob c.in-IdGlob.text a.id.now a.grains.now a.pillar.now) ∙ ap (λ x. holds (target_of x) a.id.now a.grains.now a.pillar.now) (sym c.in-IdGlob.is)

pub returns-in-IdPcre-clause-ok : goal.returns-in-IdPcre-clause-ok
returns-in-IdPcre-clause-ok t c =
    let a = c.args in
    carried c.holds.result _ _ c.holds.ensures.ok (ap (starts c.in-IdPcre.pattern) c.as_str.ensures.value
    ∙ sym (R.holds-IdPcre c.in-IdPcre.pattern a.id.now a.grains.now a.pillar.now) ∙ ap (λ x. holds (target_of x) a.id.now a.grains.now a.pillar.now) (sym c.in-IdPcre.is))

pub returns-in-IdList-clause-ok : goal.returns-in-IdList-clause-ok
returns-in-IdList-clause-ok t c =
    let a = c.args in
    c.contains.ensures ∙ ap (λ l. list_any (λ other. bytes_eq other c.as_bytes-in-IdList.result.now) l) c.as_slice.ensures
    ∙ ap (λ id. list_any (λ other. bytes_eq other id) c.in-IdList.ids) c.as_bytes-in-IdList.ensures.value
    ∙ sym (R.holds-IdList c.in-IdList.ids a.id.now a.grains.now a.pillar.now) ∙ ap (λ x. holds (target_of x) a.id.now a.grains.now a.pillar.now) (sym c.in-IdList.is)

pub returns-in-GrainGlob-clause-ok : goal.returns-in-GrainGlob-clause-ok
returns-in-GrainGlob-clause-ok t c =
    let a = c.args in
    carried c.pairs_meet.result _ _ c.pairs_meet.ensures (ap (λ x. map_meets (told_pairs a.grains.now) (parts x)) c.as_str-in-GrainGlob.ensures.value
    ∙ sym (glob-holds c.in-GrainGlob.text a.grains.now)
    ∙ sym (R.holds-GrainGlob c.in-GrainGlob.text a.id.now a.grains.now a.pillar.now) ∙ ap (λ x. holds (target_of x) a.id.now a.grains.now a.pillar.now) (sym c.in-GrainGlob.is))

pub returns-in-GrainPcre-clause-ok : goal.returns-in-GrainPcre-clause-ok
returns-in-GrainPcre-clause-ok t c =
    let a = c.args in
    carried c.holds-in-GrainPcre.result _ _ c.holds-in-GrainPcre.ensures.ok
    (sym (R.holds-GrainPcre c.in-GrainPcre.pattern a.id.now a.grains.now a.pillar.now) ∙ ap (λ x. holds (target_of x) a.id.now a.grains.now a.pillar.now) (sym c.in-GrainPcre.is))

pub returns-in-PillarGlob-clause-ok : goal.returns-in-PillarGlob-clause-ok
returns-in-PillarGlob-clause-ok t c =
    let a = c.args in
    carried c.pairs_meet-in-PillarGlob.result _ _ c.pairs_meet-in-PillarGlob.ensures (ap (λ x. map_meets (told_pairs a.pillar.now) (parts x)) c.as_str-in-PillarGlob.ensures.value
    ∙ sym (glob-holds c.in-PillarGlob.text a.pillar.now)
    ∙ sym (R.holds-PillarGlob c.in-PillarGlob.text a.id.now a.grains.now a.pillar.now) ∙ ap (λ x. holds (target_of x) a.id.now a.grains.now a.pillar.now) (sym c.in-PillarGlob.is))

pub returns-in-PillarPcre-clause-ok : goal.returns-in-PillarPcre-clause-ok
returns-in-PillarPcre-clause-ok t c =
    let a = c.args in
    carried c.holds-in-PillarPcre.result _ _ c.holds-in-PillarPcre.ensures.ok
    (sym (R.holds-PillarPcre c.in-PillarPcre.pattern a.id.now a.grains.now a.pillar.now) ∙ ap (λ x. holds (target_of x) a.id.now a.grains.now a.pillar.now) (sym c.in-PillarPcre.is))

pub returns-in_ok-holds-in-Not-clause-ok : goal.returns-in_ok-holds-in-Not-clause-ok
returns-in_ok-holds-in-Not-clause-ok t c =
    let a = c.args in
    ap not (c.in_ok-holds-in-Not.ensures.ok ∙ ap (λ x. holds (target_of x) a.id.now a.grains.now a.pillar.now) c.get.ensures)
    ∙ sym (R.holds-Not c.in-Not.one a.id.now a.grains.now a.pillar.now) ∙ ap (λ x. holds (target_of x) a.id.now a.grains.now a.pillar.now) (sym c.in-Not.is)

pub returns-then-not-branch-clause-ok : goal.returns-then-not-branch-clause-ok
returns-then-not-branch-clause-ok t c =
    let a = c.args in
    let left = c.in_ok-holds-in-And.ensures.ok ∙ ap (λ x. holds (target_of x) a.id.now a.grains.now a.pillar.now) c.get-in-And.ensures in
    R.and_fails _ _ _ left c.if-not-branch.true
    ∙ sym (R.holds-And c.in-And.left c.in-And.right a.id.now a.grains.now a.pillar.now) ∙ ap (λ x. holds (target_of x) a.id.now a.grains.now a.pillar.now) (sym c.in-And.is)

pub returns-else-not-branch-clause-ok : goal.returns-else-not-branch-clause-ok
returns-else-not-branch-clause-ok t c =
    let a = c.args in
    let left = c.in_ok-holds-in-And.ensures.ok ∙ ap (λ x. holds (target_of x) a.id.now a.grains.now a.pillar.now) c.get-in-And.ensures in
    carried c.holds-in-And-2.result _ _ c.holds-in-And-2.ensures.ok (ap (λ x. holds (target_of x) a.id.now a.grains.now a.pillar.now) c.get-in-And-2.ensures
    ∙ R.and_rest _ _ _ left c.if-not-branch.false
    ∙ sym (R.holds-And c.in-And.left c.in-And.right a.id.now a.grains.now a.pillar.now) ∙ ap (λ x. holds (target_of x) a.id.now a.grains.now a.pillar.now) (sym c.in-And.is))

pub returns-then-branch-clause-ok : goal.returns-then-branch-clause-ok
returns-then-branch-clause-ok t c =
    let a = c.args in
    let left = c.in_ok-holds-in-Or.ensures.ok ∙ ap (λ x. holds (target_of x) a.id.now a.grains.now a.pillar.now) c.get-in-Or.ensures in
    R.or_holds _ _ _ left c.if-branch.true
    ∙ sym (R.holds-Or c.in-Or.left c.in-Or.right a.id.now a.grains.now a.pillar.now) ∙ ap (λ x. holds (target_of x) a.id.now a.grains.now a.pillar.now) (sym c.in-Or.is)

pub returns-else-branch-clause-ok : goal.returns-else-branch-clause-ok
returns-else-branch-clause-ok t c =
    let a = c.args in
    let left = c.in_ok-holds-in-Or.ensures.ok ∙ ap (λ x. holds (target_of x) a.id.now a.grains.now a.pillar.now) c.get-in-Or.ensures in
    carried c.holds-in-Or-2.result _ _ c.holds-in-Or-2.ensures.ok (ap (λ x. holds (target_of x) a.id.now a.grains.now a.pillar.now) c.get-in-Or-2.ensures
    ∙ R.or_rest _ _ _ left c.if-branch.false
    ∙ sym (R.holds-Or c.in-Or.left c.in-Or.right a.id.now a.grains.now a.pillar.now) ∙ ap (λ x. holds (target_of x) a.id.now a.grains.now a.pillar.now) (sym c.in-Or.is))

pub returns-in-IdPcre-clause-searches : goal.returns-in-IdPcre-clause-searches
returns-in-IdPcre-clause-searches t c =
    subst (λ b. Keeps (ready_patterns c.args.ready.now) b c.holds.new.searches.items) c.kept.view_is
    (K.id_leaf c.args.ready.now c.in-IdPcre.pattern _ _ c.in-IdPcre.is c.holds.ensures.searches)

pub returns-in-GrainPcre-clause-searches : goal.returns-in-GrainPcre-clause-searches
returns-in-GrainPcre-clause-searches t c =
    subst (λ b. Keeps (ready_patterns c.args.ready.now) b c.holds-in-GrainPcre.new.searches.items) c.kept-in-GrainPcre.view_is
    (K.grain_leaf c.args.ready.now c.in-GrainPcre.pattern _ _ c.in-GrainPcre.is c.holds-in-GrainPcre.ensures.searches)

pub returns-in-PillarPcre-clause-searches : goal.returns-in-PillarPcre-clause-searches
returns-in-PillarPcre-clause-searches t c =
    subst (λ b. Keeps (ready_patterns c.args.ready.now) b c.holds-in-PillarPcre.new.searches.items) c.kept-in-PillarPcre.view_is
    (K.pillar_leaf c.args.ready.now c.in-PillarPcre.pattern _ _ c.in-PillarPcre.is c.holds-in-PillarPcre.ensures.searches)

pub returns-in_ok-holds-in-Not-clause-searches : goal.returns-in_ok-holds-in-Not-clause-searches
returns-in_ok-holds-in-Not-clause-searches t c = K.not_tree c.args.ready.now c.in-Not.one c.get.result.now _ _ c.in-Not.is c.get.ensures c.holds-in-Not.ensures.searches

pub returns-in_err-holds-in-Not-clause-searches : goal.returns-in_err-holds-in-Not-clause-searches
returns-in_err-holds-in-Not-clause-searches t c = K.not_tree c.args.ready.now c.in-Not.one c.get.result.now _ _ c.in-Not.is c.get.ensures c.holds-in-Not.ensures.searches

pub returns-in_err-holds-in-And-clause-searches : goal.returns-in_err-holds-in-And-clause-searches
returns-in_err-holds-in-And-clause-searches t c = K.left_alone c.args.ready.now c.in-And.left c.in-And.right c.get-in-And.result.now _ _ (inl c.in-And.is) c.get-in-And.ensures c.holds-in-And.ensures.searches

pub returns-then-not-branch-clause-searches : goal.returns-then-not-branch-clause-searches
returns-then-not-branch-clause-searches t c = K.left_alone c.args.ready.now c.in-And.left c.in-And.right c.get-in-And.result.now _ _ (inl c.in-And.is) c.get-in-And.ensures c.holds-in-And.ensures.searches

pub returns-else-not-branch-clause-searches : goal.returns-else-not-branch-clause-searches
returns-else-not-branch-clause-searches t c =
    K.left_and_right c.args.ready.now c.in-And.left c.in-And.right c.get-in-And.result.now c.get-in-And-2.result.now _ _ _ (inl c.in-And.is)
    c.get-in-And.ensures c.get-in-And-2.ensures c.holds-in-And.ensures.searches c.holds-in-And-2.ensures.searches

pub returns-in_err-holds-in-Or-clause-searches : goal.returns-in_err-holds-in-Or-clause-searches
returns-in_err-holds-in-Or-clause-searches t c = K.left_alone c.args.ready.now c.in-Or.left c.in-Or.right c.get-in-Or.result.now _ _ (inr c.in-Or.is) c.get-in-Or.ensures c.holds-in-Or.ensures.searches

pub returns-then-branch-clause-searches : goal.returns-then-branch-clause-searches
returns-then-branch-clause-searches t c = K.left_alone c.args.ready.now c.in-Or.left c.in-Or.right c.get-in-Or.result.now _ _ (inr c.in-Or.is) c.get-in-Or.ensures c.holds-in-Or.ensures.searches

pub returns-else-branch-clause-searches : goal.returns-else-branch-clause-searches
returns-else-branch-clause-searches t c =
    K.left_and_right c.args.ready.now c.in-Or.left c.in-Or.right c.get-in-Or.result.now c.get-in-Or-2.result.now _ _ _ (inr c.in-Or.is)
    c.get-in-Or.ensures c.get-in-Or-2.ensures c.holds-in-Or.ensures.searches c.holds-in-Or-2.ensures.searches

pub returns-in-IdPcre-clause-memory : goal.returns-in-IdPcre-clause-memory
returns-in-IdPcre-clause-memory t c = λ h. absurd (R.more_needed c.args.ready.now (inl (c.in-IdPcre.pattern, c.in-IdPcre.is)) h)

pub returns-in-GrainGlob-clause-memory : goal.returns-in-GrainGlob-clause-memory
returns-in-GrainGlob-clause-memory t c = λ h. absurd (R.more_needed c.args.ready.now (inr (inl (c.in-GrainGlob.text, c.in-GrainGlob.is))) h)

pub returns-in-GrainPcre-clause-memory : goal.returns-in-GrainPcre-clause-memory
returns-in-GrainPcre-clause-memory t c = λ h. absurd (R.more_needed c.args.ready.now (inr (inr (inl (c.in-GrainPcre.pattern, c.in-GrainPcre.is)))) h)

pub returns-in-PillarGlob-clause-memory : goal.returns-in-PillarGlob-clause-memory
returns-in-PillarGlob-clause-memory t c = λ h. absurd (R.more_needed c.args.ready.now (inr (inr (inr (inl (c.in-PillarGlob.text, c.in-PillarGlob.is))))) h)

pub returns-in-PillarPcre-clause-memory : goal.returns-in-PillarPcre-clause-memory
returns-in-PillarPcre-clause-memory t c = λ h. absurd (R.more_needed c.args.ready.now (inr (inr (inr (inr (c.in-PillarPcre.pattern, c.in-PillarPcre.is))))) h)

pub returns-in_err-holds-in-Not-clause-memory : goal.returns-in_err-holds-in-Not-clause-memory
returns-in_err-holds-in-Not-clause-memory t c = λ h.
    let one = ap (λ x. is_by_id (target_of x)) c.get.ensures ∙ R.not_part c.args.ready.now c.in-Not.one c.in-Not.is h in
    let ok : false ≡ true = c.in_err-holds-in-Not.ensures.memory one in
    absurd cc

pub returns-in_err-holds-in-And-clause-memory : goal.returns-in_err-holds-in-And-clause-memory
returns-in_err-holds-in-And-clause-memory t c = λ h.
    let both = R.and_parts c.args.ready.now c.in-And.left c.in-And.right c.in-And.is h in
    let ok : false ≡ true = c.in_err-holds-in-And.ensures.memory (ap (λ x. is_by_id (target_of x)) c.get-in-And.ensures ∙ both.0) in
    absurd cc

pub returns-else-not-branch-clause-memory : goal.returns-else-not-branch-clause-memory
returns-else-not-branch-clause-memory t c = λ h.
    let both = R.and_parts c.args.ready.now c.in-And.left c.in-And.right c.in-And.is h in
    c.holds-in-And-2.ensures.memory (ap (λ x. is_by_id (target_of x)) c.get-in-And-2.ensures ∙ both.1)

pub returns-in_err-holds-in-Or-clause-memory : goal.returns-in_err-holds-in-Or-clause-memory
returns-in_err-holds-in-Or-clause-memory t c = λ h.
    let both = R.or_parts c.args.ready.now c.in-Or.left c.in-Or.right c.in-Or.is h in
    let ok : false ≡ true = c.in_err-holds-in-Or.ensures.memory (ap (λ x. is_by_id (target_of x)) c.get-in-Or.ensures ∙ both.0) in
    absurd cc

pub returns-else-branch-clause-memory : goal.returns-else-branch-clause-memory
returns-else-branch-clause-memory t c = λ h.
    let both = R.or_parts c.args.ready.now c.in-Or.left c.in-Or.right c.in-Or.is h in
    c.holds-in-Or-2.ensures.memory (ap (λ x. is_by_id (target_of x)) c.get-in-Or-2.ensures ∙ both.1)

pub returns-in-IdGlob-clause-asked : goal.returns-in-IdGlob-clause-asked
returns-in-IdGlob-clause-asked t c = A.id_glob c.args.id.now c.args.grains.now c.args.pillar.now c.args.ready.now c.in-IdGlob.text _ c.in-IdGlob.is

pub returns-in-IdPcre-clause-asked : goal.returns-in-IdPcre-clause-asked
returns-in-IdPcre-clause-asked t c =
    subst (λ b. AddsOfReady c.holds.result c.args.id.now c.args.grains.now c.args.pillar.now c.args.ready.now b c.holds.new.searches.items) c.kept.view_is
    (A.on_ok c.holds.result (A.id_pattern c.args.id.now c.args.grains.now c.args.pillar.now c.args.ready.now c.in-IdPcre.pattern _ _ c.in-IdPcre.is c.holds.ensures.searches) c.holds.ensures.asked)

pub returns-in-IdList-clause-asked : goal.returns-in-IdList-clause-asked
returns-in-IdList-clause-asked t c = A.id_list c.args.id.now c.args.grains.now c.args.pillar.now c.args.ready.now c.in-IdList.ids _ c.in-IdList.is

pub returns-in-GrainGlob-clause-asked : goal.returns-in-GrainGlob-clause-asked
returns-in-GrainGlob-clause-asked t c = A.on_any c.pairs_meet.result (A.grain_glob c.args.id.now c.args.grains.now c.args.pillar.now c.args.ready.now c.in-GrainGlob.text _ c.in-GrainGlob.is)

pub returns-in-GrainPcre-clause-asked : goal.returns-in-GrainPcre-clause-asked
returns-in-GrainPcre-clause-asked t c =
    subst (λ b. AddsOfReady c.holds-in-GrainPcre.result c.args.id.now c.args.grains.now c.args.pillar.now c.args.ready.now b c.holds-in-GrainPcre.new.searches.items) c.kept-in-GrainPcre.view_is
    (A.on_ok c.holds-in-GrainPcre.result (A.grain_pattern c.args.id.now c.args.grains.now c.args.pillar.now c.args.ready.now c.in-GrainPcre.pattern _ _ c.in-GrainPcre.is c.holds-in-GrainPcre.ensures.searches) c.holds-in-GrainPcre.ensures.asked)

pub returns-in-PillarGlob-clause-asked : goal.returns-in-PillarGlob-clause-asked
returns-in-PillarGlob-clause-asked t c = A.on_any c.pairs_meet-in-PillarGlob.result (A.pillar_glob c.args.id.now c.args.grains.now c.args.pillar.now c.args.ready.now c.in-PillarGlob.text _ c.in-PillarGlob.is)

pub returns-in-PillarPcre-clause-asked : goal.returns-in-PillarPcre-clause-asked
returns-in-PillarPcre-clause-asked t c =
    subst (λ b. AddsOfReady c.holds-in-PillarPcre.result c.args.id.now c.args.grains.now c.args.pillar.now c.args.ready.now b c.holds-in-PillarPcre.new.searches.items) c.kept-in-PillarPcre.view_is
    (A.on_ok c.holds-in-PillarPcre.result (A.pillar_pattern c.args.id.now c.args.grains.now c.args.pillar.now c.args.ready.now c.in-PillarPcre.pattern _ _ c.in-PillarPcre.is c.holds-in-PillarPcre.ensures.searches) c.holds-in-PillarPcre.ensures.asked)

pub returns-in_ok-holds-in-Not-clause-asked : goal.returns-in_ok-holds-in-Not-clause-asked
returns-in_ok-holds-in-Not-clause-asked t c = A.not_tree c.args.id.now c.args.grains.now c.args.pillar.now c.args.ready.now c.in-Not.one c.get.result.now _ _ c.in-Not.is c.get.ensures c.in_ok-holds-in-Not.ensures.asked

pub returns-then-not-branch-clause-asked : goal.returns-then-not-branch-clause-asked
returns-then-not-branch-clause-asked t c =
    A.and_left c.args.id.now c.args.grains.now c.args.pillar.now c.args.ready.now c.in-And.left c.in-And.right c.get-in-And.result.now _ _ _ c.in-And.is c.get-in-And.ensures c.in_ok-holds-in-And.ensures.ok c.if-not-branch.true c.in_ok-holds-in-And.ensures.asked

pub returns-else-not-branch-clause-asked : goal.returns-else-not-branch-clause-asked
returns-else-not-branch-clause-asked t c =
    A.on_ok c.holds-in-And-2.result
    (A.and_both c.args.id.now c.args.grains.now c.args.pillar.now c.args.ready.now c.in-And.left c.in-And.right c.get-in-And.result.now c.get-in-And-2.result.now _ _ _ _ c.in-And.is c.get-in-And.ensures c.get-in-And-2.ensures
    c.in_ok-holds-in-And.ensures.ok c.if-not-branch.false c.in_ok-holds-in-And.ensures.asked)
    c.holds-in-And-2.ensures.asked

pub returns-then-branch-clause-asked : goal.returns-then-branch-clause-asked
returns-then-branch-clause-asked t c =
    A.or_left c.args.id.now c.args.grains.now c.args.pillar.now c.args.ready.now c.in-Or.left c.in-Or.right c.get-in-Or.result.now _ _ _ c.in-Or.is c.get-in-Or.ensures c.in_ok-holds-in-Or.ensures.ok c.if-branch.true c.in_ok-holds-in-Or.ensures.asked

pub returns-else-branch-clause-asked : goal.returns-else-branch-clause-asked
returns-else-branch-clause-asked t c =
    A.on_ok c.holds-in-Or-2.result
    (A.or_both c.args.id.now c.args.grains.now c.args.pillar.now c.args.ready.now c.in-Or.left c.in-Or.right c.get-in-Or.result.now c.get-in-Or-2.result.now _ _ _ _ c.in-Or.is c.get-in-Or.ensures c.get-in-Or-2.ensures
    c.in_ok-holds-in-Or.ensures.ok c.if-branch.false c.in_ok-holds-in-Or.ensures.asked)
    c.holds-in-Or-2.ensures.asked
