-- What a ready tree stands for, one equation for each kind, and whether that holds.
use Rattle.std.proofs.Common.{◌≡◌, ◌⊎◌, inl, inr, ℕ, Bool, true, false, not, ◌&&◌, ◌||◌, List, refl, sym, ap, ◌∙◌}
use Rattle.std.specs.Prelude.{None, Some, [], bytes_eq, if◌then◌else◌}
use Rattle.std.specs.List.{list_any}
use Rattle.salt_glob.specs.Globs.{glob}
use Rattle.target_tree.specs.declared.target.Target.{Target, fold-roll-Target}
use Rattle.target_tree.specs.declared.target.Target.TheVariants as T
use Rattle.target_tree.specs.declared.target.Target.TheOpen.{Target-F}
use Rattle.target_match.specs.declared.ready.Ready.{Ready, fold-roll-Ready}
use Rattle.target_match.specs.declared.ready.Ready.TheVariants as R
use Rattle.target_match.specs.declared.ready.Ready.TheOpen.{Ready-F}
use Rattle.target_match.specs.Patterns.{starts}
use Rattle.target_match.specs.Holds.{Data, holds_layer, holds, by_id_layer, is_by_id, glob_holds, pattern_holds, decision_by_id}
use Rattle.target_match.specs.ById.{both, either, negation}
use Rattle.target_match.specs.Ready.{target_layer, target_of}
use Rattle.target_match.proofs.ById as I

pub of-IdGlob : (text : List ℕ) → target_of (R.IdGlob text) ≡ T.IdGlob text
of-IdGlob text = ap target_of (sym (R.rolls-IdGlob text)) ∙ fold-roll-Ready Target target_layer (Ready-F.IdGlob text)

pub holds-IdGlob : (text : List ℕ) (id : List ℕ) (grains pillar : Data) → holds (target_of (R.IdGlob text)) id grains pillar ≡ glob text id
holds-IdGlob text id grains pillar =
    ap (λ t. holds t id grains pillar) (of-IdGlob text ∙ sym (T.rolls-IdGlob text)) ∙ fold-roll-Target Bool (holds_layer id grains pillar) (Target-F.IdGlob text)

pub decided-IdGlob : (text : List ℕ) (id : List ℕ) (grains pillar : Data) → decision_by_id (target_of (R.IdGlob text)) id grains pillar ≡ Some (glob text id)
decided-IdGlob text id grains pillar = ap (λ t. decision_by_id t id grains pillar) (of-IdGlob text) ∙ I.decided-IdGlob text id grains pillar

pub of-IdPcre : (text : List ℕ) → target_of (R.IdPcre text) ≡ T.IdPcre text
of-IdPcre text = ap target_of (sym (R.rolls-IdPcre text)) ∙ fold-roll-Ready Target target_layer (Ready-F.IdPcre text)

pub holds-IdPcre : (text : List ℕ) (id : List ℕ) (grains pillar : Data) → holds (target_of (R.IdPcre text)) id grains pillar ≡ starts text id
holds-IdPcre text id grains pillar =
    ap (λ t. holds t id grains pillar) (of-IdPcre text ∙ sym (T.rolls-IdPcre text)) ∙ fold-roll-Target Bool (holds_layer id grains pillar) (Target-F.IdPcre text)

pub decided-IdPcre : (text : List ℕ) (id : List ℕ) (grains pillar : Data) → decision_by_id (target_of (R.IdPcre text)) id grains pillar ≡ None
decided-IdPcre text id grains pillar = ap (λ t. decision_by_id t id grains pillar) (of-IdPcre text) ∙ I.decided-IdPcre text id grains pillar

pub of-IdList : (ids : List (List ℕ)) → target_of (R.IdList ids) ≡ T.IdList ids
of-IdList ids = ap target_of (sym (R.rolls-IdList ids)) ∙ fold-roll-Ready Target target_layer (Ready-F.IdList ids)

pub holds-IdList : (ids : List (List ℕ)) (id : List ℕ) (grains pillar : Data) → holds (target_of (R.IdList ids)) id grains pillar ≡ list_any (λ other. bytes_eq other id) ids
holds-IdList ids id grains pillar =
    ap (λ t. holds t id grains pillar) (of-IdList ids ∙ sym (T.rolls-IdList ids)) ∙ fold-roll-Target Bool (holds_layer id grains pillar) (Target-F.IdList ids)

pub decided-IdList : (ids : List (List ℕ)) (id : List ℕ) (grains pillar : Data) → decision_by_id (target_of (R.IdList ids)) id grains pillar ≡ Some (list_any (λ other. bytes_eq other id) ids)
decided-IdList ids id grains pillar = ap (λ t. decision_by_id t id grains pillar) (of-IdList ids) ∙ I.decided-IdList ids id grains pillar

pub of-GrainGlob : (text : List ℕ) → target_of (R.GrainGlob text) ≡ T.GrainGlob text
of-GrainGlob text = ap target_of (sym (R.rolls-GrainGlob text)) ∙ fold-roll-Ready Target target_layer (Ready-F.GrainGlob text)

pub holds-GrainGlob : (text : List ℕ) (id : List ℕ) (grains pillar : Data) → holds (target_of (R.GrainGlob text)) id grains pillar ≡ glob_holds text grains
holds-GrainGlob text id grains pillar =
    ap (λ t. holds t id grains pillar) (of-GrainGlob text ∙ sym (T.rolls-GrainGlob text)) ∙ fold-roll-Target Bool (holds_layer id grains pillar) (Target-F.GrainGlob text)

pub decided-GrainGlob : (text : List ℕ) (id : List ℕ) (grains pillar : Data) → decision_by_id (target_of (R.GrainGlob text)) id grains pillar ≡ None
decided-GrainGlob text id grains pillar = ap (λ t. decision_by_id t id grains pillar) (of-GrainGlob text) ∙ I.decided-GrainGlob text id grains pillar

pub of-GrainPcre : (text : List ℕ) → target_of (R.GrainPcre text) ≡ T.GrainPcre text
of-GrainPcre text = ap target_of (sym (R.rolls-GrainPcre text)) ∙ fold-roll-Ready Target target_layer (Ready-F.GrainPcre text)

pub holds-GrainPcre : (text : List ℕ) (id : List ℕ) (grains pillar : Data) → holds (target_of (R.GrainPcre text)) id grains pillar ≡ pattern_holds text grains
holds-GrainPcre text id grains pillar =
    ap (λ t. holds t id grains pillar) (of-GrainPcre text ∙ sym (T.rolls-GrainPcre text)) ∙ fold-roll-Target Bool (holds_layer id grains pillar) (Target-F.GrainPcre text)

pub decided-GrainPcre : (text : List ℕ) (id : List ℕ) (grains pillar : Data) → decision_by_id (target_of (R.GrainPcre text)) id grains pillar ≡ None
decided-GrainPcre text id grains pillar = ap (λ t. decision_by_id t id grains pillar) (of-GrainPcre text) ∙ I.decided-GrainPcre text id grains pillar

pub of-PillarGlob : (text : List ℕ) → target_of (R.PillarGlob text) ≡ T.PillarGlob text
of-PillarGlob text = ap target_of (sym (R.rolls-PillarGlob text)) ∙ fold-roll-Ready Target target_layer (Ready-F.PillarGlob text)

pub holds-PillarGlob : (text : List ℕ) (id : List ℕ) (grains pillar : Data) → holds (target_of (R.PillarGlob text)) id grains pillar ≡ glob_holds text pillar
holds-PillarGlob text id grains pillar =
    ap (λ t. holds t id grains pillar) (of-PillarGlob text ∙ sym (T.rolls-PillarGlob text)) ∙ fold-roll-Target Bool (holds_layer id grains pillar) (Target-F.PillarGlob text)

pub decided-PillarGlob : (text : List ℕ) (id : List ℕ) (grains pillar : Data) → decision_by_id (target_of (R.PillarGlob text)) id grains pillar ≡ None
decided-PillarGlob text id grains pillar = ap (λ t. decision_by_id t id grains pillar) (of-PillarGlob text) ∙ I.decided-PillarGlob text id grains pillar

pub of-PillarPcre : (text : List ℕ) → target_of (R.PillarPcre text) ≡ T.PillarPcre text
of-PillarPcre text = ap target_of (sym (R.rolls-PillarPcre text)) ∙ fold-roll-Ready Target target_layer (Ready-F.PillarPcre text)

pub holds-PillarPcre : (text : List ℕ) (id : List ℕ) (grains pillar : Data) → holds (target_of (R.PillarPcre text)) id grains pillar ≡ pattern_holds text pillar
holds-PillarPcre text id grains pillar =
    ap (λ t. holds t id grains pillar) (of-PillarPcre text ∙ sym (T.rolls-PillarPcre text)) ∙ fold-roll-Target Bool (holds_layer id grains pillar) (Target-F.PillarPcre text)

pub decided-PillarPcre : (text : List ℕ) (id : List ℕ) (grains pillar : Data) → decision_by_id (target_of (R.PillarPcre text)) id grains pillar ≡ None
decided-PillarPcre text id grains pillar = ap (λ t. decision_by_id t id grains pillar) (of-PillarPcre text) ∙ I.decided-PillarPcre text id grains pillar

pub of-Not : (one : Ready) → target_of (R.Not one) ≡ T.Not (target_of one)
of-Not one = ap target_of (sym (R.rolls-Not one)) ∙ fold-roll-Ready Target target_layer (Ready-F.Not one)

pub holds-Not : (one : Ready) (id : List ℕ) (grains pillar : Data) → holds (target_of (R.Not one)) id grains pillar ≡ (not (holds (target_of one) id grains pillar))
holds-Not one id grains pillar =
    ap (λ t. holds t id grains pillar) (of-Not one ∙ sym (T.rolls-Not (target_of one))) ∙ fold-roll-Target Bool (holds_layer id grains pillar) (Target-F.Not (target_of one))

pub decided-Not : (one : Ready) (id : List ℕ) (grains pillar : Data) → decision_by_id (target_of (R.Not one)) id grains pillar ≡ negation (decision_by_id (target_of one) id grains pillar)
decided-Not one id grains pillar = ap (λ t. decision_by_id t id grains pillar) (of-Not one) ∙ I.decided-Not (target_of one) id grains pillar

pub of-And : (left right : Ready) → target_of (R.And left right) ≡ T.And (target_of left) (target_of right)
of-And left right = ap target_of (sym (R.rolls-And left right)) ∙ fold-roll-Ready Target target_layer (Ready-F.And left right)

pub holds-And : (left right : Ready) (id : List ℕ) (grains pillar : Data) → holds (target_of (R.And left right)) id grains pillar ≡ (holds (target_of left) id grains pillar && holds (target_of right) id grains pillar)
holds-And left right id grains pillar =
    ap (λ t. holds t id grains pillar) (of-And left right ∙ sym (T.rolls-And (target_of left) (target_of right))) ∙ fold-roll-Target Bool (holds_layer id grains pillar) (Target-F.And (target_of left) (target_of right))

pub decided-And : (left right : Ready) (id : List ℕ) (grains pillar : Data) → decision_by_id (target_of (R.And left right)) id grains pillar ≡ both (decision_by_id (target_of left) id grains pillar) (decision_by_id (target_of right) id grains pillar)
decided-And left right id grains pillar = ap (λ t. decision_by_id t id grains pillar) (of-And left right) ∙ I.decided-And (target_of left) (target_of right) id grains pillar

pub of-Or : (left right : Ready) → target_of (R.Or left right) ≡ T.Or (target_of left) (target_of right)
of-Or left right = ap target_of (sym (R.rolls-Or left right)) ∙ fold-roll-Ready Target target_layer (Ready-F.Or left right)

pub holds-Or : (left right : Ready) (id : List ℕ) (grains pillar : Data) → holds (target_of (R.Or left right)) id grains pillar ≡ (holds (target_of left) id grains pillar || holds (target_of right) id grains pillar)
holds-Or left right id grains pillar =
    ap (λ t. holds t id grains pillar) (of-Or left right ∙ sym (T.rolls-Or (target_of left) (target_of right))) ∙ fold-roll-Target Bool (holds_layer id grains pillar) (Target-F.Or (target_of left) (target_of right))

pub decided-Or : (left right : Ready) (id : List ℕ) (grains pillar : Data) → decision_by_id (target_of (R.Or left right)) id grains pillar ≡ either (decision_by_id (target_of left) id grains pillar) (decision_by_id (target_of right) id grains pillar)
decided-Or left right id grains pillar = ap (λ t. decision_by_id t id grains pillar) (of-Or left right) ∙ I.decided-Or (target_of left) (target_of right) id grains pillar

-- one of the leaves for which more than the id is needed
abbrev NeedsMore : Ready → Type 0
NeedsMore tree = (((x : List ℕ) × (tree ≡ R.IdPcre x)) ⊎ (((x : List ℕ) × (tree ≡ R.GrainGlob x)) ⊎ (((x : List ℕ) × (tree ≡ R.GrainPcre x)) ⊎ (((x : List ℕ) × (tree ≡ R.PillarGlob x)) ⊎ ((x : List ℕ) × (tree ≡ R.PillarPcre x))))))

pub undecided : (tree : Ready) (id : List ℕ) → NeedsMore tree → (grains pillar : Data) → None ≡ decision_by_id (target_of tree) id grains pillar
undecided tree id e = λ grains pillar. sym (elim e [ inl el ↦ ap (λ t. decision_by_id (target_of t) id grains pillar) el.1 ∙ decided-IdPcre el.0 id grains pillar | inr er ↦ elim er [ inl erl ↦ ap (λ t. decision_by_id (target_of t) id grains pillar) erl.1 ∙ decided-GrainGlob erl.0 id grains pillar | inr err ↦ elim err [ inl errl ↦ ap (λ t. decision_by_id (target_of t) id grains pillar) errl.1 ∙ decided-GrainPcre errl.0 id grains pillar | inr errr ↦ elim errr [ inl errrl ↦ ap (λ t. decision_by_id (target_of t) id grains pillar) errrl.1 ∙ decided-PillarGlob errrl.0 id grains pillar | inr errrr ↦ ap (λ t. decision_by_id (target_of t) id grains pillar) errrr.1 ∙ decided-PillarPcre errrr.0 id grains pillar ] ] ] ])

-- a left operand that decides, and one after which the right one does
pub and_fails : (b x y : Bool) → b ≡ x → b ≡ false → false ≡ (x && y)
and_fails true x y e h = absurd cc
and_fails false x y e h = ap (λ z. z && y) e

pub and_rest : (b x y : Bool) → b ≡ x → b ≡ true → y ≡ (x && y)
and_rest true x y e h = ap (λ z. z && y) e
and_rest false x y e h = absurd cc

pub or_holds : (b x y : Bool) → b ≡ x → b ≡ true → true ≡ (x || y)
or_holds true x y e h = ap (λ z. z || y) e
or_holds false x y e h = absurd cc

pub or_rest : (b x y : Bool) → b ≡ x → b ≡ false → y ≡ (x || y)
or_rest true x y e h = absurd cc
or_rest false x y e h = ap (λ z. z || y) e

-- where the id alone decides a tree, none of those leaves is there, and the id alone decides each part
none_given : (b x : Bool) → None ≡ (if b then Some x else None) → b ≡ true → ⊥
none_given true x e h = cc
none_given false x e h = cc

pub more_needed : (tree : Ready) → NeedsMore tree → is_by_id (target_of tree) ≡ true → ⊥
more_needed tree e h = none_given (is_by_id (target_of tree)) (holds (target_of tree) [] [] []) (undecided tree [] e [] []) h

pub not_part : (tree one : Ready) → tree ≡ R.Not one → is_by_id (target_of tree) ≡ true → is_by_id (target_of one) ≡ true
not_part tree one e h =
    sym (ap is_by_id (of-Not one ∙ sym (T.rolls-Not (target_of one))) ∙ fold-roll-Target Bool by_id_layer (Target-F.Not (target_of one)))
    ∙ ap (λ t. is_by_id (target_of t)) (sym e) ∙ h

pub both_true : (a b : Bool) → (a && b) ≡ true → (a ≡ true) × (b ≡ true)
both_true true b h = (refl, h)
both_true false b h = absurd cc

pub and_parts : (tree left right : Ready) → tree ≡ R.And left right → is_by_id (target_of tree) ≡ true → (is_by_id (target_of left) ≡ true) × (is_by_id (target_of right) ≡ true)
and_parts tree left right e h =
    both_true (is_by_id (target_of left)) (is_by_id (target_of right))
    (sym (ap is_by_id (of-And left right ∙ sym (T.rolls-And (target_of left) (target_of right))) ∙ fold-roll-Target Bool by_id_layer (Target-F.And (target_of left) (target_of right)))
    ∙ ap (λ t. is_by_id (target_of t)) (sym e) ∙ h)

pub or_parts : (tree left right : Ready) → tree ≡ R.Or left right → is_by_id (target_of tree) ≡ true → (is_by_id (target_of left) ≡ true) × (is_by_id (target_of right) ≡ true)
or_parts tree left right e h =
    both_true (is_by_id (target_of left)) (is_by_id (target_of right))
    (sym (ap is_by_id (of-Or left right ∙ sym (T.rolls-Or (target_of left) (target_of right))) ∙ fold-roll-Target Bool by_id_layer (Target-F.Or (target_of left) (target_of right)))
    ∙ ap (λ t. is_by_id (target_of t)) (sym e) ∙ h)
