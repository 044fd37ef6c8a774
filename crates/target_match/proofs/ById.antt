-- What the id alone decides, by cases on the tree.
use Rattle.std.proofs.Common.{◌≡◌, ℕ, Bool, true, false, not, ◌&&◌, ◌||◌, List, refl, sym, ap, ◌∙◌}
use Rattle.std.specs.Prelude.{None, Some, bytes_eq, if◌then◌else◌}
use Rattle.std.specs.List.{list_any}
use Rattle.salt_glob.specs.Globs.{glob}
use Rattle.target_tree.specs.declared.target.Target.{Target, IdGlob, IdPcre, IdList, GrainGlob, GrainPcre, PillarGlob, PillarPcre, Not, And, Or, fold-roll-Target}
use Rattle.target_tree.specs.declared.target.Target.TheVariants.{rolls-IdGlob, rolls-IdPcre, rolls-IdList, rolls-GrainGlob, rolls-GrainPcre, rolls-PillarGlob, rolls-PillarPcre, rolls-Not, rolls-And, rolls-Or}
use Rattle.target_tree.specs.declared.target.Target.TheOpen.{Target-F}
use Rattle.target_match.specs.ById.{both, either, negation}
use Rattle.target_match.specs.Holds.{Data, by_id_layer, is_by_id, holds_layer, holds, decision_by_id}

of : (tree : Target) (id : List ℕ) (grains pillar : Data) (a b : Bool) → is_by_id tree ≡ a → holds tree id grains pillar ≡ b → decision_by_id tree id grains pillar ≡ (if a then Some b else None)
of tree id grains pillar a b e f =
    ap (λ c. if c then Some (holds tree id grains pillar) else None) e ∙ ap (λ c. if a then Some c else None) f

pub decided-IdGlob : (text id : List ℕ) (grains pillar : Data) → decision_by_id (IdGlob text) id grains pillar ≡ Some (glob text id)
decided-IdGlob text id grains pillar =
    of (IdGlob text) id grains pillar true (glob text id) (ap is_by_id (sym (rolls-IdGlob text)) ∙ fold-roll-Target Bool by_id_layer (Target-F.IdGlob text))
    (ap (λ t. holds t id grains pillar) (sym (rolls-IdGlob text)) ∙ fold-roll-Target Bool (holds_layer id grains pillar) (Target-F.IdGlob text))

pub decided-IdList : (ids : List (List ℕ)) (id : List ℕ) (grains pillar : Data) → decision_by_id (IdList ids) id grains pillar ≡ Some (list_any (λ other. bytes_eq other id) ids)
decided-IdList ids id grains pillar =
    of (IdList ids) id grains pillar true (list_any (λ other. bytes_eq other id) ids) (ap is_by_id (sym (rolls-IdList ids)) ∙ fold-roll-Target Bool by_id_layer (Target-F.IdList ids))
    (ap (λ t. holds t id grains pillar) (sym (rolls-IdList ids)) ∙ fold-roll-Target Bool (holds_layer id grains pillar) (Target-F.IdList ids))

not_of : (a b : Bool) → (if a then Some (not b) else None) ≡ negation (if a then Some b else None)
not_of true b = refl
not_of false b = refl

pub decided-Not : (tree : Target) (id : List ℕ) (grains pillar : Data) → decision_by_id (Not tree) id grains pillar ≡ negation (decision_by_id tree id grains pillar)
decided-Not tree id grains pillar =
    of (Not tree) id grains pillar (is_by_id tree) (not (holds tree id grains pillar)) (ap is_by_id (sym (rolls-Not tree)) ∙ fold-roll-Target Bool by_id_layer (Target-F.Not tree))
    (ap (λ t. holds t id grains pillar) (sym (rolls-Not tree)) ∙ fold-roll-Target Bool (holds_layer id grains pillar) (Target-F.Not tree))
    ∙ not_of (is_by_id tree) (holds tree id grains pillar)

both_of : (a b x y : Bool) → (if a && b then Some (x && y) else None) ≡ both (if a then Some x else None) (if b then Some y else None)
both_of true true x y = refl
both_of true false x y = refl
both_of false b x y = refl

pub decided-And : (left right : Target) (id : List ℕ) (grains pillar : Data) → decision_by_id (And left right) id grains pillar ≡ both (decision_by_id left id grains pillar) (decision_by_id right id grains pillar)
decided-And left right id grains pillar =
    of (And left right) id grains pillar (is_by_id left && is_by_id right) (holds left id grains pillar && holds right id grains pillar)
    (ap is_by_id (sym (rolls-And left right)) ∙ fold-roll-Target Bool by_id_layer (Target-F.And left right))
    (ap (λ t. holds t id grains pillar) (sym (rolls-And left right)) ∙ fold-roll-Target Bool (holds_layer id grains pillar) (Target-F.And left right))
    ∙ both_of (is_by_id left) (is_by_id right) (holds left id grains pillar) (holds right id grains pillar)

either_of : (a b x y : Bool) → (if a && b then Some (x || y) else None) ≡ either (if a then Some x else None) (if b then Some y else None)
either_of true true x y = refl
either_of true false x y = refl
either_of false b x y = refl

pub decided-Or : (left right : Target) (id : List ℕ) (grains pillar : Data) → decision_by_id (Or left right) id grains pillar ≡ either (decision_by_id left id grains pillar) (decision_by_id right id grains pillar)
decided-Or left right id grains pillar =
    of (Or left right) id grains pillar (is_by_id left && is_by_id right) (holds left id grains pillar || holds right id grains pillar)
    (ap is_by_id (sym (rolls-Or left right)) ∙ fold-roll-Target Bool by_id_layer (Target-F.Or left right))
    (ap (λ t. holds t id grains pillar) (sym (rolls-Or left right)) ∙ fold-roll-Target Bool (holds_layer id grains pillar) (Target-F.Or left right))
    ∙ either_of (is_by_id left) (is_by_id right) (holds left id grains pillar) (holds right id grains pillar)

pub decided-IdPcre : (text id : List ℕ) (grains pillar : Data) → decision_by_id (IdPcre text) id grains pillar ≡ None
decided-IdPcre text id grains pillar =
    ap (λ c. if c then Some (holds (IdPcre text) id grains pillar) else None) (ap is_by_id (sym (rolls-IdPcre text)) ∙ fold-roll-Target Bool by_id_layer (Target-F.IdPcre text))

pub decided-GrainGlob : (text id : List ℕ) (grains pillar : Data) → decision_by_id (GrainGlob text) id grains pillar ≡ None
decided-GrainGlob text id grains pillar =
    ap (λ c. if c then Some (holds (GrainGlob text) id grains pillar) else None) (ap is_by_id (sym (rolls-GrainGlob text)) ∙ fold-roll-Target Bool by_id_layer (Target-F.GrainGlob text))

pub decided-GrainPcre : (text id : List ℕ) (grains pillar : Data) → decision_by_id (GrainPcre text) id grains pillar ≡ None
decided-GrainPcre text id grains pillar =
    ap (λ c. if c then Some (holds (GrainPcre text) id grains pillar) else None) (ap is_by_id (sym (rolls-GrainPcre text)) ∙ fold-roll-Target Bool by_id_layer (Target-F.GrainPcre text))

pub decided-PillarGlob : (text id : List ℕ) (grains pillar : Data) → decision_by_id (PillarGlob text) id grains pillar ≡ None
decided-PillarGlob text id grains pillar =
    ap (λ c. if c then Some (holds (PillarGlob text) id grains pillar) else None) (ap is_by_id (sym (rolls-PillarGlob text)) ∙ fold-roll-Target Bool by_id_layer (Target-F.PillarGlob text))

pub decided-PillarPcre : (text id : List ℕ) (grains pillar : Data) → decision_by_id (PillarPcre text) id grains pillar ≡ None
decided-PillarPcre text id grains pillar =
    ap (λ c. if c then Some (holds (PillarPcre text) id grains pillar) else None) (ap is_by_id (sym (rolls-PillarPcre text)) ∙ fold-roll-Target Bool by_id_layer (Target-F.PillarPcre text))
