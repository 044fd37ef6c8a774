-- The leaves that a decision asks, and their searches.
use Rattle.std.proofs.Common.{◌≡◌, ℕ, ◌<◌, Bool, true, false, ◌&&◌, List, [], ◌∷◌, ◌++◌, length, get_or, refl, sym, ap, subst, ◌∙◌, Option, None, Some, Result, Ok, Err, bytes_eq}
use Rattle.std.specs.Prelude.{OnOk, slice_set}
use Rattle.std.specs.List.{list_any, list_all}
use Rattle.std.proofs.lemmas.Slice.Eq.{bytes_eq-Decides}
use Rattle.std.proofs.lemmas.List.{set-get_or}
use Rattle.std.proofs.lemmas.List.Folds.{list_any_at, list_any-append, list_all-append}
use Rattle.target_tree.specs.declared.target.Target.{Target, fold-roll-Target}
use Rattle.target_tree.specs.declared.target.Target.TheVariants as T
use Rattle.target_tree.specs.declared.target.Target.TheOpen.{Target-F}
use Rattle.target_match.specs.declared.ready.Ready.{Ready}
use Rattle.target_match.specs.declared.ready.Ready.TheVariants as R
use Rattle.target_match.specs.Paths.{parts, pattern_of}
use Rattle.target_match.specs.Holds.{Data, holds, patterns_layer, patterns}
use Rattle.target_match.specs.Searches.{is_searched, Keeps, one_leaf, negated, left_fails, and_then, left_holds, or_else, HasSearches}
use Rattle.target_match.specs.Ready.{target_of}
use Rattle.target_match.proofs.Keeping.{same, both_parts, first_true, joined_true, all_pass, of_id_pattern, of_grain_pattern, of_pillar_pattern}
use Rattle.target_match.proofs.Readied.{of-IdGlob, of-IdList, of-GrainGlob, of-PillarGlob, of-Not, of-And, of-Or}

-- what follows from an answer follows from it again
pub on_ok : {E P Q : Type 0} (r : Result Bool E) → (P → Q) → OnOk r P → OnOk r Q
on_ok (Ok b) f h = f h
on_ok (Err e) f h = tt

-- what holds anyway holds after an answer
pub on_any : {E P : Type 0} (r : Result Bool E) → P → OnOk r P
on_any (Ok b) p = p
on_any (Err e) p = tt

-- a search at its place is there, also after it was used
pub there : (pattern : List ℕ) (searches : List (List ℕ)) (place : ℕ) (now found : List ℕ) → place < length searches → now ≡ found → found ≡ get_or searches place [] → get_or searches place [] ≡ pattern
    → list_any (bytes_eq pattern) (slice_set searches place now) ≡ true
there pattern searches place now found within kept at same =
    ap (list_any (bytes_eq pattern)) (ap (slice_set searches place) (kept ∙ at) ∙ set-get_or searches place [])
    ∙ list_any_at (bytes_eq pattern) searches place [] within ((bytes_eq-Decides pattern (get_or searches place [])).1 (sym same))

-- a tree of one leaf
leaf : (id : List ℕ) (grains pillar : Data) (tree : Ready) (one : Option (List ℕ)) (before after : List (List ℕ)) → patterns (target_of tree) ≡ one ∷ [] → is_searched after one ≡ true → Keeps (one ∷ []) before after
    → HasSearches id grains pillar (target_of tree) before after
leaf id grains pillar tree one before after e h k = record {
  leaves = patterns (target_of tree);
  asked = one_leaf (ap length e);
  searched = ap (list_all (is_searched after)) e ∙ ap (λ b. b && true) h;
  keeps = subst (λ (l : List (Option (List ℕ))). Keeps l before after) (sym e) k;
}

plain : (id : List ℕ) (grains pillar : Data) (tree : Ready) (searches : List (List ℕ)) → patterns (target_of tree) ≡ None ∷ [] → HasSearches id grains pillar (target_of tree) searches searches
plain id grains pillar tree searches e = leaf id grains pillar tree None searches searches e refl (same (None ∷ []) searches)

pub id_glob : (id : List ℕ) (grains pillar : Data) (tree : Ready) (text : List ℕ) (searches : List (List ℕ)) → tree ≡ R.IdGlob text → HasSearches id grains pillar (target_of tree) searches searches
id_glob id grains pillar tree text searches e =
    plain id grains pillar tree searches
    (ap (λ (t : Ready). patterns (target_of t)) e ∙ ap patterns (of-IdGlob text ∙ sym (T.rolls-IdGlob text)) ∙ fold-roll-Target (List (Option (List ℕ))) patterns_layer (Target-F.IdGlob text))

pub id_list : (id : List ℕ) (grains pillar : Data) (tree : Ready) (ids : List (List ℕ)) (searches : List (List ℕ)) → tree ≡ R.IdList ids → HasSearches id grains pillar (target_of tree) searches searches
id_list id grains pillar tree ids searches e =
    plain id grains pillar tree searches
    (ap (λ (t : Ready). patterns (target_of t)) e ∙ ap patterns (of-IdList ids ∙ sym (T.rolls-IdList ids)) ∙ fold-roll-Target (List (Option (List ℕ))) patterns_layer (Target-F.IdList ids))

pub grain_glob : (id : List ℕ) (grains pillar : Data) (tree : Ready) (text : List ℕ) (searches : List (List ℕ)) → tree ≡ R.GrainGlob text → HasSearches id grains pillar (target_of tree) searches searches
grain_glob id grains pillar tree text searches e =
    plain id grains pillar tree searches
    (ap (λ (t : Ready). patterns (target_of t)) e ∙ ap patterns (of-GrainGlob text ∙ sym (T.rolls-GrainGlob text)) ∙ fold-roll-Target (List (Option (List ℕ))) patterns_layer (Target-F.GrainGlob text))

pub pillar_glob : (id : List ℕ) (grains pillar : Data) (tree : Ready) (text : List ℕ) (searches : List (List ℕ)) → tree ≡ R.PillarGlob text → HasSearches id grains pillar (target_of tree) searches searches
pillar_glob id grains pillar tree text searches e =
    plain id grains pillar tree searches
    (ap (λ (t : Ready). patterns (target_of t)) e ∙ ap patterns (of-PillarGlob text ∙ sym (T.rolls-PillarGlob text)) ∙ fold-roll-Target (List (Option (List ℕ))) patterns_layer (Target-F.PillarGlob text))

pub id_pattern : (id : List ℕ) (grains pillar : Data) (tree : Ready) (text : List ℕ) (before after : List (List ℕ)) → tree ≡ R.IdPcre text → Keeps (Some text ∷ []) before after → list_any (bytes_eq text) after ≡ true
    → HasSearches id grains pillar (target_of tree) before after
id_pattern id grains pillar tree text before after e k h =
    leaf id grains pillar tree (Some text) before after (of_id_pattern tree text e) h k

pub grain_pattern : (id : List ℕ) (grains pillar : Data) (tree : Ready) (text : List ℕ) (before after : List (List ℕ)) → tree ≡ R.GrainPcre text → Keeps (Some (pattern_of (parts text)) ∷ []) before after → list_any (bytes_eq (pattern_of (parts text))) after ≡ true
    → HasSearches id grains pillar (target_of tree) before after
grain_pattern id grains pillar tree text before after e k h =
    leaf id grains pillar tree (Some (pattern_of (parts text))) before after (of_grain_pattern tree text e) h k

pub pillar_pattern : (id : List ℕ) (grains pillar : Data) (tree : Ready) (text : List ℕ) (before after : List (List ℕ)) → tree ≡ R.PillarPcre text → Keeps (Some (pattern_of (parts text)) ∷ []) before after → list_any (bytes_eq (pattern_of (parts text))) after ≡ true
    → HasSearches id grains pillar (target_of tree) before after
pillar_pattern id grains pillar tree text before after e k h =
    leaf id grains pillar tree (Some (pattern_of (parts text))) before after (of_pillar_pattern tree text e) h k

pub not_tree : (id : List ℕ) (grains pillar : Data) (tree one got : Ready) (before after : List (List ℕ)) → tree ≡ R.Not one → got ≡ one
    → HasSearches id grains pillar (target_of got) before after → HasSearches id grains pillar (target_of tree) before after
not_tree id grains pillar tree one got before after e g h =
    subst (λ (t : Target). HasSearches id grains pillar t before after) (sym (ap target_of e ∙ of-Not one ∙ ap (λ (t : Ready). T.Not (target_of t)) (sym g)))
    (record { leaves = h.leaves; asked = negated h.asked; searched = h.searched; keeps = h.keeps })

-- searches that are there stay
one_stays : (before more : List (List ℕ)) (leaf : Option (List ℕ)) → is_searched before leaf ≡ true → is_searched (before ++ more) leaf ≡ true
one_stays before more None h = refl
one_stays before more (Some pattern) h = list_any-append (bytes_eq pattern) before more ∙ first_true _ _ h

both_searched : (first others : List (Option (List ℕ))) (between after : List (List ℕ)) → Keeps others between after → list_all (is_searched between) first ≡ true → list_all (is_searched after) others ≡ true
    → list_all (is_searched after) (first ++ others) ≡ true
both_searched first others between after k h g =
    list_all-append (is_searched after) first others
    ∙ joined_true (list_all (is_searched after) first) (list_all (is_searched after) others)
    (ap (λ (xs : List (List ℕ)). list_all (is_searched xs) first) k.first ∙ all_pass (is_searched between) (is_searched (between ++ k.more)) (one_stays between k.more) first h) g

and_tree : (left right one two : Ready) (tree : Ready) → tree ≡ R.And left right → one ≡ left → two ≡ right → target_of tree ≡ T.And (target_of one) (target_of two)
and_tree left right one two tree e g f =
    ap target_of e ∙ of-And left right ∙ ap (λ (t : Ready). T.And (target_of t) (target_of right)) (sym g) ∙ ap (λ (t : Ready). T.And (target_of one) (target_of t)) (sym f)

or_tree : (left right one two : Ready) (tree : Ready) → tree ≡ R.Or left right → one ≡ left → two ≡ right → target_of tree ≡ T.Or (target_of one) (target_of two)
or_tree left right one two tree e g f =
    ap target_of e ∙ of-Or left right ∙ ap (λ (t : Ready). T.Or (target_of t) (target_of right)) (sym g) ∙ ap (λ (t : Ready). T.Or (target_of one) (target_of t)) (sym f)

pub and_left : (id : List ℕ) (grains pillar : Data) (tree left right one : Ready) (before after : List (List ℕ)) (b : Bool) → tree ≡ R.And left right → one ≡ left
    → b ≡ holds (target_of one) id grains pillar → b ≡ false → HasSearches id grains pillar (target_of one) before after → HasSearches id grains pillar (target_of tree) before after
and_left id grains pillar tree left right one before after b e g is n h =
    subst (λ (t : Target). HasSearches id grains pillar t before after) (sym (and_tree left right one right tree e g refl))
    (record { leaves = h.leaves; asked = left_fails (target_of right) (sym is ∙ n) h.asked; searched = h.searched; keeps = h.keeps })

pub or_left : (id : List ℕ) (grains pillar : Data) (tree left right one : Ready) (before after : List (List ℕ)) (b : Bool) → tree ≡ R.Or left right → one ≡ left
    → b ≡ holds (target_of one) id grains pillar → b ≡ true → HasSearches id grains pillar (target_of one) before after → HasSearches id grains pillar (target_of tree) before after
or_left id grains pillar tree left right one before after b e g is n h =
    subst (λ (t : Target). HasSearches id grains pillar t before after) (sym (or_tree left right one right tree e g refl))
    (record { leaves = h.leaves; asked = left_holds (target_of right) (sym is ∙ n) h.asked; searched = h.searched; keeps = h.keeps })

pub and_both : (id : List ℕ) (grains pillar : Data) (tree left right one two : Ready) (before between after : List (List ℕ)) (b : Bool) → tree ≡ R.And left right → one ≡ left → two ≡ right
    → b ≡ holds (target_of one) id grains pillar → b ≡ true → HasSearches id grains pillar (target_of one) before between
    → HasSearches id grains pillar (target_of two) between after → HasSearches id grains pillar (target_of tree) before after
and_both id grains pillar tree left right one two before between after b e g f is n h j =
    subst (λ (t : Target). HasSearches id grains pillar t before after) (sym (and_tree left right one two tree e g f))
    (record { leaves = h.leaves ++ j.leaves; asked = and_then (sym is ∙ n) h.asked j.asked; searched = both_searched h.leaves j.leaves between after j.keeps h.searched j.searched; keeps = both_parts h.leaves j.leaves before between after h.keeps j.keeps })

pub or_both : (id : List ℕ) (grains pillar : Data) (tree left right one two : Ready) (before between after : List (List ℕ)) (b : Bool) → tree ≡ R.Or left right → one ≡ left → two ≡ right
    → b ≡ holds (target_of one) id grains pillar → b ≡ false → HasSearches id grains pillar (target_of one) before between
    → HasSearches id grains pillar (target_of two) between after → HasSearches id grains pillar (target_of tree) before after
or_both id grains pillar tree left right one two before between after b e g f is n h j =
    subst (λ (t : Target). HasSearches id grains pillar t before after) (sym (or_tree left right one two tree e g f))
    (record { leaves = h.leaves ++ j.leaves; asked = or_else (sym is ∙ n) h.asked j.asked; searched = both_searched h.leaves j.leaves between after j.keeps h.searched j.searched; keeps = both_parts h.leaves j.leaves before between after h.keeps j.keeps })
