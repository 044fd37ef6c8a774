-- The searches that are kept, one decision after the other.
use Rattle.std.proofs.Common.{◌≡◌, ◌⊎◌, inl, inr, ℕ, ◌+◌, ◌<◌, Bool, true, false, cond, ◌||◌, ◌&&◌, List, [], ◌∷◌, ◌++◌, length, get_or, refl, sym, ap, subst, ◌∙◌, Option, None, Some, bytes_eq}
use Rattle.std.specs.Prelude.{slice_index_or, position}
use Rattle.std.specs.List.{list_any, list_all, position_from}
use Rattle.std.proofs.lemmas.Cmp.{nat_list_eq_equiv}
use Rattle.std.proofs.lemmas.Slice.Eq.{bytes_eq-Decides}
use Rattle.std.proofs.lemmas.Map.Keys.{IsDistinct-push}
use Rattle.std.proofs.lemmas.List.{append_assoc, append-nil}
use Rattle.std.proofs.lemmas.List.Folds.{list_all-append, list_any-append}
use Rattle.std.proofs.lemmas.List.Quantifiers.{position-Some}
use Rattle.std.proofs.lemmas.Iterator.Adapters.{position_from-zero}
use Rattle.target_tree.specs.declared.target.Target.{fold-roll-Target}
use Rattle.target_tree.specs.declared.target.Target.TheVariants as T
use Rattle.target_tree.specs.declared.target.Target.TheOpen.{Target-F}
use Rattle.target_match.specs.declared.ready.Ready.{Ready}
use Rattle.target_match.specs.declared.ready.Ready.TheVariants as R
use Rattle.target_match.specs.Paths.{parts, pattern_of}
use Rattle.target_match.specs.Holds.{patterns_layer, patterns}
use Rattle.target_match.specs.Searches.{is_searched, has_pattern, Keeps}
use Rattle.target_match.specs.Ready.{target_of}
use Rattle.target_match.proofs.Readied.{of-IdPcre, of-GrainPcre, of-PillarPcre, of-Not, of-And, of-Or, both_true}

-- a search that is found is of the pattern
pub found : (pattern : List ℕ) (searches : List (List ℕ)) (i : ℕ) → position (bytes_eq pattern) searches ≡ Some i → (i < length searches) × (slice_index_or searches i [] ≡ pattern)
found pattern searches i e =
    let at = position-Some (bytes_eq pattern) searches i [] e in
    (at.0, sym ((bytes_eq-Decides pattern (get_or searches i [])).0 at.1))

none_case : (t rest : Bool) (i : ℕ) (more : Option ℕ) → cond t (Some i) more ≡ None → (more ≡ None → rest ≡ false) → (t || rest) ≡ false
none_case true rest i more e then = absurd cc
none_case false rest i more e then = then e

none_from : (test : List ℕ → Bool) (i : ℕ) (xs : List (List ℕ)) → position_from test i xs ≡ None → list_any test xs ≡ false
none_from test i [] e = refl
none_from test i (x ∷ xs) e = none_case (test x) (list_any test xs) i (position_from test (i + 1) xs) e (none_from test (i + 1) xs)

-- where none is found, there is none
pub none_found : (test : List ℕ → Bool) (xs : List (List ℕ)) → position test xs ≡ None → list_any test xs ≡ false
none_found test xs e = none_from test 0 xs (sym (position_from-zero test xs) ∙ e)

-- of two tests
pub first_true : (a b : Bool) → a ≡ true → (a || b) ≡ true
first_true true b e = refl
first_true false b e = absurd cc

second_true : (a b : Bool) → b ≡ true → (a || b) ≡ true
second_true true b e = refl
second_true false b e = e

pub joined_true : (a b : Bool) → a ≡ true → b ≡ true → (a && b) ≡ true
joined_true true b e f = f
joined_true false b e f = absurd cc

-- a pattern of one part is one of the whole
left_has : (pattern : List ℕ) (l r : List (Option (List ℕ))) → list_any (has_pattern pattern) l ≡ true → list_any (has_pattern pattern) (l ++ r) ≡ true
left_has pattern l r h = list_any-append (has_pattern pattern) l r ∙ first_true _ _ h

right_has : (pattern : List ℕ) (l r : List (Option (List ℕ))) → list_any (has_pattern pattern) r ≡ true → list_any (has_pattern pattern) (l ++ r) ≡ true
right_has pattern l r h = list_any-append (has_pattern pattern) l r ∙ second_true _ _ h

-- a test that passes where another does
pub all_pass : {A : Type 0} (f g : A → Bool) → ((x : A) → f x ≡ true → g x ≡ true) → (xs : List A) → list_all f xs ≡ true → list_all g xs ≡ true
all_pass f g each [] h = refl
all_pass f g each (x ∷ xs) h =
    let two = both_true (f x) (list_all f xs) h in
    joined_true (g x) (list_all g xs) (each x two.0) (all_pass f g each xs two.1)

-- nothing is made
pub same : (leaves : List (Option (List ℕ))) (xs : List (List ℕ)) → Keeps leaves xs xs
same leaves xs = record { more = []; first = sym (append-nil xs); only = refl; distinct = λ d. d; enough = λ h. refl }

one_leaf : (b : Bool) → (b && true) ≡ true → b ≡ false → ⊥
one_leaf true h e = cc
one_leaf false h e = cc

-- one is made
pub made : (pattern : List ℕ) (xs : List (List ℕ)) → list_any (bytes_eq pattern) xs ≡ false → Keeps (Some pattern ∷ []) xs (xs ++ pattern ∷ [])
made pattern xs e = record {
  more = pattern ∷ [];
  first = refl;
  only = ap (λ b. (b || false) && true) ((bytes_eq-Decides pattern pattern).1 refl);
  distinct = λ d. IsDistinct-push nat_list_eq_equiv xs pattern d e;
  enough = λ h. absurd (one_leaf (list_any (bytes_eq pattern) xs) h e);
}

-- the same said of other leaves
on : (l k : List (Option (List ℕ))) (before after : List (List ℕ)) → l ≡ k → Keeps k before after → Keeps l before after
on l k before after e h = subst (λ (x : List (Option (List ℕ))). Keeps x before after) (sym e) h

both_searched : (l r : List (Option (List ℕ))) (before : List (List ℕ)) → list_all (is_searched before) (l ++ r) ≡ true
    → (list_all (is_searched before) l ≡ true) × (list_all (is_searched before) r ≡ true)
both_searched l r before h = both_true (list_all (is_searched before) l) (list_all (is_searched before) r) (sym (list_all-append (is_searched before) l r) ∙ h)

-- the first leaves alone are decided
first_part : (l r : List (Option (List ℕ))) (before after : List (List ℕ)) → Keeps l before after → Keeps (l ++ r) before after
first_part l r before after k = record {
  more = k.more;
  first = k.first;
  only = all_pass (λ p. list_any (has_pattern p) l) (λ p. list_any (has_pattern p) (l ++ r)) (λ p. left_has p l r) k.more k.only;
  distinct = k.distinct;
  enough = λ h. k.enough (both_searched l r before h).0;
}

-- the first leaves are decided and then the others
pub both_parts : (l r : List (Option (List ℕ))) (before between after : List (List ℕ)) → Keeps l before between → Keeps r between after → Keeps (l ++ r) before after
both_parts l r before between after k j = record {
  more = k.more ++ j.more;
  first = j.first ∙ ap (λ (xs : List (List ℕ)). xs ++ j.more) k.first ∙ append_assoc before k.more j.more;
  only =
      list_all-append (λ p. list_any (has_pattern p) (l ++ r)) k.more j.more
      ∙ joined_true _ _
      (all_pass (λ p. list_any (has_pattern p) l) (λ p. list_any (has_pattern p) (l ++ r)) (λ p. left_has p l r) k.more k.only)
      (all_pass (λ p. list_any (has_pattern p) r) (λ p. list_any (has_pattern p) (l ++ r)) (λ p. right_has p l r) j.more j.only);
  distinct = λ d. j.distinct (k.distinct d);
  enough = λ h.
      let parts = both_searched l r before h in
      let unchanged : between ≡ before = k.enough parts.0 in
      j.enough (ap (λ (xs : List (List ℕ)). list_all (is_searched xs) r) unchanged ∙ parts.1) ∙ unchanged;
}

-- the pattern of each kind of leaf that has one
pub of_id_pattern : (tree : Ready) (text : List ℕ) → tree ≡ R.IdPcre text → patterns (target_of tree) ≡ Some text ∷ []
of_id_pattern tree text e = ap (λ (t : Ready). patterns (target_of t)) e ∙ ap patterns (of-IdPcre text ∙ sym (T.rolls-IdPcre text)) ∙ fold-roll-Target (List (Option (List ℕ))) patterns_layer (Target-F.IdPcre text)

pub of_grain_pattern : (tree : Ready) (text : List ℕ) → tree ≡ R.GrainPcre text → patterns (target_of tree) ≡ Some (pattern_of (parts text)) ∷ []
of_grain_pattern tree text e = ap (λ (t : Ready). patterns (target_of t)) e ∙ ap patterns (of-GrainPcre text ∙ sym (T.rolls-GrainPcre text)) ∙ fold-roll-Target (List (Option (List ℕ))) patterns_layer (Target-F.GrainPcre text)

pub of_pillar_pattern : (tree : Ready) (text : List ℕ) → tree ≡ R.PillarPcre text → patterns (target_of tree) ≡ Some (pattern_of (parts text)) ∷ []
of_pillar_pattern tree text e = ap (λ (t : Ready). patterns (target_of t)) e ∙ ap patterns (of-PillarPcre text ∙ sym (T.rolls-PillarPcre text)) ∙ fold-roll-Target (List (Option (List ℕ))) patterns_layer (Target-F.PillarPcre text)

-- a decision of a tree by that of a leaf or of its parts
pub id_leaf : (tree : Ready) (text : List ℕ) (before after : List (List ℕ)) → tree ≡ R.IdPcre text
    → Keeps (Some text ∷ []) before after → Keeps (patterns (target_of tree)) before after
id_leaf tree text before after e h =
    on _ (Some text ∷ []) before after (of_id_pattern tree text e) h

pub grain_leaf : (tree : Ready) (text : List ℕ) (before after : List (List ℕ)) → tree ≡ R.GrainPcre text
    → Keeps (Some (pattern_of (parts text)) ∷ []) before after → Keeps (patterns (target_of tree)) before after
grain_leaf tree text before after e h =
    on _ (Some (pattern_of (parts text)) ∷ []) before after (of_grain_pattern tree text e) h

pub pillar_leaf : (tree : Ready) (text : List ℕ) (before after : List (List ℕ)) → tree ≡ R.PillarPcre text
    → Keeps (Some (pattern_of (parts text)) ∷ []) before after → Keeps (patterns (target_of tree)) before after
pillar_leaf tree text before after e h =
    on _ (Some (pattern_of (parts text)) ∷ []) before after (of_pillar_pattern tree text e) h

pub not_tree : (tree one got : Ready) (before after : List (List ℕ)) → tree ≡ R.Not one → got ≡ one
    → Keeps (patterns (target_of got)) before after → Keeps (patterns (target_of tree)) before after
not_tree tree one got before after e g h =
    on _ (patterns (target_of got)) before after
    (ap (λ (t : Ready). patterns (target_of t)) e ∙ ap patterns (of-Not one ∙ sym (T.rolls-Not (target_of one))) ∙ fold-roll-Target (List (Option (List ℕ))) patterns_layer (Target-F.Not (target_of one))
    ∙ ap (λ (t : Ready). patterns (target_of t)) (sym g)) h

of_and : (tree left right : Ready) → tree ≡ R.And left right → patterns (target_of tree) ≡ patterns (target_of left) ++ patterns (target_of right)
of_and tree left right e =
    ap (λ (t : Ready). patterns (target_of t)) e ∙ ap patterns (of-And left right ∙ sym (T.rolls-And (target_of left) (target_of right)))
    ∙ fold-roll-Target (List (Option (List ℕ))) patterns_layer (Target-F.And (target_of left) (target_of right))

of_or : (tree left right : Ready) → tree ≡ R.Or left right → patterns (target_of tree) ≡ patterns (target_of left) ++ patterns (target_of right)
of_or tree left right e =
    ap (λ (t : Ready). patterns (target_of t)) e ∙ ap patterns (of-Or left right ∙ sym (T.rolls-Or (target_of left) (target_of right)))
    ∙ fold-roll-Target (List (Option (List ℕ))) patterns_layer (Target-F.Or (target_of left) (target_of right))

-- the two parts of a tree
abbrev pub HasParts : (tree left right : Ready) → Type 0
HasParts tree left right = (tree ≡ R.And left right) ⊎ (tree ≡ R.Or left right)

of_parts : (tree left right : Ready) → HasParts tree left right → patterns (target_of tree) ≡ patterns (target_of left) ++ patterns (target_of right)
of_parts tree left right e = elim e [ inl a ↦ of_and tree left right a | inr o ↦ of_or tree left right o ]

pub left_alone : (tree left right got : Ready) (before after : List (List ℕ)) → HasParts tree left right → got ≡ left
    → Keeps (patterns (target_of got)) before after → Keeps (patterns (target_of tree)) before after
left_alone tree left right got before after e g h =
    on _ (patterns (target_of got) ++ patterns (target_of right)) before after
    (of_parts tree left right e ∙ ap (λ (t : Ready). patterns (target_of t) ++ patterns (target_of right)) (sym g))
    (first_part (patterns (target_of got)) (patterns (target_of right)) before after h)

pub left_and_right : (tree left right one two : Ready) (before between after : List (List ℕ)) → HasParts tree left right → one ≡ left → two ≡ right
    → Keeps (patterns (target_of one)) before between → Keeps (patterns (target_of two)) between after → Keeps (patterns (target_of tree)) before after
left_and_right tree left right one two before between after e g f h k =
    on _ (patterns (target_of one) ++ patterns (target_of two)) before after
    (of_parts tree left right e
    ∙ ap (λ (t : Ready). patterns (target_of t) ++ patterns (target_of right)) (sym g)
    ∙ ap (λ (t : Ready). patterns (target_of one) ++ patterns (target_of t)) (sym f))
    (both_parts (patterns (target_of one)) (patterns (target_of two)) before between after h k)
