-- The kind of a row is found in the list of kinds.
use Rattle.std.proofs.Common.{◌≡◌, ℕ, zero, suc, ◌+◌, ◌<◌, length, drop, get_or, Bool, true, false, List as Texts, [], ◌∷◌, Option, None, Some, refl, ap, sym, subst, ◌∙◌, arith}
use Rattle.std.specs.Prelude.{if◌then◌else◌, bytes_eq, nat_eq}
use Rattle.std.proofs.lemmas.Slice.Eq.{bytes_eq-Decides}
use Rattle.std.proofs.lemmas.Bool.Decides.{nat_tests}
use Rattle.target_tree.specs.declared.kind.Kind.{Kind}
use Rattle.target_tree.specs.declared.kind.Kind.TheVariants.{Glob, Pcre, List, Grain, GrainPcre, Pillar, PillarPcre, Nodegroup, Compound}
use Rattle.target_tree.specs.Kinds.{TheKind, kind_code, name_of}

-- the first kind that passes a test
abbrev pub first_kind : (Kind → Bool) → Texts Kind → Option Kind
first_kind test [] = None
first_kind test (kind ∷ kinds) = if test kind then Some kind else first_kind test kinds

abbrev pub all_kinds : Texts Kind
all_kinds = Glob ∷ Pcre ∷ List ∷ Grain ∷ GrainPcre ∷ Pillar ∷ PillarPcre ∷ Nodegroup ∷ Compound ∷ []

abbrev pub named : Texts ℕ → Kind → Bool
named name kind = bytes_eq (name_of kind) name

abbrev pub coded : ℕ → Kind → Bool
coded code kind = nat_eq (kind_code kind) code

-- each kind is the first with its own name, and with its own code
finds_name : (kind : Kind) → first_kind (named (name_of kind)) all_kinds ≡ Some kind
finds_name Glob = refl
finds_name Pcre = refl
finds_name List = refl
finds_name Grain = refl
finds_name GrainPcre = refl
finds_name Pillar = refl
finds_name PillarPcre = refl
finds_name Nodegroup = refl
finds_name Compound = refl

finds_code : (kind : Kind) → first_kind (coded (kind_code kind)) all_kinds ≡ Some kind
finds_code Glob = refl
finds_code Pcre = refl
finds_code List = refl
finds_code Grain = refl
finds_code GrainPcre = refl
finds_code Pillar = refl
finds_code PillarPcre = refl
finds_code Nodegroup = refl
finds_code Compound = refl

same_kind : (a b : Kind) → Some a ≡ Some b → a ≡ b
same_kind a b h = cc

passed : (test : Kind → Bool) (first kind : Kind) (rest : Option Kind) (b : Bool) → test first ≡ b → (rest ≡ Some kind → test kind ≡ true) → (if b then Some first else rest) ≡ Some kind → test kind ≡ true
passed test first kind rest true is later h = ap test (sym (same_kind first kind h)) ∙ is
passed test first kind rest false is later h = later h

passes : (test : Kind → Bool) (kinds : Texts Kind) (kind : Kind) → first_kind test kinds ≡ Some kind → test kind ≡ true
passes test [] kind e = absurd (cc)
passes test (first ∷ kinds) kind e = passed test first kind (first_kind test kinds) (test first) refl (passes test kinds kind) e

module _ (is : Kind → Type 0) (test : Kind → Bool) (tells : (kind : Kind) → test kind ≡ true → is kind) (finds : (kind : Kind) → is kind → first_kind test all_kinds ≡ Some kind) where
  the_kind : (found : Option Kind) → first_kind test all_kinds ≡ found → TheKind is found
  the_kind None e = λ kind h. none (sym e ∙ finds kind h)
    where
      none : {kind : Kind} → ◌≡◌ {A = Option Kind} None (Some kind) → ⊥
      none h = absurd (cc)
  the_kind (Some kind) e = (tells kind (passes test all_kinds kind e), λ other h. same_kind other kind (sym (finds other h) ∙ e))

pub kind_named : (name : Texts ℕ) (found : Option Kind) → first_kind (named name) all_kinds ≡ found → TheKind (λ kind. name_of kind ≡ name) found
kind_named name found e =
    the_kind (λ kind. name_of kind ≡ name) (named name) (λ kind h. (bytes_eq-Decides (name_of kind) name).0 h)
    (λ kind h. ap (λ (n : Texts ℕ). first_kind (named n) all_kinds) (sym h) ∙ finds_name kind) found e

pub kind_coded : (code : ℕ) (found : Option Kind) → first_kind (coded code) all_kinds ≡ found → TheKind (λ kind. kind_code kind ≡ code) found
kind_coded code found e =
    the_kind (λ kind. kind_code kind ≡ code) (coded code) (λ kind h. grind (arith, nat_tests))
    (λ kind h. ap (λ (n : ℕ). first_kind (coded n) all_kinds) (sym h) ∙ finds_code kind) found e

-- a kind that doesn't pass is passed over
pub passed_over : (test : Kind → Bool) (kinds : Texts Kind) (i : ℕ) → i < length kinds → test (get_or kinds i Glob) ≡ false → first_kind test (drop i kinds) ≡ first_kind test (drop (i + 1) kinds)
passed_over test [] i within other = absurd (omega arith)
passed_over test (first ∷ kinds) zero within other = ap (λ (b : Bool). if b then Some first else first_kind test kinds) other
passed_over test (first ∷ kinds) (suc i) within other =
    let next : suc (i + 1) ≡ suc i + 1 = omega arith in
    subst (λ (n : ℕ). first_kind test (drop i kinds) ≡ first_kind test (drop n (first ∷ kinds))) next (passed_over test kinds i (omega arith) other)
