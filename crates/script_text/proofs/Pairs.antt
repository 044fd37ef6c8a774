-- Two parts with a space between them.
use Rattle.std.proofs.Common.{◌≡◌, ℕ, List, ◌∷◌, ◌++◌, sym, ap, ◌∙◌}
use Rattle.std.specs.Prelude.{None, Some}
use Rattle.salt_value.specs.Reading.{Decodes}
use Rattle.script_text.specs.Lines.{Lacks}
use Rattle.script_text.proofs.Words.{cut_once, no_cut}

-- how the parts of the first kind are read, without a space in them
pub record Parts {A B : Type 0} (va : A → Type 0) (sa : A → List ℕ) (vb : B → Type 0) (sb : B → List ℕ) : Type 0 where
  pub solid : (x : A) → va x → Lacks 32 (sa x)

pub pair_found : {A B : Type 0} {va : A → Type 0} {sa : A → List ℕ} {vb : B → Type 0} {sb : B → List ℕ} (parts : Parts va sa vb sb) (a : A) (b : B)
    (word rest text : List ℕ) → text ≡ word ++ 32 ∷ rest → Lacks 32 word → Decodes va sa word (Some a) → Decodes vb sb rest (Some b)
    → Decodes (λ (p : A × B). va p.0 × vb p.1) (λ p. sa p.0 ++ 32 ∷ sb p.1) text (Some (a, b))
pair_found {A} {B} {va} {sa} {vb} {sb} parts a b word rest text e w ha hb = (
  (ha.0, hb.0),
  ap (λ t. t ++ 32 ∷ sb b) ha.1 ∙ ap (λ t. word ++ 32 ∷ t) hb.1 ∙ sym e,
  λ y v h.
      let r = cut_once 32 (sa y.0) (sb y.1) word rest (parts.solid y.0 v.0) w (h ∙ e) in
      ap (λ (x : A). (x, y.1)) (ha.2 y.0 v.0 r.0) ∙ ap (λ (z : B). (a, z)) (hb.2 y.1 v.1 r.1),
)

pub no_first : {A B : Type 0} {va : A → Type 0} {sa : A → List ℕ} {vb : B → Type 0} {sb : B → List ℕ} (parts : Parts va sa vb sb)
    (word rest text : List ℕ) → text ≡ word ++ 32 ∷ rest → Lacks 32 word → Decodes va sa word None
    → (y : A × B) → va y.0 × vb y.1 → sa y.0 ++ 32 ∷ sb y.1 ≡ text → ⊥
no_first {A} {B} {va} {sa} {vb} {sb} parts word rest text e w none y v h =
    none y.0 v.0 (cut_once 32 (sa y.0) (sb y.1) word rest (parts.solid y.0 v.0) w (h ∙ e)).0

pub no_second : {A B : Type 0} {va : A → Type 0} {sa : A → List ℕ} {vb : B → Type 0} {sb : B → List ℕ} (parts : Parts va sa vb sb)
    (word rest text : List ℕ) → text ≡ word ++ 32 ∷ rest → Lacks 32 word → Decodes vb sb rest None
    → (y : A × B) → va y.0 × vb y.1 → sa y.0 ++ 32 ∷ sb y.1 ≡ text → ⊥
no_second {A} {B} {va} {sa} {vb} {sb} parts word rest text e w none y v h =
    none y.1 v.1 (cut_once 32 (sa y.0) (sb y.1) word rest (parts.solid y.0 v.0) w (h ∙ e)).1

pub no_space : {A B : Type 0} {va : A → Type 0} {sa : A → List ℕ} {vb : B → Type 0} {sb : B → List ℕ} (parts : Parts va sa vb sb)
    (text : List ℕ) → Lacks 32 text → (y : A × B) → va y.0 × vb y.1 → sa y.0 ++ 32 ∷ sb y.1 ≡ text → ⊥
no_space {A} {B} {va} {sa} {vb} {sb} parts text w y v h = no_cut 32 text (sa y.0) (sb y.1) w h
