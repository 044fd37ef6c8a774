-- Globs by cases on the front of the pattern.
use Rattle.std.specs.Prelude.{◌≡◌, ◌≢◌, ◌↔◌, ℕ, IsTrue, List, [], ◌∷◌, ◌++◌, drop, None, Some}
use Rattle.salt_glob.specs.Classes.{Class, class_of, class_size, in_class}
use Rattle.salt_glob.specs.Globs.{Glob}

-- the text is a byte that passes, and then a text for which the rest of the pattern holds
abbrev pub Takes : (ℕ → Type 0) → List ℕ → List ℕ → Type 0
Takes Passes rest text = (b : ℕ) × (after : List ℕ) × (text ≡ b ∷ after) × Passes b × Glob rest after

-- whether a pattern holds is told by what stands at its front
pub record IsByFront : Type 0 where
  -- the empty pattern holds for the empty text alone
  pub nothing : (text : List ℕ) → Glob [] text ↔ (text ≡ [])
  -- `*` holds where the rest holds for some suffix
  pub asterisk : (rest text : List ℕ) → Glob (42 ∷ rest) text ↔ ((before : List ℕ) × (after : List ℕ) × (text ≡ before ++ after) × Glob rest after)
  -- `?` takes one byte
  pub question_mark : (rest text : List ℕ) → Glob (63 ∷ rest) text ↔ Takes (λ b. Unit {0}) rest text
  -- a class takes one byte of its set
  pub closed : (rest text : List ℕ) (c : Class) → class_of rest ≡ Some c
      → Glob (91 ∷ rest) text ↔ Takes (λ b. IsTrue (in_class b c)) (drop (class_size c) rest) text
  -- a `[` that no `]` closes takes a `[`
  pub unclosed : (rest text : List ℕ) → class_of rest ≡ None → Glob (91 ∷ rest) text ↔ Takes (λ b. b ≡ 91) rest text
  -- every other byte takes an equal one
  pub other : (x : ℕ) (rest text : List ℕ) → x ≢ 42 → x ≢ 63 → x ≢ 91 → Glob (x ∷ rest) text ↔ Takes (λ b. b ≡ x) rest text
