-- Reading a value, step by step.
use Rattle.std.proofs.Common.{◌≡◌, ℕ, suc, ◌-◌, ◌≤◌, ◌<◌, Bool, true, false, cond, eqb, List, [], ◌∷◌, length, get_or, take, drop, sym, ◌∙◌, Option, None, Result, Ok, Err, refl, ap, subst, arith}
use Rattle.std.proofs.lemmas.List.{take_all}
use Rattle.std.proofs.lemmas.Bool.{ne_eqb}
use Rattle.salt_value.specs.Keys.{comes_after}
use Rattle.salt_value.specs.Tags.{tag_of}
use Rattle.salt_value.specs.declared.value.Value.{Value}
use Rattle.salt_value.specs.declared.fault.Misread.{Misread}
use Rattle.salt_value.specs.declared.fault.Misread.TheVariants.{Short, TooDeep, Unsorted}
use Rattle.salt_value.specs.Readers.{◌>>=◌, Reader}
use Rattle.salt_value.specs.Decoding.{text_at, key_at, room_at, pair_at, value_at, after_tag}

-- what stands after a tag of this code
abbrev pub tagged : ℕ → Reader Misread Value → ℕ → Reader Misread Value
tagged d item code bytes = after_tag d item (tag_of code) bytes

other : (code k : ℕ) → k < code → eqb code k ≡ false
other code k h = ne_eqb code k (λ e. omega (arith, e, h))

-- no tag has a code past the table
pub tag_of-past : (t : ℕ) → tag_of (suc (suc (suc (suc (suc (suc (suc t))))))) ≡ None
tag_of-past t = past (suc (suc (suc (suc (suc (suc (suc t))))))) (omega arith) where
  past : (code : ℕ) → 6 < code → tag_of code ≡ None
  past code h =
      rw (other code 0 (omega arith), other code 1 (omega arith), other code 2 (omega arith), other code 3 (omega arith), other code 4 (omega arith), other code 5 (omega arith), other code 6 h) refl

pub value_at-none : (n : ℕ) (bytes : List ℕ) → n ≡ 0 → value_at n bytes ≡ Err TooDeep
unfolding value_at
value_at-none n bytes e = ap (λ k. value_at k bytes) e

pub value_at-empty : (n : ℕ) (bytes : List ℕ) → 0 < n → length bytes < 1 → value_at n bytes ≡ Err Short
unfolding value_at
value_at-empty n [] lt none = let e : n ≡ suc (n - 1) = omega arith in ap (λ k. value_at k []) e
value_at-empty n (b ∷ bytes) lt none = absurd (omega arith)

pub value_at-tagged : (n : ℕ) (bytes : List ℕ) → 0 < n → 1 ≤ length bytes → value_at n bytes ≡ tagged (n - 1) (value_at (n - 1)) (get_or bytes 0 0) (take (length bytes - 1) (drop 1 bytes))
unfolding value_at
value_at-tagged n [] lt some = absurd (omega arith)
value_at-tagged n (b ∷ bytes) lt some =
    let e : n ≡ suc (n - 1) = omega arith in
    let len : length bytes ≤ length (b ∷ bytes) - 1 = omega arith in
    ap (λ k. value_at k (b ∷ bytes)) e ∙ ap (λ r. tagged (n - 1) (value_at (n - 1)) b r) (sym (take_all (length (b ∷ bytes) - 1) bytes len))

-- the value of a step that did not fail
pub bind_ok : {A B F : Type 0} (r : Result A F) (f : A → Result B F) (y : B) → (r >>= f) ≡ Ok y → (x : A) × (r ≡ Ok x) × (f x ≡ Ok y)
bind_ok (Ok x) f y e = (x, refl, e)
bind_ok (Err d) f y e = absurd cc

-- a test that did not fail
pub guard_ok : {A F : Type 0} (b : Bool) (d : F) (x y : A) → cond b (Err d) (Ok x) ≡ Ok y → (b ≡ false) × (x ≡ y)
guard_ok true d x y e = absurd cc
guard_ok false d x y e = (refl, cc)

pub guarded_ok : {A F : Type 0} (b : Bool) (d : F) (x y : A) → cond b (Ok x) (Err d) ≡ Ok y → (b ≡ true) × (x ≡ y)
guarded_ok true d x y e = (refl, cc)
guarded_ok false d x y e = absurd cc

pub ok_is : {A F : Type 0} (x y : A) → ◌≡◌ {A = Result A F} (Ok x) (Ok y) → x ≡ y
ok_is x y e = cc

key_after : (last : Option (List ℕ)) (bytes : List ℕ) (k : List ℕ × List ℕ) → key_at last bytes ≡ Ok k → comes_after last k.0 ≡ true
unfolding key_at
key_after last bytes k e =
    let a = bind_ok (text_at bytes) (λ key. cond (comes_after last key.0) (Ok key) (Err (Unsorted (length bytes - 4)))) k e in
    let g = guarded_ok (comes_after last a.0.0) (Unsorted (length bytes - 4)) a.0 k a.2 in
    subst (λ (x : List ℕ × List ℕ). comes_after last x.0 ≡ true) g.1 g.0

-- the key of a pair that is read stands after the one before it
pub pair_after : {A : Type 0} (d : ℕ) (item : Reader Misread A) (last : Option (List ℕ)) (bytes : List ℕ) (x : (List ℕ × A) × List ℕ) → pair_at d item last bytes ≡ Ok x → comes_after last x.0.0 ≡ true
unfolding pair_at
pair_after {A} d item last bytes x e =
    let a = bind_ok (room_at d bytes) (λ room. key_at last room.1 >>= λ key. item key.1 >>= λ value. Ok ((key.0, value.0), value.1)) x e in
    let b = bind_ok (key_at last a.0.1) (λ key. item key.1 >>= λ value. Ok ((key.0, value.0), value.1)) x a.2 in
    let c = bind_ok (item b.0.1) (λ value. Ok ((b.0.0, value.0), value.1)) x b.2 in
    let made : (List ℕ × A) × List ℕ = ((b.0.0, c.0.0), c.0.1) in
    subst (λ (y : (List ℕ × A) × List ℕ). comes_after last y.0.0 ≡ true) (ok_is made x c.2) (key_after last a.0.1 b.0 b.1)

pub ruleset value_at_steps = (value_at-none, value_at-empty, value_at-tagged)
