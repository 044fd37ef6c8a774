-- Reading one after the other, as a loop does, over any faults.
use Rattle.std.proofs.Common.{◌≡◌, inl, inr, ℕ, suc, ◌-◌, ◌+◌, ◌≤◌, ◌<◌, List, [], ◌∷◌, ◌++◌, Result, Ok, Err, refl, sym, ap, ◌∙◌, append_assoc, arith}
use Rattle.std.proofs.lemmas.List.{append-nil}
use Rattle.salt_value.specs.Readers.{Reader, ◌>>=◌, several, Fails}

-- what was read before, and what is still read
abbrev pub with_front : {F A : Type 0} → List A → Result (List A × List ℕ) F → Result (List A × List ℕ) F
with_front front read = read >>= λ x. Ok (front ++ x.0, x.1)

pub regroup : {F A : Type 0} (front : List A) (x : A) (read : Result (List A × List ℕ) F) → with_front front (read >>= λ y. Ok (x ∷ y.0, y.1)) ≡ with_front (front ++ x ∷ []) read
regroup {F} {A} front x (Ok y) = ap (λ (l : List A). Ok (l, y.1)) (simp append_assoc)
regroup front x (Err f) = refl

-- a fault that was met is the fault of the whole, as soon as the whole goes on as it does
pub Fails-along : {F A B : Type 0} (no_memory e : F) (read : Result A F) (whole : Result B F) → ((f : F) → read ≡ Err f → whole ≡ Err f) → Fails no_memory e read → Fails no_memory e whole
Fails-along no_memory e read whole h (inl p) = inl p
Fails-along no_memory e read whole h (inr p) = inr (h e p)

module _ {F A : Type 0} (item : Reader F A) where
  pub goes_on : (front : List A) (count i : ℕ) (bytes : List ℕ) (x : A) (after : List ℕ) (total : Result (List A × List ℕ) F) → i < count → item bytes ≡ Ok (x, after)
      → with_front front (several item (count - i) bytes) ≡ total → with_front (front ++ x ∷ []) (several item (count - (i + 1)) after) ≡ total
  unfolding several
  goes_on front count i bytes x after total lt h so_far =
      let k : count - i ≡ suc (count - (i + 1)) = omega arith in
      let one : with_front front (several item (count - i) bytes) ≡ with_front (front ++ x ∷ []) (several item (count - (i + 1)) after) = rw (k, h) (regroup front x (several item (count - (i + 1)) after)) in
      sym one ∙ so_far

  pub ends : (no_memory e : F) (front : List A) (count i : ℕ) (bytes : List ℕ) (total : Result (List A × List ℕ) F) → i < count → Fails no_memory e (item bytes)
      → with_front front (several item (count - i) bytes) ≡ total → Fails no_memory e total
  unfolding several
  ends no_memory e front count i bytes total lt fails so_far = Fails-along no_memory e (item bytes) total (λ f h.
      let k : count - i ≡ suc (count - (i + 1)) = omega arith in
      let one : with_front front (several item (count - i) bytes) ≡ Err f = rw (k, h) refl in
      sym so_far ∙ one) fails

  pub is_done : (front : List A) (count i : ℕ) (bytes : List ℕ) (total : Result (List A × List ℕ) F) → count ≤ i → with_front front (several item (count - i) bytes) ≡ total → total ≡ Ok (front, bytes)
  unfolding several
  is_done front count i bytes total le so_far =
      let k : count - i ≡ 0 = omega arith in
      let one : with_front front (several item (count - i) bytes) ≡ Ok (front, bytes) = rw k (ap (λ (l : List A). Ok (l, bytes)) (append-nil front)) in
      sym so_far ∙ one
