-- Reading pairs one after the other, as a loop does.
use Rattle.std.proofs.Common.{◌≡◌, ℕ, suc, ◌-◌, ◌+◌, ◌≤◌, ◌<◌, List, [], ◌∷◌, ◌++◌, Some, Result, Ok, Err, refl, sym, ap, ◌∙◌, arith}
use Rattle.std.proofs.lemmas.List.{append-nil}
use Rattle.salt_value.specs.declared.fault.Misread.{Misread}
use Rattle.salt_value.specs.declared.fault.Misread.TheVariants.{NoMemory}
use Rattle.salt_value.specs.Keys.{last_key}
use Rattle.salt_value.specs.Readers.{Fails, Reader}
use Rattle.salt_value.specs.Decoding.{pair_at, pairs_at}
use Rattle.salt_value.proofs.KeyLemmas.{last_key-push}
use Rattle.salt_value.proofs.ReaderLoops.{with_front, regroup, Fails-along}

module _ {A : Type 0} (d : ℕ) (item : Reader Misread A) where
  pub pair_goes_on : (front : List (List ℕ × A)) (count i : ℕ) (bytes : List ℕ) (x : List ℕ × A) (after : List ℕ) (total : Result (List (List ℕ × A) × List ℕ) Misread)
      → i < count → pair_at d item (last_key front) bytes ≡ Ok (x, after)
      → with_front front (pairs_at d item (last_key front) (count - i) bytes) ≡ total
      → with_front (front ++ x ∷ []) (pairs_at d item (last_key (front ++ x ∷ [])) (count - (i + 1)) after) ≡ total
  unfolding pairs_at
  pair_goes_on front count i bytes x after total lt h so_far =
      let k : count - i ≡ suc (count - (i + 1)) = omega arith in
      let one : with_front front (pairs_at d item (last_key front) (count - i) bytes) ≡ with_front (front ++ x ∷ []) (pairs_at d item (Some x.0) (count - (i + 1)) after)
      = rw (k, h) (regroup front x (pairs_at d item (Some x.0) (count - (i + 1)) after)) in
      ap (λ l. with_front (front ++ x ∷ []) (pairs_at d item l (count - (i + 1)) after)) (last_key-push front x) ∙ sym one ∙ so_far

  pub pair_ends : (e : Misread) (front : List (List ℕ × A)) (count i : ℕ) (bytes : List ℕ) (total : Result (List (List ℕ × A) × List ℕ) Misread) → i < count
      → Fails NoMemory e (pair_at d item (last_key front) bytes)
      → with_front front (pairs_at d item (last_key front) (count - i) bytes) ≡ total → Fails NoMemory e total
  unfolding pairs_at
  pair_ends e front count i bytes total lt fails so_far = Fails-along NoMemory e (pair_at d item (last_key front) bytes) total (λ f h.
      let k : count - i ≡ suc (count - (i + 1)) = omega arith in
      let one : with_front front (pairs_at d item (last_key front) (count - i) bytes) ≡ Err f = rw (k, h) refl in
      sym so_far ∙ one) fails

  pub pairs_done : (front : List (List ℕ × A)) (count i : ℕ) (bytes : List ℕ) (total : Result (List (List ℕ × A) × List ℕ) Misread) → count ≤ i
      → with_front front (pairs_at d item (last_key front) (count - i) bytes) ≡ total → total ≡ Ok (front, bytes)
  unfolding pairs_at
  pairs_done front count i bytes total le so_far =
      let k : count - i ≡ 0 = omega arith in
      let one : with_front front (pairs_at d item (last_key front) (count - i) bytes) ≡ Ok (front, bytes) = rw k (ap (λ (l : List (List ℕ × A)). Ok (l, bytes)) (append-nil front)) in
      sym so_far ∙ one
