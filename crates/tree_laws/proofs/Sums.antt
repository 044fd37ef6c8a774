-- A sum over pairs, by the one and by the other.
use Rattle.std.proofs.Common.{◌≡◌, ℕ, zero, suc, ◌+◌, ◌*◌, ◌<◌, ◌≤◌, ◌∙◌, ap, refl, Bool, true, false, List, [], ◌∷◌, ◌++◌, arith}
use Rattle.std.specs.Prelude.{filter, sum_by}
use Rattle.std.proofs.lemmas.List.Sums.{sum_by-cons}
use Rattle.std.proofs.lemmas.List.Elements.{filter-append}
use Rattle.fleet_config.specs.Tree.{up_to}

-- the sum of what these numbers give
abbrev pub added : (ℕ → ℕ) → List ℕ → ℕ
added g [] = 0
added g (x ∷ xs) = g x + added g xs

pub added_is : (g : ℕ → ℕ) (xs : List ℕ) → sum_by g xs ≡ added g xs
added_is g [] = refl
added_is g (x ∷ xs) = sum_by-cons g x xs ∙ ap (λ n. g x + n) (added_is g xs)

pub added_join : (g : ℕ → ℕ) (xs ys : List ℕ) → added g (xs ++ ys) ≡ added g xs + added g ys
added_join g [] ys = omega arith
added_join g (x ∷ xs) ys = let h = added_join g xs ys in omega arith

-- over c below k, and over the numbers below n that pass with c
abbrev pub total : (ℕ → ℕ → Bool) → (ℕ → ℕ) → ℕ → ℕ → ℕ
total test g zero n = 0
total test g (suc k) n = total test g k n + added g (filter (test k) (up_to n))

abbrev pub one_if : Bool → ℕ
one_if true = 1
one_if false = 0

-- how many c below k pass with m
abbrev pub passing : (ℕ → ℕ → Bool) → ℕ → ℕ → ℕ
passing test zero m = 0
passing test (suc k) m = passing test k m + one_if (test k m)

added_one : (test : ℕ → Bool) (g : ℕ → ℕ) (m : ℕ) → added g (filter test (m ∷ [])) ≡ g m * one_if (test m)
added_one test g m = either (test m) refl where
  either : (t : Bool) → test m ≡ t → added g (filter test (m ∷ [])) ≡ g m * one_if (test m)
  either true e = rw e (omega arith)
  either false e = rw e (omega arith)

total_none : (test : ℕ → ℕ → Bool) (g : ℕ → ℕ) (k : ℕ) → total test g k 0 ≡ 0
total_none test g zero = refl
total_none test g (suc k) = let h = total_none test g k in omega arith

total_more : (test : ℕ → ℕ → Bool) (g : ℕ → ℕ) (k n : ℕ) → total test g k (suc n) ≡ total test g k n + g n * passing test k n
total_more test g zero n = omega arith
total_more test g (suc k) n =
    let h = total_more test g k n in
    let a : added g (filter (test k) (up_to (suc n))) ≡ added g (filter (test k) (up_to n)) + g n * one_if (test k n) =
    ap (added g) (filter-append (test k) (up_to n) (n ∷ [])) ∙ added_join g (filter (test k) (up_to n)) (filter (test k) (n ∷ [])) ∙ rw (added_one (test k) g n) refl in
    omega arith

-- each m has at most so many c
pub total_most : (test : ℕ → ℕ → Bool) (g b : ℕ → ℕ) (k n : ℕ) → ((m : ℕ) → m < n → g m * passing test k m ≤ b m) → total test g k n ≤ added b (up_to n)
total_most test g b k zero h = let e = total_none test g k in omega arith
total_most test g b k (suc n) h =
    let e = total_more test g k n in
    let a = added_join b (up_to n) (n ∷ []) in
    let r = total_most test g b k n (λ m l. h m (omega arith)) in
    let x = h n (omega arith) in
    omega arith
