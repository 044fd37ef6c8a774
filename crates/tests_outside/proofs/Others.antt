-- A disk of a stage is left, and the others stay.
use Rattle.std.proofs.Common.{◌≡◌, ◌≢◌, ◌⊎◌, inl, inr, ◌<◌, ◌≤◌, ℕ, List, length, get_or, set, Option, Some, None, slice_get, sym, ◌∙◌, ap, subst, arith}
use Rattle.std.specs.Option.{OnSome}
use Rattle.std.proofs.lemmas.List.{get_or-set_other, length-set}
use Rattle.std.proofs.lemmas.Option.{slice_get-get_or, slice_get_past, slice_get_cases}

-- each other item stays where one is set
get-set_other : {A : Type 0} (xs : List A) (n j : ℕ) (a : A) → j ≢ n → slice_get (set xs n a) j ≡ slice_get xs j
get-set_other {A = A} xs n j a ne = by (slice_get_cases xs j).1
  where
    by : ((x : A) × (j < length xs) × (slice_get xs j ≡ Some x) × (get_or xs j x ≡ x)) ⊎ ((length xs ≤ j) × (slice_get xs j ≡ None)) → slice_get (set xs n a) j ≡ slice_get xs j
    by (inl found) =
        slice_get-get_or (set xs n a) j a (omega (arith, found.1, length-set xs n a)) ∙ ap Some (get_or-set_other xs n j a a ne) ∙ sym (slice_get-get_or xs j a found.1)
    by (inr past) = slice_get_past (set xs n a) j (omega (arith, past.0, length-set xs n a)) ∙ sym past.1

-- so it is where the loan of one of them has ended
pub others_stay : {A D : Type 0} (lent : Option D) (d : D) (all old : List A) (n j : ℕ) (left : A) → lent ≡ Some d → OnSome lent (all ≡ set old n left) → j ≢ n → slice_get all j ≡ slice_get old j
others_stay lent d all old n j left is ends ne =
    let set_is : all ≡ set old n left = subst (λ o. OnSome o (all ≡ set old n left)) is ends in
    ap (λ l. slice_get l j) set_is ∙ get-set_other old n j left ne
