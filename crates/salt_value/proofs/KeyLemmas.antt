-- The order of keys.
use Rattle.std.proofs.Common.{◌≡◌, ℕ, zero, suc, ◌-◌, Bool, true, false, ◌&&◌, List, [], ◌∷◌, ◌++◌, length, Some, option_map, ◌<◌, ◌≤◌, get_or, take, drop, drop-cons, map, refl, sym, ap, ◌∙◌, arith}
use Rattle.std.specs.Prelude.{slice_get}
use Rattle.std.proofs.lemmas.List.{take-append-drop}
use denote.Param.Weighed.{most}
use Rattle.salt_value.specs.declared.value.Value.{Value, size-Value}
use Rattle.salt_value.specs.Keys.{keys_of, last_key, comes_after, before, ascends}

and_true : (a b : Bool) → a ≡ true → b ≡ true → (a && b) ≡ true
and_true true b p q = q
and_true false b p q = absurd cc

first_of_and : (a b : Bool) → (a && b) ≡ true → (a ≡ true) × (b ≡ true)
first_of_and true b e = (refl, e)
first_of_and false b e = absurd cc

-- a key put last keeps the order
pub ascends-push : {A : Type 0} (ps : List (List ℕ × A)) (p : List ℕ × A) → ascends (keys_of ps) ≡ true → comes_after (last_key ps) p.0 ≡ true → ascends (keys_of (ps ++ p ∷ [])) ≡ true
ascends-push [] p h after = refl
ascends-push (q ∷ []) p h after = and_true _ _ after refl
ascends-push (q ∷ r ∷ ps) p h after =
    let parts = first_of_and (before q.0 r.0) (ascends (keys_of (r ∷ ps))) h in
    and_true (before q.0 r.0) _ parts.0 (ascends-push (r ∷ ps) p parts.1 after)

-- a pair put last has the last key
pub last_key-push : {A : Type 0} (ps : List (List ℕ × A)) (p : List ℕ × A) → last_key (ps ++ p ∷ []) ≡ Some p.0
last_key-push [] p = refl
last_key-push (q ∷ []) p = refl
last_key-push (q ∷ r ∷ ps) p = last_key-push (r ∷ ps) p

-- the last key is that of the last pair
pub last_key-get : {A : Type 0} (ps : List (List ℕ × A)) → option_map (λ q. q.0) (slice_get ps (length ps - 1)) ≡ last_key ps
last_key-get [] = refl
last_key-get (q ∷ []) = refl
last_key-get (q ∷ r ∷ ps) =
    let n : length (q ∷ r ∷ ps) - 1 ≡ suc (length (r ∷ ps) - 1) = omega arith in
    ap (λ k. option_map (λ p. p.0) (slice_get (q ∷ r ∷ ps) k)) n ∙ last_key-get (r ∷ ps)

-- where keys ascend, each may stand after the pairs before it
pub comes_after-last_key : {A : Type 0} (done : List (List ℕ × A)) (p : List ℕ × A) (rest : List (List ℕ × A))
    → ascends (keys_of (done ++ p ∷ rest)) ≡ true → comes_after (last_key done) p.0 ≡ true
comes_after-last_key [] p rest h = refl
comes_after-last_key (q ∷ []) p rest h = (first_of_and (before q.0 p.0) (ascends (keys_of (p ∷ rest))) h).0
comes_after-last_key (q ∷ r ∷ done) p rest h =
    comes_after-last_key (r ∷ done) p rest (first_of_and (before q.0 r.0) (ascends (keys_of ((r ∷ done) ++ p ∷ rest))) h).1

-- no value of pairs is larger than the largest
pub pairs_most : (ps : List (List ℕ × Value)) (i : ℕ) (d : List ℕ × Value) → i < length ps → size-Value (get_or ps i d).1 ≤ most size-Value (map (λ p. p.1) ps)
pairs_most [] i d lt = absurd (omega arith)
pairs_most (p ∷ ps) zero d lt = omega arith
pairs_most (p ∷ ps) (suc i) d lt = let h : size-Value (get_or ps i d).1 ≤ most size-Value (map (λ p. p.1) ps) = pairs_most ps i d (omega arith) in omega arith

-- a pair of an ascending list may be pushed on those before it
pub comes_after-take : {A : Type 0} (ps : List (List ℕ × A)) (i : ℕ) (d : List ℕ × A) → i < length ps → ascends (keys_of ps) ≡ true
    → comes_after (last_key (take i ps)) (get_or ps i d).0 ≡ true
comes_after-take ps i d lt h =
    let split : take i ps ++ get_or ps i d ∷ drop (suc i) ps ≡ ps = ap (λ r. take i ps ++ r) (sym (drop-cons ps i d lt)) ∙ take-append-drop i ps in
    comes_after-last_key (take i ps) (get_or ps i d) (drop (suc i) ps) (ap (λ qs. ascends (keys_of qs)) split ∙ h)

-- and so may its key on copies of those before it
pub may_push : (ps copies : List (List ℕ × Value)) (i : ℕ) (d : List ℕ × Value) (name : List ℕ)
    → copies ≡ take i ps → name ≡ d.0 → d ≡ get_or ps i d → i < length ps → ascends (keys_of ps) ≡ true → comes_after (last_key copies) name ≡ true
may_push ps copies i d name e f is lt h =
    rw (e, f) (ap (λ (p : List ℕ × Value). comes_after (last_key (take i ps)) p.0) is ∙ comes_after-take ps i d lt h)
