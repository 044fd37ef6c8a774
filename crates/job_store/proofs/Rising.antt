-- Jobs whose jids rise: one more, and what a search finds among them.
use Rattle.std.proofs.Common.{◌≡◌, ℕ, zero, suc, ◌-◌, ◌<◌, ◌≤◌, sym, ap, refl, Bool, true, false, List, [], ◌∷◌, ◌++◌, length, get_or, arith}
use Rattle.std.specs.Prelude.{None, Some, nat_lt, position, ◌==◌, ◌&&◌}
use Rattle.std.specs.List.{position_or_len, HoldsAt}
use Rattle.std.specs.List.Sorted.{IsNonDecreasingBy, IsPartitionPoint}
use Rattle.std.specs.Ordering.{nat_cmp, ordering_index}
use Rattle.std.specs.declared.cmp.Ordering.TheVariants.{Less, Equal, Greater}
use Rattle.std.proofs.lemmas.Bool.{lt-ltb, ltb-true}
use Rattle.std.proofs.lemmas.Bool.Decides.{nat_tests}
use Rattle.std.proofs.lemmas.Cmp.{ranked}
use Rattle.std.proofs.lemmas.Grind.{common_steps}
use Rattle.std.proofs.lemmas.List.Sorted.{IsNonDecreasingBy-from_default}
use Rattle.std.proofs.lemmas.List.Sums.{position_or_len_is}
use Rattle.salt_wire.specs.declared.message.Job.{Job}
use Rattle.minion_core.specs.Flat.{is_rising, is_rising_from, last_jid, is_later}

both : (a b : Bool) → (a && b) ≡ true → (a ≡ true) × (b ≡ true)
both true true e = (refl, refl)
both true false e = absurd cc
both false b e = absurd cc

last_more : (x y : Job) (xs : List Job) → last_jid (x ∷ y ∷ xs) ≡ last_jid (y ∷ xs)
last_more x y xs =
    let a : suc (suc (length xs)) - 1 ≡ suc (length xs) = omega arith in
    let b : suc (length xs) - 1 ≡ length xs = omega arith in
    rw (a, b) refl

and_true : (a b : Bool) → a ≡ true → b ≡ true → (a && b) ≡ true
and_true a b x y = rw (x, y) refl

rise_from : (x : Job) (xs : List Job) (y : Job) → is_rising_from x.jid xs ≡ true → is_later (x ∷ xs) y ≡ true → is_rising_from x.jid (xs ++ y ∷ []) ≡ true
rise_from x [] y e l = and_true (nat_lt x.jid y.jid) true l refl
rise_from x (z ∷ xs) y e l =
    let b = both (nat_lt x.jid z.jid) (is_rising_from z.jid xs) e in
    and_true (nat_lt x.jid z.jid) (is_rising_from z.jid (xs ++ y ∷ [])) b.0 (rise_from z xs y b.1 (rw (last_more x z xs) at l))

-- a later job goes on a rising list
pub rising_push : (xs : List Job) (y : Job) → is_rising xs ≡ true → is_later xs y ≡ true → is_rising (xs ++ y ∷ []) ≡ true
rising_push [] y e l = refl
rising_push (x ∷ xs) y e l = rise_from x xs y e l

-- each job of a rising list is above where it begins
above : (last : ℕ) (xs : List Job) → is_rising_from last xs ≡ true → (j : ℕ) (d : Job) → j < length xs → last < (get_or xs j d).jid
above last [] e j d l = absurd (omega arith)
above last (x ∷ xs) e zero d l = ltb-true last x.jid (both (nat_lt last x.jid) (is_rising_from x.jid xs) e).0
above last (x ∷ xs) e (suc j) d l =
    let b = both (nat_lt last x.jid) (is_rising_from x.jid xs) e in
    let first : last < x.jid = ltb-true last x.jid b.0 in
    let rest : x.jid < (get_or xs j d).jid = above x.jid xs b.1 j d (omega arith) in
    omega arith

apart_from : (last : ℕ) (xs : List Job) → is_rising_from last xs ≡ true → (i j : ℕ) (d : Job) → i < j → j < length xs → (get_or xs i d).jid < (get_or xs j d).jid
apart_from last [] e i j d lt l = absurd (omega arith)
apart_from last (x ∷ xs) e i zero d lt l = absurd (omega arith)
apart_from last (x ∷ xs) e zero (suc j) d lt l = above x.jid xs (both (nat_lt last x.jid) (is_rising_from x.jid xs) e).1 j d (omega arith)
apart_from last (x ∷ xs) e (suc i) (suc j) d lt l = apart_from x.jid xs (both (nat_lt last x.jid) (is_rising_from x.jid xs) e).1 i j d (omega arith) (omega arith)

-- an earlier job has a lesser jid
apart : (xs : List Job) → is_rising xs ≡ true → (i j : ℕ) (d : Job) → i < j → j < length xs → (get_or xs i d).jid < (get_or xs j d).jid
apart [] e i j d lt l = absurd (omega arith)
apart (x ∷ xs) e i zero d lt l = absurd (omega arith)
apart (x ∷ xs) e zero (suc j) d lt l = above x.jid xs e j d (omega arith)
apart (x ∷ xs) e (suc i) (suc j) d lt l = apart_from x.jid xs e i j d (omega arith) (omega arith)

differ_below : (a b : ℕ) → a < b → (a == b) ≡ false
differ_below a b l = grind (arith, nat_tests)

differ_above : (a b : ℕ) → b < a → (a == b) ≡ false
differ_above a b l = grind (arith, nat_tests)

same : (a b : ℕ) → a ≡ b → (a == b) ≡ true
same a b e = grind (arith, nat_tests)

cmp_rise : (a b k : ℕ) → a ≤ b → ordering_index (nat_cmp a k) ≤ ordering_index (nat_cmp b k)
cmp_rise a b k l = grind (arith, nat_tests)

place_some : {X : Type 0} (p : X → Bool) (xs : List X) (i : ℕ) → position_or_len p xs ≡ i → i < length xs → Some i ≡ position p xs
place_some p xs i e l = let inside = lt-ltb i (length xs) l in rw (e, inside) refl

place_none : {X : Type 0} (p : X → Bool) (xs : List X) → position_or_len p xs ≡ length xs → None ≡ position p xs
place_none p xs e = grind (arith, common_steps)

-- what is found among rising jobs is the place of the jid
pub found_at : (jobs : List Job) → is_rising jobs ≡ true → (jid at : ℕ) → at < length jobs → HoldsAt (λ job. nat_cmp job.jid jid ≡ Equal) jobs at
    → Some at ≡ position (λ job. job.jid == jid) jobs
found_at [] up jid at l equal = absurd (omega arith)
found_at (x ∷ xs) up jid at l equal =
    let here : (get_or (x ∷ xs) at x).jid ≡ jid = ranked _ jid Equal (sym (equal x)) in
    place_some (λ (job : Job). job.jid == jid) (x ∷ xs) at
    (position_or_len_is (λ (job : Job). job.jid == jid) (x ∷ xs) at x (omega arith)
    (λ k lt. differ_below _ jid (let lower = apart (x ∷ xs) up k at x lt l in omega arith))
    (λ h. same _ jid here)) l

comparisons_rise : (jobs : List Job) → is_rising jobs ≡ true → (jid : ℕ) → IsNonDecreasingBy (λ (job : Job). ordering_index (nat_cmp job.jid jid)) jobs
comparisons_rise [] up jid = λ i j d le l. absurd (omega arith)
comparisons_rise (x ∷ xs) up jid = IsNonDecreasingBy-from_default (λ (job : Job). ordering_index (nat_cmp job.jid jid)) (x ∷ xs) x (λ i j le l.
    cmp_rise _ _ jid (step i j le l))
  where
    step : (i j : ℕ) → i ≤ j → j < length (x ∷ xs) → (get_or (x ∷ xs) i x).jid ≤ (get_or (x ∷ xs) j x).jid
    step i j le l = grind (arith, apart (x ∷ xs) up i j x, λ (e : i ≡ j). ap (λ n. (get_or (x ∷ xs) n x).jid) e)

-- where there is a gap, no job has the jid
pub found_nowhere : (jobs : List Job) → is_rising jobs ≡ true → (jid at : ℕ)
    → (IsNonDecreasingBy (λ (job : Job). ordering_index (nat_cmp job.jid jid)) jobs → IsPartitionPoint (λ job. nat_cmp job.jid jid ≡ Less) (λ job. nat_cmp job.jid jid ≡ Greater) jobs at)
    → None ≡ position (λ job. job.jid == jid) jobs
found_nowhere [] up jid at parted = refl
found_nowhere (x ∷ xs) up jid at parted =
    place_none (λ (job : Job). job.jid == jid) (x ∷ xs)
    (position_or_len_is (λ (job : Job). job.jid == jid) (x ∷ xs) (length (x ∷ xs)) x (omega arith) (λ k l. misses k l) (λ h. absurd (omega arith)))
  where
    parts : IsPartitionPoint (λ job. nat_cmp job.jid jid ≡ Less) (λ job. nat_cmp job.jid jid ≡ Greater) (x ∷ xs) at
    parts = parted (comparisons_rise (x ∷ xs) up jid)

    below : (k : ℕ) → k < at → ((get_or (x ∷ xs) k x).jid == jid) ≡ false
    below k l = differ_below _ jid (ranked _ jid Less (sym (parts.0 k x (omega arith) l)))

    beyond : (k : ℕ) → at ≤ k → k < length (x ∷ xs) → ((get_or (x ∷ xs) k x).jid == jid) ≡ false
    beyond k le l = differ_above _ jid (ranked _ jid Greater (sym (parts.1 k x le l)))

    misses : (k : ℕ) → k < length (x ∷ xs) → ((get_or (x ∷ xs) k x).jid == jid) ≡ false
    misses k l = grind (arith, below k, beyond k)
