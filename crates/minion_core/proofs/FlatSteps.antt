-- The flat minion, job by job.
use Rattle.std.proofs.Common.{◌≡◌, ◌≢◌, ℕ, ◌+◌, suc, ◌∙◌, sym, ap, refl, inl, inr, List, [], ◌∷◌, ◌++◌, length, arith}
use Rattle.std.specs.Prelude.{None, Some}
use Rattle.std.specs.List.{AllByRecursion}
use Rattle.std.proofs.lemmas.Bool.Decides.{eqb_tells}
use Rattle.std.specs.Prelude.{◌==◌, if◌then◌else◌}
use Rattle.exec_functions.specs.declared.holdings.Holdings.{Holdings}
use Rattle.salt_wire.specs.declared.message.Job.{Job}
use Rattle.salt_wire.specs.declared.message.Entry.{Entry}
use Rattle.salt_wire.specs.declared.message.Entry.TheVariants.{Return, Fired, Start, Mine}
use Rattle.salt_wire.specs.declared.deed.Deed.{Deed}
use Rattle.minion_core.specs.Flat.{job_record, held_after, held_by, entries_in, flat_records, flat_up, flat_held, return_of}
use Rattle.minion_core.proofs.Own.{IsOwn, IsDone, done_is, entries_are, return_none, return_late}

-- a return stands in the first of two lists, where it does not stand in the second
return_front : (k : ℕ) (xs ys : List Entry) → return_of k ys ≡ None → return_of k (xs ++ ys) ≡ return_of k xs
return_front k [] ys e = e
return_front k (Return n o ∷ xs) ys e = ap (λ r. if n == k then Some o else r) (return_front k xs ys e)
return_front k (Fired x ∷ xs) ys e = return_front k xs ys e
return_front k (Start b ∷ xs) ys e = return_front k xs ys e
return_front k (Mine n m g p ∷ xs) ys e = return_front k xs ys e

other_own : (k seq : ℕ) (es : List Entry) → k ≢ seq → AllByRecursion (IsOwn seq) es → return_of k es ≡ None
other_own k seq [] ne h = refl
other_own k seq (Return n o ∷ es) ne h = elim (eqb_tells n k) [
  | inl y ↦ absurd (ne (sym y.1 ∙ h.0))
  | inr y ↦ rw y.0 (other_own k seq es ne h.1)
]
other_own k seq (Fired x ∷ es) ne h = other_own k seq es ne h.1
other_own k seq (Start b ∷ es) ne h = absurd h.0
other_own k seq (Mine n m g p ∷ es) ne h = other_own k seq es ne h.1

other_done : (k seq : ℕ) (d : Deed) → k ≢ seq → IsDone seq d → return_of k (entries_in d) ≡ None
other_done k seq d ne h = rw (entries_are seq d h) (other_own k seq h.entries ne h.own)

-- the return of a job is that of one step on what the jobs before it left, whatever comes later
pub step_from : (k : ℕ) (id : List ℕ) (h : Holdings) (xs : List Job) (job : Job) (ys : List Job)
    → return_of (k + length xs) (flat_up k id h (xs ++ job ∷ ys)) ≡ return_of (k + length xs) (entries_in (job_record (k + length xs) job id (flat_held k id h xs)))
step_from k id h [] job ys =
    let e : k + 0 ≡ k = omega arith in
    rw e (return_front k (entries_in (job_record k job id h)) (flat_up (k + 1) id (held_after h (job_record k job id h)) ys) (return_late k (k + 1) id (held_after h (job_record k job id h)) ys (omega arith)))
step_from k id h (x ∷ xs) job ys =
    let d : Deed = job_record k x id h in
    let e : k + suc (length xs) ≡ k + 1 + length xs = omega arith in
    rw e (return_none (k + 1 + length xs) (entries_in d) (flat_up (k + 1) id (held_after h d) (xs ++ job ∷ ys)) (other_done (k + 1 + length xs) k d (λ q. omega arith) (done_is k x id h))
    ∙ step_from (k + 1) id (held_after h d) xs job ys)

-- the records of the flat minion with a job more
pub flat_push : (k : ℕ) (id : List ℕ) (h : Holdings) (xs : List Job) (j : Job)
    → flat_records k id h (xs ++ j ∷ []) ≡ flat_records k id h xs ++ job_record (k + length xs) j id (held_by h (flat_records k id h xs)) ∷ []
flat_push k id h [] j = let e : k ≡ k + 0 = omega arith in rw (← e) refl
flat_push k id h (x ∷ xs) j =
    let e : k + suc (length xs) ≡ k + 1 + length xs = omega arith in
    rw (flat_push (k + 1) id (held_after h (job_record k x id h)) xs j, e) refl
