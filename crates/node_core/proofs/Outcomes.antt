-- The outcomes that a log and a store have with an entry more.
use Rattle.std.proofs.Common.{◌≡◌, ℕ, ◌<◌, ◌==◌, ◌∙◌, sym, ap, refl, subst, inl, inr, Bool, true, false, List, [], ◌∷◌, ◌++◌, length, Option, None, Some, bytes_eq, if◌then◌else◌}
use Rattle.std.specs.Prelude.{is_some, is_none}
use Rattle.std.proofs.lemmas.Bool.Decides.{eqb_tells}
use Rattle.std.proofs.lemmas.Bool.{ltb-true}
use Rattle.std.proofs.lemmas.Slice.Eq.{bytes_eq-Decides}
use Rattle.salt_value.specs.declared.outcome.Outcome.{Outcome}
use Rattle.salt_value.specs.declared.outcome.Row.{Row}
use Rattle.salt_wire.specs.declared.message.Entry.{Entry}
use Rattle.salt_wire.specs.declared.message.Entry.TheVariants.{Return, Fired, Start, Mine}
use Rattle.minion_core.specs.Flat.{return_of, is_first}
use Rattle.job_store.specs.Store.{StoredJob, stored_outcome, has_outcome, with_return}
use Rattle.job_store.specs.Laws.{FindsReturn, KeepsOtherMinions, KeepsOtherJobs}
use Rattle.master_core.specs.Master.{store_after, IsNewEntry}
use Rattle.node_core.specs.Node.{names_held}

-- a log with an entry more that is no return of the job
pub return_other : (n : ℕ) (l : List Entry) (entry : Entry) → return_of n (entry ∷ []) ≡ None → return_of n (l ++ entry ∷ []) ≡ return_of n l
return_other n [] entry none = none
return_other n (Return m o ∷ l) entry none = ap (λ r. if m == n then Some o else r) (return_other n l entry none)
return_other n (Fired event ∷ l) entry none = return_other n l entry none
return_other n (Start boot ∷ l) entry none = return_other n l entry none
return_other n (Mine m mine grains pillar ∷ l) entry none = return_other n l entry none

passed_by : (t : Bool) (o : Outcome) (rest : Option Outcome) → (if t then Some o else rest) ≡ None → (t ≡ false) × (rest ≡ None)
passed_by true o rest e = absurd cc
passed_by false o rest e = (refl, e)

-- a log with the first return of the job more
pub return_first : (n : ℕ) (l : List Entry) (o : Outcome) → return_of n l ≡ None → return_of n (l ++ Return n o ∷ []) ≡ Some o
return_first n [] o none = elim (eqb_tells n n) [
  | inl y ↦ rw (y.0) refl
  | inr y ↦ absurd (y.1 refl)
]
return_first n (Return m p ∷ l) o none =
    let passed = passed_by (m == n) p (return_of n l) none in
    rw (passed.0) (return_first n l o passed.1)
return_first n (Fired event ∷ l) o none = return_first n l o none
return_first n (Start boot ∷ l) o none = return_first n l o none
return_first n (Mine m mine grains pillar ∷ l) o none = return_first n l o none

-- the return of another job
pub return_differs : (n m : ℕ) (o : Outcome) → (n ≡ m → ⊥) → return_of n (Return m o ∷ []) ≡ None
return_differs n m o apart = elim (eqb_tells m n) [
  | inl y ↦ absurd (apart (sym y.1))
  | inr y ↦ rw (y.0) refl
]

none_is : (o : Option Outcome) → is_some o ≡ false → o ≡ None
none_is None e = refl
none_is (Some x) e = absurd cc

apart_back : (a b : List ℕ) → bytes_eq a b ≡ false → (t : Bool) → bytes_eq b a ≡ t → bytes_eq b a ≡ false
apart_back a b h false e = e
apart_back a b h true e =
    let yes : bytes_eq a b ≡ true = (bytes_eq-Decides a b).1 (sym ((bytes_eq-Decides b a).0 e)) in
    let wrong : true ≡ false = sym yes ∙ h in
    absurd (cc)

-- the outcomes of a store and of the logs agree, of each job and each minion
abbrev pub Agree : List StoredJob → (List ℕ → List Entry) → Type 0
Agree store log_of = (seq : ℕ) (id : List ℕ) → stored_outcome store seq id ≡ return_of seq (log_of id)

module _ (finds : FindsReturn) (minions : KeepsOtherMinions) (others : KeepsOtherJobs) where
  return_agrees : (store : List StoredJob) (seq : ℕ) (minion : List ℕ) (o : Outcome) (l : List Entry) → seq < length store
      → has_outcome store seq minion ≡ false → ((n : ℕ) → stored_outcome store n minion ≡ return_of n l)
      → (n : ℕ) → stored_outcome (with_return seq (record { id = minion; outcome = o }) store) n minion ≡ return_of n (l ++ Return seq o ∷ [])
  return_agrees store seq minion o l held first agree n =
      let row : Row = record { id = minion; outcome = o } in
      elim (eqb_tells n seq) [
        | inl y ↦
            let none : return_of seq l ≡ None = sym (agree seq) ∙ none_is (stored_outcome store seq minion) first in
            subst (λ k. stored_outcome (with_return seq row store) k minion ≡ return_of k (l ++ Return seq o ∷ [])) (sym y.1)
            (finds store seq row held first ∙ sym (return_first seq l o none))
        | inr y ↦
            others store seq n row minion y.1 ∙ agree n
            ∙ sym (return_other n l (Return seq o) (return_differs n seq o y.1))
      ]

  either_agrees : (store : List StoredJob) (seq : ℕ) (minion id : List ℕ) (o : Outcome) (log_of : List ℕ → List Entry) → seq < length store
      → has_outcome store seq minion ≡ false → Agree store log_of → (n : ℕ) (t : Bool) → bytes_eq minion id ≡ t
      → stored_outcome (with_return seq (record { id = minion; outcome = o }) store) n id
      ≡ return_of n (if bytes_eq minion id then log_of id ++ Return seq o ∷ [] else log_of id)
  either_agrees store seq minion id o log_of held first agree n true e =
      let same : minion ≡ id = (bytes_eq-Decides minion id).0 e in
      let row : Row = record { id = minion; outcome = o } in
      rw e (subst (λ i. stored_outcome (with_return seq row store) n i ≡ return_of n (log_of i ++ Return seq o ∷ [])) same
      (return_agrees store seq minion o (log_of minion) held first (λ k. agree k minion) n))
  either_agrees store seq minion id o log_of held first agree n false e =
      let row : Row = record { id = minion; outcome = o } in
      rw e (minions store seq n row id (apart_back minion id e (bytes_eq id minion) refl) ∙ agree n id)

  passes : (store : List StoredJob) (minion : List ℕ) (entry : Entry) (log_of : List ℕ → List Entry) → ((n : ℕ) → return_of n (entry ∷ []) ≡ None)
      → Agree store log_of → (n : ℕ) (id : List ℕ) (t : Bool)
      → stored_outcome store n id ≡ return_of n (if t then log_of id ++ entry ∷ [] else log_of id)
  passes store minion entry log_of none agree n id true = agree n id ∙ sym (return_other n (log_of id) entry (none n))
  passes store minion entry log_of none agree n id false = agree n id

  -- an entry more in a log and in the store
  pub agrees_after : (store : List StoredJob) (minion : List ℕ) (entry : Entry) (log_of : List ℕ → List Entry) → IsNewEntry minion entry store
      → Agree store log_of → Agree (store_after minion entry store) (λ id. if bytes_eq minion id then log_of id ++ entry ∷ [] else log_of id)
  agrees_after store minion (Return seq o) log_of new agree = λ n id. either_agrees store seq minion id o log_of new.held new.first agree n (bytes_eq minion id) refl
  agrees_after store minion (Fired event) log_of new agree = λ n id. passes store minion (Fired event) log_of (λ k. refl) agree n id (bytes_eq minion id)
  agrees_after store minion (Start boot) log_of new agree = λ n id. passes store minion (Start boot) log_of (λ k. refl) agree n id (bytes_eq minion id)
  agrees_after store minion (Mine seq mine grains pillar) log_of new agree = λ n id. passes store minion (Mine seq mine grains pillar) log_of (λ k. refl) agree n id (bytes_eq minion id)

not_there : (r s : Option Outcome) → s ≡ r → is_none r ≡ true → is_some s ≡ false
not_there None s e h = ap is_some e
not_there (Some o) s e h = absurd cc

-- an entry that may be recorded is a new one of a store that agrees with its minion's log
pub new_entry : (store : List StoredJob) (minion : List ℕ) (entry : Entry) (l : List Entry) (held : ℕ) → held ≡ length store
    → ((n : ℕ) → stored_outcome store n minion ≡ return_of n l) → names_held held entry ≡ true → is_first entry l ≡ true → IsNewEntry minion entry store
new_entry store minion (Return seq o) l held same agree named first =
    record { held = subst (λ n. seq < n) same (ltb-true seq held named); first = not_there (return_of seq l) (stored_outcome store seq minion) (agree seq) first }
new_entry store minion (Fired event) l held same agree named first = tt
new_entry store minion (Start boot) l held same agree named first = tt
new_entry store minion (Mine seq mine grains pillar) l held same agree named first = tt
