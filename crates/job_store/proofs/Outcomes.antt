-- What is found in a store with a job or a return more.
use Rattle.std.proofs.Common.{◌≡◌, ℕ, zero, suc, ◌∙◌, ap, refl, Bool, true, false, cond, List, [], ◌∷◌, ◌++◌, Option, None, Some, slice_get, bytes_eq, arith}
use Rattle.std.specs.Prelude.{slice_set, is_some}
use Rattle.std.specs.Option.{option_map_or}
use Rattle.std.specs.Map.{lookup}
use Rattle.std.proofs.lemmas.Slice.Eq.{bytes_eq-Decides}
use Rattle.salt_value.specs.declared.outcome.Outcome.{Outcome}
use Rattle.salt_value.specs.declared.outcome.Row.{Row}
use Rattle.salt_wire.specs.declared.message.Job.{Job}
use Rattle.job_store.specs.Store.{StoredJob, stored_jobs, stored_outcome, with_row, with_return}
use Rattle.job_store.specs.Laws.{KeepsOutcomes, FindsReturn, KeepsOtherMinions, KeepsOtherJobs, KeepsJobs}

-- a job more
pub keeps_outcomes : KeepsOutcomes
keeps_outcomes [] job zero id = refl
keeps_outcomes [] job (suc n) id = refl
keeps_outcomes (stored ∷ store) job zero id = refl
keeps_outcomes (stored ∷ store) job (suc n) id = keeps_outcomes store job n id

-- the return of a job that is not the first one
deeper : (first : StoredJob) (rest : List StoredJob) (i : ℕ) (row : Row) (o : Option StoredJob)
    → option_map_or (λ (stored : StoredJob). slice_set (first ∷ rest) (suc i) (with_row row stored)) o (first ∷ rest)
    ≡ first ∷ option_map_or (λ (stored : StoredJob). slice_set rest i (with_row row stored)) o rest
deeper first rest i row None = refl
deeper first rest i row (Some stored) = refl

later_return : (first : StoredJob) (rest : List StoredJob) (i : ℕ) (row : Row) → with_return (suc i) row (first ∷ rest) ≡ first ∷ with_return i row rest
later_return first rest i row = deeper first rest i row (slice_get rest i)

not_some : (b : Bool) (v : Outcome) (o : Option Outcome) → is_some (cond b (Some v) o) ≡ false → (b ≡ false) × (is_some o ≡ false)
not_some true v o h = absurd cc
not_some false v o h = (refl, h)

found_last : (k : List ℕ) (v : Outcome) (es : List (List ℕ × Outcome)) → is_some (lookup (bytes_eq k) es) ≡ false → lookup (bytes_eq k) (es ++ (k, v) ∷ []) ≡ Some v
found_last k v [] h = ap (λ (b : Bool). cond b (Some v) None) ((bytes_eq-Decides k k).1 refl)
found_last k v (e ∷ es) h =
    let told = not_some (bytes_eq k e.0) e.1 (lookup (bytes_eq k) es) h in
    ap (λ (b : Bool). cond b (Some e.1) (lookup (bytes_eq k) (es ++ (k, v) ∷ []))) told.0 ∙ found_last k v es told.1

-- the first return of a job by a minion
pub finds_return : FindsReturn
finds_return [] seq row l none = absurd (omega arith)
finds_return (stored ∷ store) zero row l none = found_last row.id row.outcome stored.returns none
finds_return (stored ∷ store) (suc i) row l none =
    ap (λ (s : List StoredJob). stored_outcome s (suc i) row.id) (later_return stored store i row) ∙ finds_return store i row (omega arith) none

passes_last : (id k : List ℕ) (v : Outcome) (es : List (List ℕ × Outcome)) → bytes_eq id k ≡ false → lookup (bytes_eq id) (es ++ (k, v) ∷ []) ≡ lookup (bytes_eq id) es
passes_last id k v [] h = ap (λ (b : Bool). cond b (Some v) None) h
passes_last id k v (e ∷ es) h = ap (λ (o : Option Outcome). cond (bytes_eq id e.0) (Some e.1) o) (passes_last id k v es h)

-- every other minion
pub keeps_other_minions : KeepsOtherMinions
keeps_other_minions [] seq n row id h = refl
keeps_other_minions (stored ∷ store) zero zero row id h = passes_last id row.id row.outcome stored.returns h
keeps_other_minions (stored ∷ store) zero (suc n) row id h = refl
keeps_other_minions (stored ∷ store) (suc i) zero row id h = ap (λ (s : List StoredJob). stored_outcome s zero id) (later_return stored store i row)
keeps_other_minions (stored ∷ store) (suc i) (suc n) row id h =
    ap (λ (s : List StoredJob). stored_outcome s (suc n) id) (later_return stored store i row) ∙ keeps_other_minions store i n row id h

-- every other job
pub keeps_other_jobs : KeepsOtherJobs
keeps_other_jobs [] seq n row id h = refl
keeps_other_jobs (stored ∷ store) zero zero row id h = absurd (h refl)
keeps_other_jobs (stored ∷ store) zero (suc n) row id h = refl
keeps_other_jobs (stored ∷ store) (suc i) zero row id h = ap (λ (s : List StoredJob). stored_outcome s zero id) (later_return stored store i row)
keeps_other_jobs (stored ∷ store) (suc i) (suc n) row id h =
    ap (λ (s : List StoredJob). stored_outcome s (suc n) id) (later_return stored store i row)
    ∙ keeps_other_jobs store i n row id (λ (e : n ≡ i). h (ap suc e))

-- the jobs
pub keeps_jobs : KeepsJobs
keeps_jobs [] seq row = refl
keeps_jobs (stored ∷ store) zero row = refl
keeps_jobs (stored ∷ store) (suc i) row =
    ap (λ (s : List StoredJob). stored_jobs s) (later_return stored store i row) ∙ ap (λ (js : List Job). stored.job ∷ js) (keeps_jobs store i row)
