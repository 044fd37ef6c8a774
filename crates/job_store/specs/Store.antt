-- A store of jobs: each job in order, with what the minions returned of it.
use Rattle.std.specs.Prelude.{ℕ, Bool, List, [], ◌∷◌, ◌++◌, map, Option, None, is_some, slice_get, slice_set, bytes_eq}
use Rattle.std.specs.Option.{option_map_or}
use Rattle.std.specs.List.{AllByRecursion, IsDistinct}
use Rattle.std.specs.Map.{keys_of, lookup}
use Rattle.salt_value.specs.declared.outcome.Outcome.{Outcome}
use Rattle.salt_value.specs.declared.outcome.Row.{Row}
use Rattle.salt_wire.specs.declared.message.Job.{Job}
use Rattle.minion_core.specs.Flat.{is_later}

-- a job, and the outcome of each minion that returned it, in the order in which they came
pub record StoredJob : Type 0 where
  pub job : Job
  pub returns : List (List ℕ × Outcome)

-- the jobs of a store, in order
abbrev pub stored_jobs : List StoredJob → List Job
stored_jobs store = map (λ stored. stored.job) store

-- a job is later than the last one of a store
abbrev pub is_later_in : List StoredJob → Job → Bool
is_later_in store job = is_later (stored_jobs store) job

-- no minion has returned a job twice
abbrev pub ReturnOnce : List StoredJob → Type 0
ReturnOnce store = AllByRecursion (λ stored. IsDistinct bytes_eq (keys_of stored.returns)) store

-- what this minion returned of a stored job
abbrev pub outcome_in : List ℕ → StoredJob → Option Outcome
outcome_in id stored = lookup (bytes_eq id) stored.returns

-- what this minion returned of the job with this number, none where there is no such job
abbrev pub stored_outcome : List StoredJob → ℕ → List ℕ → Option Outcome
stored_outcome store seq id = option_map_or (outcome_in id) (slice_get store seq) None

-- this minion has returned the job with this number
abbrev pub has_outcome : List StoredJob → ℕ → List ℕ → Bool
has_outcome store seq id = is_some (stored_outcome store seq id)

-- the store with a job more, without a return
abbrev pub with_job : Job → List StoredJob → List StoredJob
with_job job store = store ++ record { job = job; returns = [] } ∷ []

-- the stored job with a return after those that came before
abbrev pub with_row : Row → StoredJob → StoredJob
with_row row stored = record stored { returns = stored.returns ++ (row.id, row.outcome) ∷ [] }

-- the store with the return of a row's minion for the job with this number, after those that came before
abbrev pub with_return : ℕ → Row → List StoredJob → List StoredJob
with_return seq row store = option_map_or (λ stored. slice_set store seq (with_row row stored)) (slice_get store seq) store
