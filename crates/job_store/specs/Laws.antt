-- What a job more and a return more mean for the outcomes that are found in a store.
use Rattle.std.specs.Prelude.{◌≡◌, ◌≢◌, ℕ, ◌<◌, IsFalse, List, Some, length, bytes_eq}
use Rattle.salt_value.specs.declared.outcome.Row.{Row}
use Rattle.salt_wire.specs.declared.message.Job.{Job}
use Rattle.job_store.specs.Store.{StoredJob, stored_jobs, stored_outcome, has_outcome, with_job, with_return}

-- a job more leaves every outcome as it was
abbrev pub KeepsOutcomes : Type 0
KeepsOutcomes = (store : List StoredJob) (job : Job) (seq : ℕ) (id : List ℕ) → stored_outcome (with_job job store) seq id ≡ stored_outcome store seq id

-- the first return of a job by a minion is found
abbrev pub FindsReturn : Type 0
FindsReturn = (store : List StoredJob) (seq : ℕ) (row : Row) → seq < length store → IsFalse (has_outcome store seq row.id)
    → stored_outcome (with_return seq row store) seq row.id ≡ Some row.outcome

-- a return leaves the outcomes of every other minion as they were
abbrev pub KeepsOtherMinions : Type 0
KeepsOtherMinions = (store : List StoredJob) (seq n : ℕ) (row : Row) (id : List ℕ) → IsFalse (bytes_eq id row.id)
    → stored_outcome (with_return seq row store) n id ≡ stored_outcome store n id

-- a return leaves the outcomes of every other job as they were
abbrev pub KeepsOtherJobs : Type 0
KeepsOtherJobs = (store : List StoredJob) (seq n : ℕ) (row : Row) (id : List ℕ) → n ≢ seq
    → stored_outcome (with_return seq row store) n id ≡ stored_outcome store n id

-- a return leaves the jobs as they were
abbrev pub KeepsJobs : Type 0
KeepsJobs = (store : List StoredJob) (seq : ℕ) (row : Row) → stored_jobs (with_return seq row store) ≡ stored_jobs store
