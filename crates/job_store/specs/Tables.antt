-- What a store keeps: the jobs, and for each a table of its returns.
use Rattle.std.specs.Prelude.{◌≡◌, ℕ, ◌<◌, ◌^◌, IsTrue, List, [], ◌∷◌, ◌++◌, length, map, zip, bytes_eq}
use Rattle.std.specs.List.{AllByRecursion}
use Rattle.std.specs.declared.vec.Vec.{Vec}
use Rattle.indexmap.specs.IndexMap.{IndexMap, IsUnique}
use Rattle.salt_value.specs.declared.outcome.Outcome.{Outcome}
use Rattle.salt_wire.specs.declared.message.Job.{Job}
use Rattle.minion_core.specs.Flat.{is_rising}
use Rattle.job_store.specs.Store.{StoredJob, with_job}

-- A table of a job's returns: the outcome of each minion. No public contract cites it.
abbrev pub ReturnTable : Type 0 → Type 0
ReturnTable S = IndexMap (List ℕ) Outcome S

-- A job and the entries of its table. No public contract cites it.
abbrev pub stored_with : {S : Type 0} → Job × ReturnTable S → StoredJob
stored_with p = record { job = p.0; returns = p.1.entries }

-- The store of these jobs and their tables. No public contract cites it.
abbrev pub store_of : {S : Type 0} → List Job → List (ReturnTable S) → List StoredJob
store_of jobs tables = map stored_with (zip jobs tables)

-- Each job has a table, the jids rise strictly, the jobs are counted in 32 bits, and no table has an id twice. No public contract cites it.
pub record AreStored {S : Type 0} (jobs : List Job) (tables : List (ReturnTable S)) : Type 0 where
  pub paired : length tables ≡ length jobs
  pub rising : IsTrue (is_rising jobs)
  pub few : length jobs < 2 ^ 32
  pub once : AllByRecursion (λ table. IsUnique bytes_eq table) tables

-- There is an empty table more, after the others. No public contract cites it.
abbrev pub HasEmptyMore : {S : Type 0} → List (ReturnTable S) → List (ReturnTable S) → Type 0
HasEmptyMore {S} old new = (table : ReturnTable S) × (new ≡ old ++ table ∷ []) × (table.entries ≡ [])

-- The new jobs and tables are a store with this job more than the old ones. No public contract cites it.
abbrev pub HasJobMore : {S Z Y : Type 0} → Job → Vec Job Z → Vec (ReturnTable S) Y → Vec Job Z → Vec (ReturnTable S) Y → Type 0
HasJobMore job jobs tables new_jobs new_tables = store_of new_jobs.items new_tables.items ≡ with_job job (store_of jobs.items tables.items)

-- The new jobs and tables are the store that the old ones are. No public contract cites it.
abbrev pub KeepsStore : {S Z Y : Type 0} → Vec Job Z → Vec (ReturnTable S) Y → Vec Job Z → Vec (ReturnTable S) Y → Type 0
KeepsStore jobs tables new_jobs new_tables = store_of new_jobs.items new_tables.items ≡ store_of jobs.items tables.items
