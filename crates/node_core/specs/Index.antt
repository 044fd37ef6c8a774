-- What a node has in memory of its records, as a minion or as a master. No public contract cites these, but for `IsStoreOf`.
use Rattle.std.specs.Prelude.{ℕ, ◌≡◌, ◌+◌, ◌*◌, ◌<◌, ◌≤◌, ◌^◌, Bool, true, false, List, [], length, All, Option, None, Some, if◌then◌else◌}
use Rattle.std.specs.List.{sum_by}
use Rattle.fleet_config.specs.Limits.{most_jobs}
use Rattle.fleet_config.specs.Tree.{Tree, is_minion, minions, ids_below}
use Rattle.exec_functions.specs.declared.holdings.Holdings.{Holdings}
use Rattle.exec_functions.specs.Limits.{no_holdings}
use Rattle.salt_value.specs.declared.outcome.Outcome.{Outcome}
use Rattle.salt_wire.specs.Limits.{JobFits}
use Rattle.salt_wire.specs.declared.message.Job.{Job}
use Rattle.salt_wire.specs.declared.message.Entry.{Entry}
use Rattle.salt_wire.specs.declared.deed.Deed.{Deed}
use Rattle.salt_wire.specs.declared.deed.Deed.TheVariants.{Publish, Intake, Up, Fire, React, Boot, Done}
use Rattle.minion_core.specs.Flat.{return_of}
use Rattle.minion_core.specs.Core.{CoreState}
use Rattle.job_store.specs.Store.{StoredJob, stored_jobs, stored_outcome}
use Rattle.master_core.specs.Master.{MasterState, log_of_id}
use Rattle.node_core.specs.declared.cores.Core.{Core}
use Rattle.node_core.specs.declared.cores.Core.TheVariants.{Minion, Master}
use Rattle.node_core.specs.Records.{jobs, jobs_held, log}
use Rattle.node_core.specs.NextRecords.{most_own_entries, AreRecordsAt}

-- the core is that of a minion
abbrev pub is_minion_core : Core → Bool
is_minion_core (Minion core) = true
is_minion_core (Master core) = false

-- what a node with this core holds
abbrev pub held_in : Core → Holdings
held_in (Minion core) = core.held
held_in (Master core) = no_holdings

-- what a minion holds; none of a master
abbrev pub holdings_in : Core → Option Holdings
holdings_in core = if is_minion_core core then Some (held_in core) else None

-- what a master keeps of its jobs
abbrev pub store_in : Core → Option (List StoredJob)
store_in (Minion core) = None
store_in (Master core) = Some core.store

-- how many jobs a node with this core holds
abbrev pub job_count_in : Core → ℕ
job_count_in (Minion core) = core.jobs
job_count_in (Master core) = length core.store

-- the log that a node with this core has of the minion with this id; a minion has its own alone
abbrev pub entries_in_core : Core → List ℕ → List Entry
entries_in_core (Minion core) id = core.log
entries_in_core (Master core) id = log_of_id id core

-- the outcome of a job that a node with this core has of the minion with this id
abbrev pub outcome_in_core : Core → ℕ → List ℕ → Option Outcome
outcome_in_core (Minion core) seq id = return_of seq core.log
outcome_in_core (Master core) seq id = stored_outcome core.store seq id

-- a store has the jobs of these records in order, and of each minion the outcome of its first return
pub record IsStoreOf (records : List Deed) (store : List StoredJob) : Type 0 where
  pub jobs : stored_jobs store ≡ jobs records
  pub outcomes : (seq : ℕ) (id : List ℕ) → stored_outcome store seq id ≡ return_of seq (log id records)

-- how many starts a record is
abbrev pub boots_in : Deed → ℕ
boots_in (Publish job) = 0
boots_in (Intake job) = 0
boots_in (Up minion entry) = 0
boots_in (Fire event) = 0
boots_in (React items) = 0
boots_in Boot = 1
boots_in (Done seq changed entries) = 0

-- how often a minion with these records started
abbrev pub boot_count : List Deed → ℕ
boot_count records = sum_by boots_in records

-- a minion lists no job, and its own log has an entry for each start, and room for two entries of each job that it may run yet
pub record IsMinionIndex (records : List Deed) (core : CoreState) : Type 0 where
  pub listed : jobs records ≡ []
  pub boots : core.boots ≡ boot_count records
  pub booted : core.boots ≤ length core.log
  pub short : length core.log ≤ 2 * core.jobs + most_own_entries

-- a master has a log for each minion below it, and its jobs with their outcomes as its records say
pub record IsMasterIndex (t : Tree) (me : ℕ) (records : List Deed) (core : MasterState) : Type 0 where
  pub ids : core.ids ≡ ids_below t me
  pub paired : length core.logs ≡ length core.ids
  pub stored : IsStoreOf records core.store

-- the core is what a minion or a master has of these records
abbrev pub IsCoreIndex : Tree → ℕ → List Deed → Core → Type 0
IsCoreIndex t me records (Minion core) = IsMinionIndex records core
IsCoreIndex t me records (Master core) = IsMasterIndex t me records core

-- what a node at a place keeps beside its records is what they say, each count is a u32, and all is within the limits of messages
pub record IsIndex (t : Tree) (me : ℕ) (places : List ℕ) (records : List Deed) (core : Core) : Type 0 where
  pub place : me < length t
  pub below : places ≡ minions t me
  pub within : All (λ m. m < length t) places
  pub role : is_minion_core core ≡ is_minion t me
  pub counted : job_count_in core ≡ jobs_held records
  pub few_jobs : job_count_in core ≤ most_jobs
  pub jobs_fit : All JobFits (jobs records)
  pub logged : (id : List ℕ) → entries_in_core core id ≡ log id records
  pub short : (id : List ℕ) → length (entries_in_core core id) < 2 ^ 32
  pub kept : IsCoreIndex t me records core
  pub right : AreRecordsAt t me records

-- a record that adds one job at a master
abbrev pub IsJobRecord : Deed → Job → Type 0
IsJobRecord (Publish job) added = job ≡ added
IsJobRecord (Intake job) added = job ≡ added
IsJobRecord (Up minion entry) added = ⊥
IsJobRecord (Fire event) added = ⊥
IsJobRecord (React items) added = ⊥
IsJobRecord Boot added = ⊥
IsJobRecord (Done seq changed entries) added = ⊥
