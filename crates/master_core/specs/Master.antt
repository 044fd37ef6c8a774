-- What a master keeps of its records: the jobs with their returns, and the log of each minion below it.
use Rattle.std.specs.Prelude.{◌<◌, ◌+◌, ◌^◌, ℕ, IsTrue, IsFalse, List, [], length, position, Option, is_some, bytes_eq}
use Rattle.std.specs.Option.{option_map_or}
use Rattle.salt_wire.specs.declared.message.Job.{Job}
use Rattle.salt_wire.specs.declared.message.Entry.{Entry}
use Rattle.salt_wire.specs.declared.message.Entry.TheVariants.{Return, Fired, Start, Mine}
use Rattle.salt_wire.specs.declared.deed.Deed.{Deed}
use Rattle.salt_wire.specs.declared.deed.Deed.TheVariants.{Publish, Up, Fire, React, Intake, Boot, Done}
use Rattle.salt_wire.specs.Limits.{EntryFits}
use Rattle.job_store.specs.Store.{StoredJob, is_later_in, has_outcome, with_job, with_return}
use Rattle.up_logs.specs.UpLogs.{log_at, with_entry, empty_logs}

-- what a master keeps: the ids of the minions below it in list order, its jobs, and the log of each of these minions
pub record MasterState : Type 0 where
  pub ids : List (List ℕ)
  pub store : List StoredJob
  pub logs : List (List Entry)

-- what a master of these minions keeps at first: no job, and for each minion an empty log
abbrev pub new_master : List (List ℕ) → MasterState
new_master ids = record { ids = ids; store = []; logs = empty_logs (length ids) }

-- the place of an id among these, from 0 on
abbrev pub place_in : List (List ℕ) → List ℕ → Option ℕ
place_in ids id = position (λ other. bytes_eq other id) ids

-- the log of the minion with this id, empty where that minion isn't below
abbrev pub log_of_id : List ℕ → MasterState → List Entry
log_of_id id s = option_map_or (log_at s.logs) (place_in s.ids id) []

-- the logs with an entry more at the end of that of the minion with this id
abbrev pub logs_after : List ℕ → Entry → MasterState → List (List Entry)
logs_after id entry s = option_map_or (λ place. with_entry place entry s.logs) (place_in s.ids id) s.logs

-- the store after an entry of the minion with this id: a return is put to its job, and another entry leaves the store
abbrev pub store_after : List ℕ → Entry → List StoredJob → List StoredJob
store_after id (Return seq outcome) store = with_return seq (record { id = id; outcome = outcome }) store
store_after id (Fired event) store = store
store_after id (Start boot) store = store
store_after id (Mine seq mine grains pillar) store = store

-- the state with a job more
abbrev pub master_with_job : Job → MasterState → MasterState
master_with_job job s = record s { store = with_job job s.store }

-- the state with an entry more of the minion with this id
abbrev pub master_with_entry : List ℕ → Entry → MasterState → MasterState
master_with_entry id entry s = record s { store = store_after id entry s.store; logs = logs_after id entry s }

-- the state after a record: a job more, an entry more of a minion below, or the same
abbrev pub master_after : Deed → MasterState → MasterState
master_after (Publish job) s = master_with_job job s
master_after (Intake job) s = master_with_job job s
master_after (Up minion entry) s = master_with_entry minion entry s
master_after (Fire event) s = s
master_after (React items) s = s
master_after Boot s = s
master_after (Done seq changed entries) s = s

-- a job that a store can take: it is later than the last one, and the store has fewer than 4,294,967,295 jobs
pub record IsNextJob (job : Job) (store : List StoredJob) : Type 0 where
  pub later : IsTrue (is_later_in store job)
  pub room : length store < 4294967295

-- a new return by the minion with this id: the store has a job with this number, and the minion has not returned it
pub record IsNewReturn (id : List ℕ) (seq : ℕ) (store : List StoredJob) : Type 0 where
  pub held : seq < length store
  pub first : IsFalse (has_outcome store seq id)

-- an entry of the minion with this id that is a new return, or no return
abbrev pub IsNewEntry : List ℕ → Entry → List StoredJob → Type 0
IsNewEntry id (Return seq outcome) store = IsNewReturn id seq store
IsNewEntry id (Fired event) store = Unit {0}
IsNewEntry id (Start boot) store = Unit {0}
IsNewEntry id (Mine seq mine grains pillar) store = Unit {0}

-- an entry that can be taken in: its minion is below, it is within the limits, its log has room, and it is no second return
pub record IsNextEntry (id : List ℕ) (entry : Entry) (s : MasterState) : Type 0 where
  pub below : IsTrue (is_some (place_in s.ids id))
  pub fits : EntryFits entry
  pub room : length (log_of_id id s) + 1 < 2 ^ 32
  pub new : IsNewEntry id entry s.store

-- a record that can be taken in: its job can be added, its entry can be taken in, or it has neither
abbrev pub IsRightFor : Deed → MasterState → Type 0
IsRightFor (Publish job) s = IsNextJob job s.store
IsRightFor (Intake job) s = IsNextJob job s.store
IsRightFor (Up minion entry) s = IsNextEntry minion entry s
IsRightFor (Fire event) s = Unit {0}
IsRightFor (React items) s = Unit {0}
IsRightFor Boot s = Unit {0}
IsRightFor (Done seq changed entries) s = Unit {0}
