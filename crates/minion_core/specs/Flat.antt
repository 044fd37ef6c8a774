-- What a minion makes of a job, and the flat minion: a fold over the list of jobs that knows no tree and no message.
use Rattle.std.specs.Prelude.{◌≡◌, ℕ, nat_lt, ◌&&◌, ◌+◌, ◌==◌, Bool, true, false, not, filter, flat_map, map, Option, None, Some, is_none, option_map, slice_get, length, ◌-◌, List, [], ◌∷◌, ◌++◌, if◌then◌else◌}
use Rattle.target_match.specs.Holds.{holds}
use Rattle.salt_value.specs.declared.outcome.Outcome.{Outcome}
use Rattle.salt_value.specs.declared.outcome.Row.{Row}
use Rattle.exec_functions.specs.declared.holdings.Holdings.{Holdings}
use Rattle.exec_functions.specs.declared.holdings.Change.{Change}
use Rattle.exec_functions.specs.declared.holdings.Change.TheVariants as c
use Rattle.exec_functions.specs.declared.holdings.Note.{Note}
use Rattle.exec_functions.specs.declared.holdings.Note.TheVariants as note
use Rattle.exec_functions.specs.declared.holdings.Ran.{Ran}
use Rattle.exec_functions.specs.Exec.{run, with_change}
use Rattle.salt_wire.specs.declared.message.Job.{Job}
use Rattle.salt_wire.specs.declared.message.Entry.{Entry}
use Rattle.salt_wire.specs.declared.message.Entry.TheVariants.{Return, Fired, Start, Mine}
use Rattle.salt_wire.specs.declared.deed.Changed.{Changed}
use Rattle.salt_wire.specs.declared.deed.Deed.{Deed}
use Rattle.salt_wire.specs.declared.deed.Deed.TheVariants.{Publish, Up, Fire, React, Intake, Boot, Done}

-- the target of a job holds for the minion with this id, by what it holds now
unfoldable pub does_hold : Job → List ℕ → Holdings → Bool
does_hold job id held = holds job.target id held.grains held.pillar

-- the entry of a note, after the change
abbrev pub entry_of : ℕ → Holdings → Note → Entry
entry_of seq held (note.Fired event) = Fired event
entry_of seq held note.Mine = Mine seq held.mine held.grains held.pillar

-- what a minion records of a change: what it holds after it, but for the pillar
abbrev pub changed_of : Change → Holdings → Option Changed
changed_of c.Nothing held = None
changed_of (c.Grains ps) held = Some (record { grains = ps; store = held.store; mine = held.mine })
changed_of (c.Store ps) held = Some (record { grains = held.grains; store = ps; mine = held.mine })
changed_of (c.Mine ps) held = Some (record { grains = held.grains; store = held.store; mine = ps })

-- what is held after this was recorded as changed
abbrev pub held_with : Option Changed → Holdings → Holdings
held_with None held = held
held_with (Some new) held = record held { grains = new.grains; store = new.store; mine = new.mine }

-- The entry of a note, where this was recorded as changed. No public contract cites it.
abbrev pub note_entry : ℕ → Option Changed → Holdings → Note → Entry
note_entry seq changed held note = entry_of seq (held_with changed held) note

-- The entries of notes, where this was recorded as changed. No public contract cites it.
abbrev pub note_entries : ℕ → Option Changed → Holdings → List Note → List Entry
note_entries seq changed held notes = map (entry_of seq (held_with changed held)) notes

-- the notes in order, and then the return
abbrev pub entries_by : ℕ → Holdings → Ran → List Entry
entries_by seq held ran = map (entry_of seq held) ran.notes ++ Return seq ran.outcome ∷ []

-- the record of a job that a minion ran, holding this
abbrev pub done_by : ℕ → Holdings → Ran → Deed
done_by seq held ran = Done seq (changed_of ran.change held) (entries_by seq (with_change ran.change held) ran)

-- what a minion records of a job that it runs
abbrev pub run_record : ℕ → Job → Holdings → Deed
run_record seq job held = done_by seq held (run job.fun job.args held)

-- what a minion records of a job, where it is known whether its target holds
abbrev pub record_if : Bool → ℕ → Job → Holdings → Deed
record_if holds seq job held = if holds then run_record seq job held else Done seq None []

-- what a minion records of a job: it runs it where its target holds
unfoldable pub job_record : ℕ → Job → List ℕ → Holdings → Deed
job_record seq job id held = record_if (does_hold job id held) seq job held

-- what is held after a record
abbrev pub held_after : Holdings → Deed → Holdings
held_after held (Publish job) = held
held_after held (Up minion entry) = held
held_after held (Fire event) = held
held_after held (React items) = held
held_after held (Intake job) = held
held_after held Boot = held
held_after held (Done seq changed entries) = held_with changed held

-- what is held after these records
abbrev pub held_by : Holdings → List Deed → Holdings
held_by held [] = held
held_by held (deed ∷ deeds) = held_by (held_after held deed) deeds

-- the records that the flat minion makes of these jobs, numbered from seq on
abbrev pub flat_records : ℕ → List ℕ → Holdings → List Job → List Deed
flat_records seq id held [] = []
flat_records seq id held (job ∷ jobs) = job_record seq job id held ∷ flat_records (seq + 1) id (held_after held (job_record seq job id held)) jobs

-- the entries that a record adds to its minion's own log, but for that of a start
abbrev pub entries_in : Deed → List Entry
entries_in (Publish job) = []
entries_in (Up minion entry) = []
entries_in (Fire event) = []
entries_in (React items) = []
entries_in (Intake job) = []
entries_in Boot = []
entries_in (Done seq changed entries) = entries

-- the entries of these records
abbrev pub flat_up : ℕ → List ℕ → Holdings → List Job → List Entry
flat_up seq id held jobs = flat_map entries_in (flat_records seq id held jobs)

-- what the flat minion holds after these jobs
abbrev pub flat_held : ℕ → List ℕ → Holdings → List Job → Holdings
flat_held seq id held jobs = held_by held (flat_records seq id held jobs)

-- an entry of a start
abbrev pub is_start : Entry → Bool
is_start (Return seq outcome) = false
is_start (Fired event) = false
is_start (Mine seq mine grains pillar) = false
is_start (Start boot) = true

-- a log without its starts
abbrev pub acts : List Entry → List Entry
acts log = filter (λ entry. not (is_start entry)) log

-- the outcome of the first return of a job
abbrev pub return_of : ℕ → List Entry → Option Outcome
return_of seq [] = None
return_of seq (Return n outcome ∷ entries) = if n == seq then Some outcome else return_of seq entries
return_of seq (Fired event ∷ entries) = return_of seq entries
return_of seq (Start boot ∷ entries) = return_of seq entries
return_of seq (Mine n mine grains pillar ∷ entries) = return_of seq entries

-- Of a minion with this id that begins with this: the return of a job is that of one step on what the jobs before it left, whatever comes
-- later.
abbrev pub GoesByStep : List ℕ → Holdings → Type 0
GoesByStep id held = (before : List Job) (job : Job) (later : List Job)
    → return_of (length before) (flat_up 0 id held (before ++ job ∷ later))
    ≡ return_of (length before) (entries_in (job_record (length before) job id (flat_held 0 id held before)))

-- the jids of these jobs rise strictly, from after the last one
abbrev pub is_rising_from : ℕ → List Job → Bool
is_rising_from last [] = true
is_rising_from last (job ∷ jobs) = nat_lt last job.jid && is_rising_from job.jid jobs

-- the jids of these jobs rise strictly
abbrev pub is_rising : List Job → Bool
is_rising [] = true
is_rising (job ∷ jobs) = is_rising_from job.jid jobs

-- the jid of the last job
abbrev pub last_jid : List Job → Option ℕ
last_jid jobs = option_map (λ job. job.jid) (slice_get jobs (length jobs - 1))

-- a jid is later than the last one, if there is one
abbrev pub is_after : Option ℕ → ℕ → Bool
is_after None jid = true
is_after (Some last) jid = nat_lt last jid

-- a job is later than the last of these
abbrev pub is_later : List Job → Job → Bool
is_later jobs job = is_after (last_jid jobs) job.jid

-- an entry is no second return of one job
abbrev pub is_first : Entry → List Entry → Bool
is_first (Return seq outcome) log = is_none (return_of seq log)
is_first (Fired event) log = true
is_first (Start boot) log = true
is_first (Mine seq mine grains pillar) log = true

-- the row of a minion, if it returned
abbrev pub row_of : List ℕ → Option Outcome → Option Row
row_of id outcome = option_map (λ o. record { id = id; outcome = o }) outcome
