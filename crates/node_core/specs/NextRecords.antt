-- Which record a node may add next, by its role and the records so far, and which one a message adds.
use Rattle.std.specs.Prelude.{ℕ, ◌≡◌, ◌+◌, ◌==◌, nat_lt, nat_le, ◌&&◌, ◌||◌, not, Bool, true, false, List, [], ◌∷◌, ◌++◌, length, filter, All, Option, None, Some, if◌then◌else◌}
use Rattle.std.specs.List.{list_all}
use Rattle.fleet_config.specs.Limits.{most_jobs}
use Rattle.fleet_config.specs.Tree.{Tree, id_of, is_minion}
use Rattle.minion_core.specs.Flat.{is_later, is_first}
use Rattle.salt_wire.specs.declared.message.Job.{Job}
use Rattle.salt_wire.specs.declared.message.Entry.{Entry}
use Rattle.salt_wire.specs.declared.message.Entry.TheVariants.{Return, Fired, Start, Mine}
use Rattle.salt_wire.specs.declared.message.Message.{Message}
use Rattle.salt_wire.specs.declared.message.Message.TheVariants as m
use Rattle.salt_wire.specs.declared.deed.Deed.{Deed}
use Rattle.salt_wire.specs.declared.deed.Deed.TheVariants.{Publish, Intake, Up, Fire, React, Boot, Done}
use Rattle.journal_records.specs.Limits.{RecordFits}
use Rattle.node_core.specs.Records.{jobs, jobs_held, log}
use Rattle.node_core.specs.Node.{NodeState, PlacedNode, in_state, with_record, taken_in, stray_of, is_here, is_next, names_held, Receives}

-- ---- the record of a message

-- the record that a message which is not stray adds at node me, if any: that of a job or an entry whose number is the next
abbrev pub added_record : Tree → ℕ → Message → NodeState → Option Deed
added_record t me (m.Pub seq job) node = if seq == jobs_held node.records then Some (taken_in t me seq job node) else None
added_record t me (m.Have jobs) node = None
added_record t me (m.Up id n entry) node = if is_next n id node then Some (Up id entry) else None
added_record t me (m.UpHave id n) node = None
added_record t me other node = None

-- the records that one more makes of these, or these where there is none
abbrev pub with_if_any : Option Deed → List Deed → List Deed
with_if_any None records = records
with_if_any (Some deed) records = records ++ deed ∷ []

-- a node that takes a message has the records from before, and then the one that the message adds, if any
abbrev pub RecordsByMessages : Type 0
RecordsByMessages = (t : Tree) (me from : ℕ) (message : Message) (before after : NodeState) (reply : Option Message)
    → stray_of t me from message before ≡ None → Receives t me from message before after reply
    → after.records ≡ with_if_any (added_record t me message before) before.records

-- ---- the next record of a node

-- a job that a master may add: it is later than its last one, and it has fewer than the greatest number of jobs
abbrev pub is_next_job : List Deed → Job → Bool
is_next_job records job = is_later (jobs records) job && nat_lt (jobs_held records) most_jobs

-- an entry that a master may add: it is of a minion below, names a job that is held, and is no second return of one job
abbrev pub is_next_entry : Tree → ℕ → List Deed → List ℕ → Entry → Bool
is_next_entry t me records id entry = is_here t me id && (names_held (jobs_held records) entry && is_first entry (log id records))

-- an entry that the job with this number can make at its minion: its return, what it shares, or an event
abbrev pub is_made_by : ℕ → Entry → Bool
is_made_by seq (Return n outcome) = n == seq
is_made_by seq (Fired event) = true
is_made_by seq (Start boot) = false
is_made_by seq (Mine n mine grains pillar) = n == seq

-- a return
abbrev pub is_return : Entry → Bool
is_return (Return seq outcome) = true
is_return (Fired event) = false
is_return (Start boot) = false
is_return (Mine seq mine grains pillar) = false

-- the entries that the job with this number can make at its minion: each is one that it can make, and at most one is a return
abbrev pub is_run : ℕ → List Entry → Bool
is_run seq entries = list_all (is_made_by seq) entries && nat_le (length (filter is_return entries)) 1

-- the job with this number, with these entries, may be the next one of a minion: its number is the count of its jobs
abbrev pub is_next_run : List Deed → ℕ → List Entry → Bool
is_next_run records seq entries = (seq == jobs_held records) && (nat_lt seq most_jobs && is_run seq entries)

-- Node me may add this record to these: a publication at the top, a job from its parent at a syndic, an entry at a master; a start at a
-- minion, and the job with the next number.
abbrev pub is_next_record : Tree → ℕ → List Deed → Deed → Bool
is_next_record t me records (Publish job) = not (is_minion t me) && ((me == 0) && is_next_job records job)
is_next_record t me records (Intake job) = not (is_minion t me) && (not (me == 0) && is_next_job records job)
is_next_record t me records (Up id entry) = not (is_minion t me) && is_next_entry t me records id entry
is_next_record t me records (Fire event) = false
is_next_record t me records (React items) = false
is_next_record t me records Boot = is_minion t me
is_next_record t me records (Done seq changed entries) = is_minion t me && is_next_run records seq entries

-- each of these records may be added at node me after those before
abbrev pub are_next : Tree → ℕ → List Deed → List Deed → Bool
are_next t me before [] = true
are_next t me before (new ∷ more) = is_next_record t me before new && are_next t me (before ++ new ∷ []) more

-- the records that node me may have: each is one that it may add after those before it, and is within the limits of records
pub record AreRecordsAt (t : Tree) (me : ℕ) (records : List Deed) : Type 0 where
  pub right : are_next t me [] records ≡ true
  pub fit : All RecordFits records

-- the entries that a minion's own log has at most, but for two of each job that it ran
abbrev pub most_own_entries : ℕ
most_own_entries = 2147483648

-- There is room in the log to which a record adds: at a master its length stays a u32; at a minion with this id a record of more than two
-- entries, or a start, leaves it no longer than the greatest own log.
abbrev pub has_log_room : List ℕ → List Deed → Deed → Bool
has_log_room own records (Publish job) = true
has_log_room own records (Intake job) = true
has_log_room own records (Up id entry) = nat_lt (length (log id records) + 1) 4294967296
has_log_room own records (Fire event) = true
has_log_room own records (React items) = true
has_log_room own records Boot = nat_lt (length (log own records)) most_own_entries
has_log_room own records (Done seq changed entries) =
    nat_le (length entries) 2 || nat_le (length (log own records) + length entries) most_own_entries

-- the same of a node and its records
abbrev pub is_next_at : PlacedNode → Deed → Bool
is_next_at n deed = is_next_record n.fleet.tree n.me n.state.records deed

-- there is room at a node for a record
abbrev pub has_log_room_at : PlacedNode → Deed → Bool
has_log_room_at n deed = has_log_room (id_of n.fleet.tree n.me) n.state.records deed

-- a node may add this record: it is one that may be next, there is room for it, and it is within the limits of records
pub record MayAdd (deed : Deed) (n : PlacedNode) : Type 0 where
  pub next : is_next_at n deed ≡ true
  pub room : has_log_room_at n deed ≡ true
  pub fits : RecordFits deed

-- this is the record that a message adds at a node, if any, and the node may add it
pub record IsAddedRecord (message : Message) (n : PlacedNode) (deed : Option Deed) : Type 0 where
  pub is : deed ≡ added_record n.fleet.tree n.me message n.state
  pub next : (d : Deed) → deed ≡ Some d → MayAdd d n

-- a message is not stray at a node, and adds this record, if any
pub record IsRecordFor (from : ℕ) (message : Message) (n : PlacedNode) (deed : Option Deed) : Type 0 where
  pub taken : stray_of n.fleet.tree n.me from message n.state ≡ None
  pub added : IsAddedRecord message n deed

-- the node with a record more
abbrev pub placed_after : Deed → PlacedNode → PlacedNode
placed_after deed n = in_state (with_record deed n.state) n
