-- What a load of a node answers for the bytes of a disk, and what it leaves there.
use Rattle.std.specs.Prelude.{◌≡◌, ◌⊎◌, ℕ, ◌+◌, ◌-◌, ◌<◌, ◌≤◌, nat_le, ⊤, Bool, true, false, List, [], map, length, take, Option, None, Some, Result, Ok, Err, IfOk, OnOk, IsErrOf, slice_index_or, if◌then◌else◌}
use Rattle.salt_disk.specs.declared.disk.Disk.{Ghosts}
use Rattle.salt_disk.specs.declared.disk.Part.{Part}
use Rattle.salt_disk.specs.declared.disk.Part.TheVariants.{Even}
use Rattle.salt_disk.specs.declared.disk.Fuse.TheVariants.{Armed}
use Rattle.salt_disk.specs.Disk.{part_of}
use Rattle.salt_disk.specs.Crash.{Image, MayLeave, LeavesOnly}
use Rattle.salt_disk.specs.Fuse.{Passes, fuse_after}
use Rattle.salt_disk.specs.Memory.{IsPicked}
use Rattle.gate_journal.specs.declared.fault.LoadFault.TheVariants as log
use Rattle.gate_journal.specs.Layout.{first_gate, record_overhead}
use Rattle.gate_journal.specs.Payloads.{gate_place}
use Rattle.checkpoint_log.specs.Content.{LogContent, IsLog, bytes_in, content_length}
use Rattle.checkpoint_log.specs.Loading.{HasLogFault, KeepsAllBytes, AreSettled}
use Rattle.fleet_config.specs.Fleet.{FleetConfig}
use Rattle.fleet_config.specs.Tree.{Tree, member, is_minion, runs_jobs}
use Rattle.fleet_config.specs.declared.fleet.Member.{Member}
use Rattle.minion_core.specs.Flat.{held_by}
use Rattle.salt_wire.specs.declared.deed.Deed.{Deed}
use Rattle.salt_wire.specs.declared.deed.Deed.TheVariants.{Boot}
use Rattle.journal_records.specs.Limits.{RecordFits}
use Rattle.journal_records.specs.Spelling.{record_bytes}
use Rattle.node_core.specs.Node.{NodeState, PlacedNode, first_held}
use Rattle.node_core.specs.NextRecords.{AreRecordsAt, is_next_record, with_if_any}
use Rattle.journalled_node.specs.declared.fault.LoadFault.{LoadFault}
use Rattle.journalled_node.specs.declared.fault.LoadFault.TheVariants as n
use Rattle.journalled_node.specs.State.{JournalledState, is_lost_or_down, records_content, StandsOnDisk, HasRecords, HasRecordsOrMore}
use Rattle.journalled_node.specs.Calls.{changing_calls, record_by_stop}

-- ---- which node is loaded

-- the start that a load adds: that of a minion, and none at a master
abbrev pub start_at : Tree → ℕ → Option Deed
start_at t me = if is_minion t me then Some Boot else None

-- a node that is loaded with these records: it holds what they say, and knows nothing of what its neighbours have
abbrev pub loaded_state : Member → List Deed → NodeState
loaded_state m records = record { minion = runs_jobs m.role; records = records; held = held_by (first_held m) records; known_jobs = []; known_ups = [] }

-- the node at a place of a fleet that is loaded with these records
abbrev pub loaded_node : FleetConfig → ℕ → List Deed → PlacedNode
loaded_node f me records = record { fleet = f; me = me; state = loaded_state (member f.tree me) records }

-- a node at a place of a fleet that is up, as it was loaded
pub record IsLoadedAt (f : FleetConfig) (me : ℕ) (n : JournalledState) : Type 0 where
  pub node : n.node ≡ loaded_node f me n.node.state.records
  pub up : is_lost_or_down n ≡ false

-- ---- what the bytes of a disk are

-- the image is a log of this limit that has these records, and node me may have them
pub record HasRecordsAt (t : Tree) (me limit : ℕ) (records : List Deed) (image : Image) : Type 0 where
  pub log : HasRecords limit records image
  pub right : AreRecordsAt t me records

-- these payloads are the bytes of these records, and node me may have them
pub record AreBytesOf (t : Tree) (me : ℕ) (payloads : List (List ℕ)) (records : List Deed) : Type 0 where
  pub spelled : payloads ≡ map record_bytes records
  pub right : AreRecordsAt t me records

-- The payload with this number is the first wrong one at node me: those before it are the bytes of records that it may have, and this
-- one is not those of a record that it may add next.
pub record IsFirstWrong (t : Tree) (me : ℕ) (payloads : List (List ℕ)) (number : ℕ) : Type 0 where
  pub records : List Deed
  pub before : AreBytesOf t me (take number payloads) records
  pub inside : number < length payloads
  pub wrong : (deed : Deed) → RecordFits deed → slice_index_or payloads number [] ≡ record_bytes deed → is_next_record t me records deed ≡ false

-- the image is a log, and the gate of its first payload that is wrong at node me stands at this place
pub record HasWrongRecord (t : Tree) (me : ℕ) (image : Image) (at : ℕ) : Type 0 where
  pub limit : ℕ
  pub content : LogContent
  pub log : IsLog limit content image
  pub number : ℕ
  pub first : IsFirstWrong t me content.rest number
  pub place : at ≡ gate_place (record { first = first_gate; items = content.rest }) number

-- a minion's records leave no room for its start: the log would have this length, over its limit
pub record LacksRoomToStart (t : Tree) (me : ℕ) (image : Image) (length limit : ℕ) : Type 0 where
  pub records : List Deed
  pub minion : is_minion t me ≡ true
  pub log : HasRecordsAt t me limit records image
  pub long : length ≡ content_length (records_content records) + record_overhead + 1
  pub over : limit < length

-- the bytes have this fault for node me
abbrev pub HasLoadFault : Tree → ℕ → LoadFault → Image → Type 0
HasLoadFault t me n.NoMemory image = ⊥
HasLoadFault t me n.Disk image = ⊥
HasLoadFault t me n.NotAJournal image = HasLogFault log.NotAJournal image
HasLoadFault t me (n.Damaged part at) image = HasLogFault (log.Damaged part at) image ⊎ ((part ≡ Even) × HasWrongRecord t me image at)
HasLoadFault t me (n.Full length limit) image = LacksRoomToStart t me image length limit

-- ---- what is answered

-- whether a fault tells of the bytes: want of memory and a disk that fails don't
abbrev pub tells_of_bytes : LoadFault → Bool
tells_of_bytes n.NoMemory = false
tells_of_bytes n.Disk = false
tells_of_bytes n.NotAJournal = true
tells_of_bytes (n.Damaged part at) = true
tells_of_bytes (n.Full length limit) = true

-- A fault that tells of the bytes is one that they have.
abbrev pub IsLoadFault : Tree → ℕ → Image → LoadFault → Type 0
IsLoadFault t me image fault = tells_of_bytes fault ≡ true → HasLoadFault t me fault image

-- there is room for the start that a load adds, if any, in a log of this limit behind these records
abbrev pub HasRoomToStart : Tree → ℕ → ℕ → List Deed → Type 0
HasRoomToStart t me limit records = is_minion t me ≡ true → content_length (records_content records) + record_overhead + 1 ≤ limit

-- a node was loaded from these bytes: it has the records that they have, and a minion its start behind them
pub record IsLoadedFrom (f : FleetConfig) (me : ℕ) (image : Image) (n : JournalledState) : Type 0 where
  pub records : List Deed
  pub log : HasRecordsAt f.tree me n.log.limit records image
  pub room : HasRoomToStart f.tree me n.log.limit records
  pub node : n.node ≡ loaded_node f me (with_if_any (start_at f.tree me) records)

-- the answer is no fault of the bytes
abbrev pub IsTaken : {T : Type 0} → Result T LoadFault → Type 0
IsTaken (Ok node) = ⊤
IsTaken (Err fault) = tells_of_bytes fault ≡ false

-- the answer is this fault, or tells nothing of the bytes
abbrev pub IsDenied : {T : Type 0} → LoadFault → Result T LoadFault → Type 0
IsDenied fault (Ok node) = ⊥
IsDenied fault (Err told) = tells_of_bytes told ≡ true → fault ≡ told

-- What the bytes are is answered so, but for want of memory and a disk that fails: a node is loaded where they have its records and room
-- for its start, and each fault is told.
pub record AnswersEachNode (f : FleetConfig) (me : ℕ) (image : Image) (result : Result JournalledState LoadFault) : Type 0 where
  pub accepts : (limit : ℕ) (records : List Deed) → HasRecordsAt f.tree me limit records image → HasRoomToStart f.tree me limit records
      → IsTaken result
  pub same : (limit : ℕ) (records : List Deed) → HasRecordsAt f.tree me limit records image
      → IfOk result (λ n. (n.log.limit ≡ limit) × (n.node.state.records ≡ with_if_any (start_at f.tree me) records))
  pub refuses : (fault : LoadFault) → HasLoadFault f.tree me fault image → IsDenied fault result

-- ---- what is left on the disk

-- the one image has the records of node me, and the other one these, or these and its start
pub record HasRecordsFrom (t : Tree) (me : ℕ) (before image : Image) : Type 0 where
  pub limit : ℕ
  pub records : List Deed
  pub log : HasRecordsAt t me limit records before
  pub here : HasRecordsOrMore limit records (start_at t me) image

-- the changing calls of a load: three syncs, and those of its start
abbrev pub load_calls : Tree → ℕ → ℕ
load_calls t me = 3 + changing_calls (start_at t me)

-- what stays of the start where so many changing calls of the load passed, and a crash picks this byte for unsure places
abbrev pub start_by_stop : Tree → ℕ → ℕ → ℕ → Option Deed
start_by_stop t me calls pick = if nat_le 3 calls then record_by_stop (calls - 3) pick (start_at t me) else None

-- the answer is that the bytes are no log, or not that of the node
abbrev pub IsDamage : {T : Type 0} → Result T LoadFault → Type 0
IsDamage (Ok node) = ⊥
IsDamage (Err n.NoMemory) = ⊥
IsDamage (Err n.NotAJournal) = ⊤
IsDamage (Err (n.Damaged part at)) = ⊤
IsDamage (Err (n.Full length limit)) = ⊥
IsDamage (Err n.Disk) = ⊥

-- What a load leaves of a disk that tells what it holds.
pub record KeepsByLoad {D : Type 0} (disk : Ghosts D) (old new : D) (t : Tree) (me : ℕ) (result : Result JournalledState LoadFault) : Type 0 where
  -- a crash at any moment of the call leaves what one before it could leave, or the records that are there, with the start or without
  pub any_moment : LeavesOnly disk.past disk.state old new
      (λ image. MayLeave (disk.state old) image ⊎ HasRecordsFrom t me (bytes_in (disk.state old)) image)
  -- at Ok the disk has the records of the node, and nothing is pending there
  pub stands : IfOk result (λ n. StandsOnDisk n (disk.state new))
  -- so a crash leaves them
  pub left : IfOk result (λ n. (image : Image) → MayLeave (disk.state new) image → HasRecords n.log.limit n.node.state.records image)
  -- after damage the bytes are as before, and nothing is pending
  pub kept : IsDamage result → KeepsAllBytes disk old new × AreSettled (disk.state new)
  -- where there is no room for the start, a crash leaves the records that are there
  pub full : (length limit : ℕ) → IsErrOf result (n.Full length limit) → (image : Image) → MayLeave (disk.state new) image
      → (records : List Deed) × HasRecordsAt t me limit records (bytes_in (disk.state old)) × HasRecords limit records image
  -- at Ok its changing calls passed
  pub passed : OnOk result (Passes (load_calls t me) (disk.fuse old) × (disk.fuse new ≡ fuse_after (load_calls t me) (disk.fuse old)))
  -- the disk failed only where not all of them could pass
  pub not_passed : IsErrOf result n.Disk → Passes (load_calls t me) (disk.fuse old) → ⊥
  -- on a disk at rest that failed after so many calls, the picked byte decides on the start
  pub stopped : IsErrOf result n.Disk → AreSettled (disk.state old)
      → (limit : ℕ) (records : List Deed) → HasRecordsAt t me limit records (bytes_in (disk.state old))
      → (calls pick cut : ℕ) (image : Image) → disk.fuse old ≡ Armed calls → MayLeave (disk.state new) image
      → ((part : Part) → IsPicked pick cut (part_of (disk.state new) part) (image part))
      → HasRecords limit (with_if_any (start_by_stop t me calls pick) records) image
