-- The steps of a load. No public contract cites these.
use Rattle.std.specs.Prelude.{◌≡◌, ◌<◌, ◌≤◌, ℕ, ⊤, Bool, true, false, List, [], map, length, take, Option, None, Some, Result, IfOk, IfErr, IsErrOf, slice_index_or}
use Rattle.salt_disk.specs.declared.disk.Disk.{Ghosts}
use Rattle.salt_disk.specs.Fuse.{Passes, fuse_after}
use Rattle.gate_journal.specs.Calls.{LeavesAsBefore}
use Rattle.gate_journal.specs.Layout.{greatest_limit}
use Rattle.gate_journal.specs.Journal.{JournalState, journal_length}
use Rattle.gate_journal.specs.declared.fault.LoadFault as LogFault
use Rattle.gate_journal.specs.declared.fault.LoadFault.TheVariants as log
use Rattle.gate_journal.specs.declared.fault.AppendFault.{AppendFault}
use Rattle.gate_journal.specs.declared.fault.AppendFault.TheVariants as a
use Rattle.gate_journal.specs.Payloads.{PlacedPayloads, gate_place}
use Rattle.fleet_config.specs.Fleet.{FleetConfig}
use Rattle.checkpoint_log.specs.Content.{HoldsContent, bytes_in}
use Rattle.checkpoint_log.specs.Loading.{KeepsAllBytes, AreSettled}
use Rattle.salt_disk.specs.declared.disk.Part.TheVariants.{Even}
use Rattle.salt_wire.specs.declared.deed.Deed.{Deed}
use Rattle.journal_records.specs.Limits.{RecordFits}
use Rattle.journal_records.specs.Spelling.{record_bytes}
use Rattle.node_core.specs.Node.{PlacedNode}
use Rattle.node_core.specs.NextRecords.{MayAdd, is_next_at, has_log_room_at, placed_after}
use Rattle.journalled_node.specs.declared.fault.LoadFault.{LoadFault}
use Rattle.journalled_node.specs.declared.fault.LoadFault.TheVariants as n
use Rattle.journalled_node.specs.State.{JournalledState, records_content}
use Rattle.journalled_node.specs.Calls.{IsFullBy}
use Rattle.journalled_node.specs.Loading.{AreBytesOf, HasRecordsAt, IsLoadFault, loaded_node}

-- the fault of a load whose log was not loaded
abbrev pub unread : LogFault.LoadFault → LoadFault
unread log.NoMemory = n.NoMemory
unread log.Disk = n.Disk
unread log.NotAJournal = n.NotAJournal
unread (log.Damaged part at) = n.Damaged part at

-- the fault of a load whose start was not kept
abbrev pub unstarted : AppendFault → LoadFault
unstarted a.NoMemory = n.NoMemory
unstarted (a.Full length limit) = n.Full length limit
unstarted a.Down = n.Disk
unstarted a.Disk = n.Disk

-- why a node that was just loaded did not keep its start
abbrev pub IsStartFault : JournalledState → Option Deed → AppendFault → Type 0
IsStartFault n deed a.NoMemory = ⊤
IsStartFault n deed (a.Full length limit) = IsFullBy n deed length limit
IsStartFault n deed a.Down = ⊥
IsStartFault n deed a.Disk = ⊤

-- a node may add this record, if there is one
abbrev pub MayAddIfAny : Option Deed → PlacedNode → Type 0
MayAddIfAny None n = ⊤
MayAddIfAny (Some deed) n = MayAdd deed n

-- the node with a record more, if there is one
abbrev pub placed_after_any : Option Deed → PlacedNode → PlacedNode
placed_after_any None n = n
placed_after_any (Some deed) n = placed_after deed n

-- a journal may have payloads of this length
abbrev pub FitAJournal : List (List ℕ) → Type 0
FitAJournal payloads = journal_length payloads ≤ greatest_limit

-- the record that a payload is, if any, finds room in the logs of a node
abbrev pub FindsRoom : List ℕ → PlacedNode → Type 0
FindsRoom payload n = (deed : Deed) → RecordFits deed → payload ≡ record_bytes deed → has_log_room_at n deed ≡ true

-- a record was added to a node, or it is none that the node may add next
abbrev pub AddsIfNext : Deed → PlacedNode → PlacedNode → Bool → Type 0
AddsIfNext deed old new true = MayAdd deed old × (new ≡ placed_after deed old)
AddsIfNext deed old new false = (is_next_at old deed ≡ false) × (new ≡ old)

-- a payload is not the bytes of a record that a node may add next
abbrev pub LacksNext : List ℕ → PlacedNode → Type 0
LacksNext payload n = (deed : Deed) → RecordFits deed → payload ≡ record_bytes deed → is_next_at n deed ≡ false

-- the record that a payload is was added to a node, or it is none that the node may add
abbrev pub AddsPayload : List ℕ → PlacedNode → PlacedNode → Bool → Type 0
AddsPayload payload old new true = (deed : Deed) × (payload ≡ record_bytes deed) × MayAdd deed old × (new ≡ placed_after deed old)
AddsPayload payload old new false = LacksNext payload old × (new ≡ old)

-- a node has the records that these payloads are
pub record IsNodeOf (f : FleetConfig) (me : ℕ) (payloads : List (List ℕ)) (node : PlacedNode) : Type 0 where
  pub is : node ≡ loaded_node f me node.state.records
  pub bytes : AreBytesOf f.tree me payloads node.state.records

-- the payload with this number is the first that is wrong at a node
pub record StopsAt (f : FleetConfig) (me : ℕ) (payloads : List (List ℕ)) (number : ℕ) : Type 0 where
  pub node : PlacedNode
  pub before : IsNodeOf f me (take number payloads) node
  pub inside : number < length payloads
  pub wrong : LacksNext (slice_index_or payloads number []) node

-- the node has the records of all these payloads, or the first one that is wrong stands at this number
abbrev pub ReadsPayloads : FleetConfig → ℕ → List (List ℕ) → PlacedNode → Option ℕ → Type 0
ReadsPayloads f me payloads new None = IsNodeOf f me payloads new
ReadsPayloads f me payloads new (Some number) = StopsAt f me payloads number

-- the first payload that is wrong at a node has its gate at this place
pub record IsWrongAt (f : FleetConfig) (me : ℕ) (payloads : PlacedPayloads) (at : ℕ) : Type 0 where
  pub number : ℕ
  pub stops : StopsAt f me payloads.items number
  pub place : at ≡ gate_place payloads number

-- why these payloads are no node's
abbrev pub IsPayloadFault : FleetConfig → ℕ → PlacedPayloads → LoadFault → Type 0
IsPayloadFault f me payloads n.NoMemory = ⊤
IsPayloadFault f me payloads n.NotAJournal = ⊥
IsPayloadFault f me payloads (n.Damaged part at) = (part ≡ Even) × IsWrongAt f me payloads at
IsPayloadFault f me payloads (n.Full length limit) = ⊥
IsPayloadFault f me payloads n.Disk = ⊥

-- the node at a place of a fleet was read, with records that a journal may have, and its log is up
pub record IsReadAt (f : FleetConfig) (me : ℕ) (x : PlacedNode × JournalState) : Type 0 where
  pub node : x.0 ≡ loaded_node f me x.0.state.records
  pub small : FitAJournal (map record_bytes x.0.state.records)
  pub up : x.1.is_down ≡ false

-- What a read of a node leaves of a disk that tells what it holds.
pub record ReadsNode {D : Type 0} (disk : Ghosts D) (old new : D) (f : FleetConfig) (me : ℕ) (result : Result (PlacedNode × JournalState) LoadFault) : Type 0 where
  -- nothing but syncs was done
  pub any_moment : LeavesAsBefore disk old new
  pub bytes : KeepsAllBytes disk old new
  pub settled : (IsErrOf result n.Disk → ⊥) → (IsErrOf result n.NoMemory → ⊥) → AreSettled (disk.state new)
  -- its three changing calls passed, but after `Disk` and want of memory
  pub passed : (IsErrOf result n.Disk → ⊥) → (IsErrOf result n.NoMemory → ⊥)
      → Passes 3 (disk.fuse old) × (disk.fuse new ≡ fuse_after 3 (disk.fuse old))
  pub not_passed : IsErrOf result n.Disk → Passes 3 (disk.fuse old) → ⊥
  -- the node has the records that the bytes are, and stands on the disk
  pub records : IfOk result (λ x. HasRecordsAt f.tree me x.1.limit x.0.state.records (bytes_in (disk.state old)))
  pub stands : IfOk result (λ x. HoldsContent x.1 (records_content x.0.state.records) (disk.state new))
  -- each fault is one of the bytes
  pub fault : IfErr result (IsLoadFault f.tree me (bytes_in (disk.state old)))
