-- What a call on a node over its log leaves on its disk, by how it ended.
use Rattle.std.specs.Prelude.{◌≡◌, ℕ, ◌+◌, ◌≤◌, ◌<◌, ◌==◌, nat_le, ⊤, Bool, true, false, List, length, Option, None, Some, Result, Ok, Err, OnOk, IsErrOf, if◌then◌else◌}
use Rattle.salt_disk.specs.declared.disk.Disk.{Ghosts}
use Rattle.salt_disk.specs.declared.disk.Part.{Part}
use Rattle.salt_disk.specs.declared.disk.Fuse.TheVariants.{Armed}
use Rattle.salt_disk.specs.Disk.{part_of}
use Rattle.salt_disk.specs.Crash.{Image, MayLeave, LeavesOnly}
use Rattle.salt_disk.specs.Fuse.{Passes, fuse_after}
use Rattle.salt_disk.specs.Memory.{IsPicked}
use Rattle.gate_journal.specs.Journal.{JournalState}
use Rattle.gate_journal.specs.Layout.{open_gate, record_overhead}
use Rattle.gate_journal.specs.declared.fault.AppendFault.{AppendFault}
use Rattle.gate_journal.specs.declared.fault.AppendFault.TheVariants as a
use Rattle.salt_wire.specs.declared.deed.Deed.{Deed}
use Rattle.salt_wire.specs.declared.message.Message.{Message}
use Rattle.journal_records.specs.Spelling.{record_bytes}
use Rattle.node_core.specs.declared.faults.TakeFault as NodeFault
use Rattle.node_core.specs.declared.faults.TakeFault.TheVariants as core
use Rattle.node_core.specs.Node.{PlacedNode, DeniesMessage}
use Rattle.node_core.specs.NextRecords.{added_record, with_if_any}
use Rattle.journalled_node.specs.declared.fault.TakeFault.{TakeFault}
use Rattle.journalled_node.specs.declared.fault.TakeFault.TheVariants as t
use Rattle.journalled_node.specs.State.{JournalledState, is_lost_or_down, StandsOnDisk, HasRecords, HasRecordsOrMore}

-- How a call that may add a record ended: it answered; the node was down; it was refused before its record was made; memory ran out;
-- the journal was full; the disk failed.
pub data CallEnd : Type 0 where
  Answered : CallEnd
  WasDown : CallEnd
  WasRefused : CallEnd
  WantedMemory : CallEnd
  WasFull : CallEnd
  DiskFailed : CallEnd

-- how a message's call ended
abbrev pub take_end : {T : Type 0} → Result T TakeFault → CallEnd
take_end (Ok reply) = Answered
take_end (Err t.Down) = WasDown
take_end (Err (t.Stray cause)) = WasRefused
take_end (Err (t.TooBig leaf)) = WasRefused
take_end (Err t.NoMemory) = WantedMemory
take_end (Err (t.Full n limit)) = WasFull
take_end (Err t.Disk) = DiskFailed

-- how the append of a record ended. No public contract cites it.
abbrev pub append_end : {T : Type 0} → Result T AppendFault → CallEnd
append_end (Ok done) = Answered
append_end (Err a.NoMemory) = WantedMemory
append_end (Err a.Down) = WasDown
append_end (Err (a.Full n limit)) = WasFull
append_end (Err a.Disk) = DiskFailed

-- the records that a message adds to those of a node: one, or none
abbrev pub added_at : Message → PlacedNode → Option Deed
added_at message n = added_record n.fleet.tree n.me message n.state

-- What a crash leaves once a call has ended so: with its record after an answer, and where memory ran out once the record was in the
-- log; either way after the disk failed; the records from before after any other end.
abbrev pub HasRecordsByEnd : CallEnd → Bool → ℕ → List Deed → Option Deed → Image → Type 0
HasRecordsByEnd Answered lost limit records deed image = HasRecords limit (with_if_any deed records) image
HasRecordsByEnd WasDown lost limit records deed image = HasRecords limit records image
HasRecordsByEnd WasRefused lost limit records deed image = HasRecords limit records image
HasRecordsByEnd WantedMemory lost limit records deed image = HasRecords limit (if lost then with_if_any deed records else records) image
HasRecordsByEnd WasFull lost limit records deed image = HasRecords limit records image
HasRecordsByEnd DiskFailed lost limit records deed image = HasRecordsOrMore limit records deed image

-- the changing calls that a call makes on its disk, where it adds this record: the four of an append, or none
abbrev pub changing_calls : Option Deed → ℕ
changing_calls None = 0
changing_calls (Some deed) = 4

-- what stays of a call's record where so many of its changing calls passed, and a crash picks this byte for unsure places: from the
-- third call on the record is there where the byte is that of an open gate
abbrev pub record_by_stop : ℕ → ℕ → Option Deed → Option Deed
record_by_stop calls pick deed = if nat_le 2 calls then (if pick == open_gate then deed else None) else None

-- What a call of a node that was up leaves on its disk, where it adds this record, if any, and ended so. All but the limit is told of
-- a disk that tells what it holds.
pub record KeepsByCall {D : Type 0} (disk : Ghosts D) (old new : D) (before after : JournalledState) (deed : Option Deed) (end : CallEnd) : Type 0 where
  -- the journal's limit stays
  pub limit : after.log.limit ≡ before.log.limit
  -- as long as the node is up, the disk has its records
  pub stands : disk.is_told → is_lost_or_down after ≡ false → StandsOnDisk after (disk.state new)
  -- a crash at any moment of the call leaves the records from before it, with its own or without
  pub any_moment : disk.is_told → LeavesOnly disk.past disk.state old new (HasRecordsOrMore before.log.limit before.node.state.records deed)
  -- once it has ended, its end says which
  pub left : disk.is_told → (image : Image) → MayLeave (disk.state new) image
      → HasRecordsByEnd end after.lost before.log.limit before.node.state.records deed image
  -- at an answer its changing calls passed
  pub passed : disk.is_told → end ≡ Answered
      → Passes (changing_calls deed) (disk.fuse old) × (disk.fuse new ≡ fuse_after (changing_calls deed) (disk.fuse old))
  -- the disk failed only where not all of them could pass
  pub not_passed : disk.is_told → end ≡ DiskFailed → Passes (changing_calls deed) (disk.fuse old) → ⊥
  -- on a disk that failed after so many calls, the picked byte decides on the record
  pub stopped : disk.is_told → end ≡ DiskFailed → (calls pick cut : ℕ) (image : Image) → disk.fuse old ≡ Armed calls
      → MayLeave (disk.state new) image → ((part : Part) → IsPicked pick cut (part_of (disk.state new) part) (image part))
      → HasRecords before.log.limit (with_if_any (record_by_stop calls pick deed) before.node.state.records) image

-- the same, where the node was up
abbrev pub KeepsIfUp : {D : Type 0} → Ghosts D → D → D → JournalledState → JournalledState → Option Deed → CallEnd → Type 0
KeepsIfUp disk old new before after deed end = is_lost_or_down before ≡ false → KeepsByCall disk old new before after deed end

-- a call ended as the node was down exactly where it was, and then nothing changed
pub record EndsDownExactly {D : Type 0} (old new : D) (before after : JournalledState) (end : CallEnd) : Type 0 where
  pub down : end ≡ WasDown → is_lost_or_down before ≡ true
  pub is_down : is_lost_or_down before ≡ true → end ≡ WasDown
  pub same : is_lost_or_down before ≡ true → (after ≡ before) × (new ≡ old)

-- the length in bytes that a node's journal would have with this record
abbrev pub length_with : Deed → JournalledState → ℕ
length_with deed n = n.log.length + record_overhead + length (record_bytes deed)

-- a call answered only where the journal had room for its record
abbrev pub HadRoom : JournalledState → Option Deed → Type 0
HadRoom n None = ⊤
HadRoom n (Some deed) = length_with deed n ≤ n.log.limit

-- A journal is full by a record: it would be longer than its limit with it, and these are the two.
abbrev pub IsFullBy : JournalledState → Option Deed → ℕ → ℕ → Type 0
IsFullBy n None length limit = ⊥
IsFullBy n (Some deed) length limit = (length ≡ length_with deed n) × (limit ≡ n.log.limit) × (limit < length)

-- Why a node over its log that is up takes no message. No public contract cites it.
abbrev pub IsUpFault : ℕ → Message → JournalledState → TakeFault → Type 0
IsUpFault from message n t.Down = ⊥
IsUpFault from message n (t.Stray cause) = DeniesMessage from message n.node (core.Stray cause)
IsUpFault from message n (t.TooBig leaf) = DeniesMessage from message n.node (core.TooBig leaf)
IsUpFault from message n t.NoMemory = ⊤
IsUpFault from message n (t.Full length limit) = IsFullBy n (added_at message n.node) length limit
IsUpFault from message n t.Disk = ⊤

-- why a node over its log takes no message
abbrev pub IsJournalledFault : ℕ → Message → JournalledState → TakeFault → Type 0
IsJournalledFault from message n t.Down = is_lost_or_down n ≡ true
IsJournalledFault from message n (t.Stray cause) = DeniesMessage from message n.node (core.Stray cause)
IsJournalledFault from message n (t.TooBig leaf) = DeniesMessage from message n.node (core.TooBig leaf)
IsJournalledFault from message n t.NoMemory = ⊤
IsJournalledFault from message n (t.Full length limit) = IsFullBy n (added_at message n.node) length limit
IsJournalledFault from message n t.Disk = ⊤

-- a node over this log. No public contract cites it.
abbrev pub node_over : PlacedNode → JournalState → Bool → JournalledState
node_over node log lost = record { node = node; log = log; lost = lost }

-- Why a message with a record was not taken by a node that was up. No public contract cites it.
abbrev pub IsKeptFault : JournalledState → Deed → TakeFault → Type 0
IsKeptFault n deed t.Down = ⊥
IsKeptFault n deed (t.Stray cause) = ⊥
IsKeptFault n deed (t.TooBig leaf) = ⊥
IsKeptFault n deed t.NoMemory = ⊤
IsKeptFault n deed (t.Full length limit) = IsFullBy n (Some deed) length limit
IsKeptFault n deed t.Disk = ⊤

-- An append of a payload of so many bytes tells that the journal is full only where it would be longer than its limit, with that length
-- and the limit, and it is done only where there was room. No public contract cites it.
pub record TellsRoom {T : Type 0} (log : JournalState) (count : ℕ) (result : Result T AppendFault) : Type 0 where
  pub full : (n limit : ℕ) → IsErrOf result (a.Full n limit) → (n ≡ log.length + record_overhead + count) × (limit ≡ log.limit) × (limit < n)
  pub ok : OnOk result (log.length + record_overhead + count ≤ log.limit)

-- the fault of a message whose record was not kept. No public contract cites it.
abbrev pub kept_fault : AppendFault → TakeFault
kept_fault a.NoMemory = t.NoMemory
kept_fault a.Down = t.Down
kept_fault (a.Full n limit) = t.Full n limit
kept_fault a.Disk = t.Disk

-- the fault of a message that the node in memory doesn't take. No public contract cites it.
abbrev pub node_fault : NodeFault.TakeFault → TakeFault
node_fault (core.Stray cause) = t.Stray cause
node_fault (core.TooBig leaf) = t.TooBig leaf
node_fault core.NoMemory = t.NoMemory
