-- How a record is stored behind the closed gate, and how a part is read. No public contract cites any of it.
use Rattle.std.specs.Prelude.{◌≡◌, ◌≤◌, ◌+◌, ℕ, List, [], ◌∷◌, ◌++◌, length, drop, Option, MatchOption, Result, IfOk, IsErrOf}
use Rattle.std.specs.Borrow.{Bor}
use Rattle.std.specs.declared.vec.Vec.{Vec}
use Rattle.byteorder.specs.Endian.{big_bytes}
use Rattle.salt_disk.specs.declared.disk.Disk.{Ghosts}
use Rattle.salt_disk.specs.declared.disk.Part.{Part}
use Rattle.salt_disk.specs.declared.disk.DiskFault.{DiskFault}
use Rattle.salt_disk.specs.declared.disk.DiskFault.TheVariants.{NoMemory, Failed}
use Rattle.salt_disk.specs.Disk.{PartState, DiskState, part_of}
use Rattle.salt_disk.specs.Crash.{LeavesOnly}
use Rattle.gate_journal.specs.Layout.{least_limit, greatest_limit, first_gate, fresh_length, record_overhead}
use Rattle.gate_journal.specs.Journal.{IsJournal, Rests, IsNext, HoldsOldOrNew, StoppedAppend, header, journal_length}
use Rattle.gate_journal.specs.Payloads.{PlacedPayloads}
use Rattle.gate_journal.specs.Damage.{IsBroken}

-- A journal of this length stands on the part, at rest. No public contract cites it.
abbrev pub HasJournal : ℕ → PartState → Type 0
HasJournal len part = (limit : ℕ) × ((payloads : List (List ℕ)) × Rests limit len payloads part)

-- Whatever payload is the next one, the journal then rests with it at the end. No public contract cites it.
abbrev pub AddsNext : {D : Type 0} → Ghosts D → D → D → Part → ℕ → List ℕ → Type 0
AddsNext disk old new part len body =
    (limit : ℕ) (payloads : List (List ℕ)) (payload : List ℕ) → IsNext limit len payloads payload body (part_of (disk.state old) part)
    → Rests limit (len + record_overhead + length payload) (payloads ++ payload ∷ []) (part_of (disk.state new) part)

-- After want of memory the journal rests as it did. No public contract cites it.
abbrev pub RestsAfterNoMemory : {D T : Type 0} → Ghosts D → D → D → Part → ℕ → Result T DiskFault → Type 0
RestsAfterNoMemory disk old new part len result = IsErrOf result NoMemory
    → (limit : ℕ) (payloads : List (List ℕ)) → Rests limit len payloads (part_of (disk.state old) part) → Rests limit len payloads (part_of (disk.state new) part)

-- Whatever payload is the next one, a crash at any moment leaves the payloads with it or without. No public contract cites it.
abbrev pub LeavesNext : {D : Type 0} → Ghosts D → D → D → Part → ℕ → List ℕ → Type 0
LeavesNext disk old new part len body =
    (limit : ℕ) (payloads : List (List ℕ)) (payload : List ℕ) → IsNext limit len payloads payload body (part_of (disk.state old) part)
    → LeavesOnly disk.past disk.state old new (HoldsOldOrNew part limit payloads payload (disk.state old))

-- After a failure the disk has what a stopped append of the next payload leaves. No public contract cites it.
abbrev pub StopsNext : {D T : Type 0} → Ghosts D → D → D → Part → ℕ → List ℕ → Result T DiskFault → Type 0
StopsNext disk old new part len body result = IsErrOf result Failed
    → (limit : ℕ) (payloads : List (List ℕ)) (payload : List ℕ) → IsNext limit len payloads payload body (part_of (disk.state old) part)
    → StoppedAppend part limit len payloads payload (disk.fuse old) (disk.state new)

-- At Ok the bytes are all those of the part. No public contract cites it.
abbrev pub ReadsWhole : {Z E : Type 0} → DiskState → Part → Result (Vec ℕ Z) E → Type 0
ReadsWhole disk part result = IfOk result (λ bytes. bytes.items ≡ (part_of disk part).bytes)

-- The bytes begin with a header of this limit, and have room for a gate behind it. No public contract cites it.
pub record HasHeader (bytes : List ℕ) (limit : ℕ) : Type 0 where
  pub bytes_are : bytes ≡ header limit ++ drop first_gate bytes
  pub long : fresh_length ≤ length bytes
  pub least : least_limit ≤ limit
  pub greatest : limit ≤ greatest_limit

-- Behind an open gate stands a record of this payload, there is room for it, and then comes a gate. No public contract cites it.
pub record HasRecord (room : ℕ) (bytes payload behind : List ℕ) : Type 0 where
  pub bytes_are : bytes ≡ (big_bytes 4 (length payload) ++ payload) ++ behind
  pub gate : 1 ≤ length behind
  pub within : record_overhead + 1 + length payload ≤ room

-- The answer is such a payload and what is behind it, or what stands behind the gate is broken. No public contract cites it.
abbrev pub ReadsRecord : ℕ → List ℕ → Option (Bor (List ℕ) × Bor (List ℕ)) → Type 0
ReadsRecord room bytes result = MatchOption result (IsBroken room bytes) (λ r. HasRecord room bytes r.0.now r.1.now)

-- The bytes are a journal of this limit, of these payloads and of so many bytes. No public contract cites it.
pub record ReadsAs (bytes : List ℕ) (limit : ℕ) (payloads : PlacedPayloads) (len : ℕ) : Type 0 where
  pub holds : IsJournal limit payloads.items bytes
  pub counts : len ≡ journal_length payloads.items
  pub placed : payloads.first ≡ first_gate
