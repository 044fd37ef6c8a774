-- How a journal is made, and what a crash leaves of one that is being made.
use Rattle.std.specs.Prelude.{◌≡◌, ◌⊎◌, ◌<◌, ◌≤◌, ℕ, List, [], length, Result, IsErrOf}
use Rattle.salt_disk.specs.declared.disk.Disk.{Ghosts}
use Rattle.salt_disk.specs.declared.disk.Part.{Part}
use Rattle.salt_disk.specs.Disk.{PartState, DiskState, part_of, Stays}
use Rattle.salt_disk.specs.Crash.{Image, OthersMayLeave, LeavesOnly}
use Rattle.gate_journal.specs.declared.fault.CreateFault.{CreateFault}
use Rattle.gate_journal.specs.declared.fault.CreateFault.TheVariants.{NotEmpty, Disk}
use Rattle.gate_journal.specs.Layout.{fresh_length}
use Rattle.gate_journal.specs.Journal.{IsJournal, Rests, fresh_journal}
use Rattle.gate_journal.specs.Calls.{LeavesAsBefore}

-- An empty journal of this limit stands on the part as it is made, at rest and with nothing behind it.
pub record IsFresh (limit : ℕ) (part : PartState) : Type 0 where
  pub rests : Rests limit fresh_length [] part
  pub bytes_are : part.bytes ≡ fresh_journal limit
  pub counts : length part.bytes ≡ fresh_length

-- No journal that loads, or an empty one, and the other parts are as they were. The part is short, so that it can be made again.
pub record HoldsNothing (part : Part) (old : DiskState) (image : Image) : Type 0 where
  pub short : length (image part) ≤ fresh_length
  pub here : (limit : ℕ) (payloads : List (List ℕ)) → IsJournal limit payloads (image part) → payloads ≡ []
  pub others : OthersMayLeave part old image

-- A crash at any moment of the call leaves no journal that loads, or an empty one.
abbrev pub LeavesNothing : {D : Type 0} → Ghosts D → D → D → Part → Type 0
LeavesNothing disk old new part = LeavesOnly disk.past disk.state old new (HoldsNothing part (disk.state old))

-- So it is where the part was no longer than an empty journal.
abbrev pub LeavesNothingIfShort : {D : Type 0} → Ghosts D → D → D → Part → Type 0
LeavesNothingIfShort disk old new part = length (part_of (disk.state old) part).bytes ≤ fresh_length → LeavesNothing disk old new part

-- Where it was longer, a crash at any moment of the call leaves what a crash before it could leave.
abbrev pub LeavesAsBeforeIfLong : {D : Type 0} → Ghosts D → D → D → Part → Type 0
LeavesAsBeforeIfLong disk old new part = fresh_length < length (part_of (disk.state old) part).bytes → LeavesAsBefore disk old new

-- Where it answers `NotEmpty`, the length that it names is longer, and is that of the part where the disk tells. The disk is as it was.
abbrev pub TellsNotEmpty : {D T : Type 0} → Ghosts D → D → D → Part → Result T CreateFault → Type 0
TellsNotEmpty disk old new part result = (n : ℕ) → IsErrOf result (NotEmpty n)
    → (fresh_length < n) × (new ≡ old) × (disk.is_told → n ≡ length (part_of (disk.state old) part).bytes)

-- A part that is longer than an empty journal is refused with its length, but where the disk fails.
abbrev pub RefusesLong : {T : Type 0} → DiskState → Part → Result T CreateFault → Type 0
RefusesLong disk part result = fresh_length < length (part_of disk part).bytes
    → IsErrOf result (NotEmpty (length (part_of disk part).bytes)) ⊎ IsErrOf result Disk

-- Where the part is longer than an empty journal, the disk stays as it was.
abbrev pub StaysIfLong : {D : Type 0} → Ghosts D → D → D → Part → Type 0
StaysIfLong disk old new part = fresh_length < length (part_of (disk.state old) part).bytes → Stays disk.past disk.state old new
