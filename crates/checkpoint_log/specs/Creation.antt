-- How a log is made, and what a crash leaves of one that is being made.
use Rattle.std.specs.Prelude.{◌≡◌, ◌⊎◌, ◌<◌, ◌≤◌, ℕ, Option, MatchOption, length, Result, IfOk, OnOk, IsErrOf}
use Rattle.salt_disk.specs.declared.disk.Disk.{Ghosts}
use Rattle.salt_disk.specs.declared.disk.Part.{Part}
use Rattle.salt_disk.specs.declared.disk.Part.TheVariants.{Root, Even}
use Rattle.salt_disk.specs.Disk.{DiskState, part_of, IsSettled, Stays}
use Rattle.salt_disk.specs.Crash.{Image, LeavesOnly}
use Rattle.gate_journal.specs.declared.fault.CreateFault.{CreateFault}
use Rattle.gate_journal.specs.declared.fault.CreateFault.TheVariants.{NotEmpty, Disk}
use Rattle.gate_journal.specs.Layout.{fresh_length}
use Rattle.gate_journal.specs.Creation.{IsFresh}
use Rattle.gate_journal.specs.Calls.{LeavesAsBefore, BurnsAtOk}
use Rattle.checkpoint_log.specs.Content.{LogContent, first_content, IsLog, bytes_in}

-- A log of this limit stands on the disk as it is made: both journals are empty, at rest and with nothing behind them.
pub record IsFreshLog (limit : ℕ) (disk : DiskState) : Type 0 where
  pub root : IsFresh limit (part_of disk Root)
  pub even : IsFresh limit (part_of disk Even)
  pub log : IsLog limit first_content (bytes_in disk)

-- nothing is pending on the parts on which a log is made
abbrev pub IsSettledForLog : DiskState → Type 0
IsSettledForLog disk = IsSettled (part_of disk Root) × IsSettled (part_of disk Even)

-- the part has no more bytes than an empty journal
abbrev pub IsShort : DiskState → Part → Type 0
IsShort disk part = length (part_of disk part).bytes ≤ fresh_length

-- so it is with both parts on which a log is made
abbrev pub AreShort : DiskState → Type 0
AreShort disk = IsShort disk Even × IsShort disk Root

-- A part on which a log is made is longer than an empty journal, and has so many bytes: that of the generation comes before the root.
abbrev pub HasLong : DiskState → ℕ → Type 0
HasLong disk n = (fresh_length < n)
    × ((n ≡ length (part_of disk Even).bytes) ⊎ (IsShort disk Even × (n ≡ length (part_of disk Root).bytes)))

-- No log that loads, or an empty one. Both parts are short, so that the log can be made again.
pub record HoldsNoPayload (image : Image) : Type 0 where
  pub short_even : length (image Even) ≤ fresh_length
  pub short_root : length (image Root) ≤ fresh_length
  pub here : (limit : ℕ) (content : LogContent) → IsLog limit content image → content ≡ first_content

-- A crash at any moment of the call leaves no log that loads, or an empty one.
abbrev pub LeavesNoPayload : {D : Type 0} → Ghosts D → D → D → Type 0
LeavesNoPayload disk old new = LeavesOnly disk.past disk.state old new HoldsNoPayload

-- So it is where both parts are short.
abbrev pub LeavesNoPayloadIfShort : {D : Type 0} → Ghosts D → D → D → Type 0
LeavesNoPayloadIfShort disk old new = AreShort (disk.state old) → LeavesNoPayload disk old new

-- Where one of them is longer, a crash at any moment of the call leaves what a crash before it could leave.
abbrev pub LeavesAsBeforeIfOneIsLong : {D : Type 0} → Ghosts D → D → D → Type 0
LeavesAsBeforeIfOneIsLong disk old new = (n : ℕ) → HasLong (disk.state old) n → LeavesAsBefore disk old new

-- Where it answers `NotEmpty`, a part has so many bytes, and the disk is as it was.
abbrev pub TellsLong : {D T : Type 0} → Ghosts D → D → D → Result T CreateFault → Type 0
TellsLong disk old new result = (n : ℕ) → IsErrOf result (NotEmpty n) → HasLong (disk.state old) n × (new ≡ old)

-- A part that is longer than an empty journal is refused with its length, but where the disk fails.
abbrev pub RefusesOneLong : {T : Type 0} → DiskState → Result T CreateFault → Type 0
RefusesOneLong disk result = (n : ℕ) → HasLong disk n → IsErrOf result (NotEmpty n) ⊎ IsErrOf result Disk

-- Where a part is longer than an empty journal, the disk stays as it was.
abbrev pub StaysIfOneIsLong : {D : Type 0} → Ghosts D → D → D → Type 0
StaysIfOneIsLong disk old new = (n : ℕ) → HasLong (disk.state old) n → Stays disk.past disk.state old new

-- What a create of a log of this limit leaves, and why it is refused, on a disk that tells what it holds.
pub record CreatesLog {D T : Type 0} (disk : Ghosts D) (old new : D) (limit : ℕ) (result : Result T CreateFault) : Type 0 where
  -- at Ok an empty log of this limit is there
  pub ok : OnOk result (IsFreshLog limit (disk.state new))
  -- a crash at any moment leaves no log that loads, or an empty one; where a part is longer than an empty journal, what it could leave before
  pub any_moment : LeavesNoPayloadIfShort disk old new
  pub long_moment : LeavesAsBeforeIfOneIsLong disk old new
  -- it makes eight changing calls
  pub fuse : BurnsAtOk 8 disk.fuse Disk old new result
  -- a part that is longer than an empty journal is the one cause beside the disk, and always told
  pub not_empty : TellsLong disk old new result
  pub complete : RefusesOneLong (disk.state old) result
  pub same : StaysIfOneIsLong disk old new

-- At Ok the answer is the length of the first part that is too long, if there is one. No public contract cites it.
abbrev pub FindsLong : {E : Type 0} → DiskState → Result (Option ℕ) E → Type 0
FindsLong disk result = IfOk result (λ found. MatchOption found (AreShort disk) (λ n. HasLong disk n))

-- The answer is not that a part has bytes already. No public contract cites it.
abbrev pub IsNeverLong : {T : Type 0} → Result T CreateFault → Type 0
IsNeverLong result = (n : ℕ) → IsErrOf result (NotEmpty n) → ⊥
