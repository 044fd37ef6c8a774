-- What a load of a log answers for the bytes of a disk, and when.
use Rattle.std.specs.Prelude.{◌≡◌, ◌≤◌, ◌⊎◌, ◌==◌, ℕ, false, List, [], ◌∷◌, length, Option, Some, None, Result, Ok, Err, IfOk, OnOk, IsErrOf, if◌then◌else◌}
use Rattle.salt_disk.specs.declared.disk.Disk.{Ghosts}
use Rattle.salt_disk.specs.declared.disk.Part.{Part}
use Rattle.salt_disk.specs.declared.disk.Part.TheVariants.{Root, Even}
use Rattle.salt_disk.specs.declared.disk.Fuse.{Fuse}
use Rattle.salt_disk.specs.Disk.{DiskState, part_of, IsSettled}
use Rattle.salt_disk.specs.Crash.{Image}
use Rattle.salt_disk.specs.Fuse.{Passes, fuse_after}
use Rattle.salt_disk.specs.declared.disk.DiskFault.{DiskFault}
use Rattle.salt_disk.specs.declared.disk.DiskFault.TheVariants.{Failed}
use Rattle.gate_journal.specs.declared.fault.LoadFault.{LoadFault}
use Rattle.gate_journal.specs.declared.fault.LoadFault.TheVariants.{NoMemory, Disk, NotAJournal, Damaged}
use Rattle.gate_journal.specs.Layout.{first_gate, greatest_limit}
use Rattle.gate_journal.specs.Journal.{JournalState, IsJournal, journal_length}
use Rattle.gate_journal.specs.Payloads.{PlacedPayloads}
use Rattle.gate_journal.specs.Damage.{IsNoJournal, IsDamagedAt, IsAccepted, IsRefused}
use Rattle.gate_journal.specs.Load.{IsUpOn, HasLength}
use Rattle.checkpoint_log.specs.Content.{LogContent, IsLog, HoldsContent, bytes_in, content_length}
use Rattle.checkpoint_log.specs.declared.content.LoadedContent.{LoadedContent}

-- what was loaded, without the places of its records
abbrev pub content_of : LoadedContent → LogContent
content_of loaded = record { base = loaded.base; rest = loaded.rest.items }

-- the gate of the first payload stands where the journal's records begin: so far no base comes before it
abbrev pub BeginsAtFirstGate : LoadedContent → Type 0
BeginsAtFirstGate loaded = loaded.rest.first ≡ first_gate

-- At Ok the log stands on the disk with what was loaded.
abbrev pub HoldsLoaded : {E : Type 0} → DiskState → Result (JournalState × LoadedContent) E → Type 0
HoldsLoaded disk result = IfOk result (λ r. HoldsContent r.0 (content_of r.1) disk)

-- At Ok the log is up, and the places of its payloads are known.
abbrev pub LoadsUpLog : {E : Type 0} → Result (JournalState × LoadedContent) E → Type 0
LoadsUpLog result = IfOk result (λ r. (r.0.is_down ≡ false) × BeginsAtFirstGate r.1)

-- The log has the length of this content, which is within its limit, and this is no greater than any journal's may be.
pub record HasContentLength (log : JournalState) (content : LogContent) : Type 0 where
  pub counts : log.length ≡ content_length content
  pub within : log.length ≤ log.limit
  pub greatest : log.limit ≤ greatest_limit

-- At Ok the log has the length of what was loaded.
abbrev pub LoadsWithin : {E : Type 0} → Result (JournalState × LoadedContent) E → Type 0
LoadsWithin result = IfOk result (λ r. HasContentLength r.0 (content_of r.1))

-- The root is a journal without a record, so that it names generation 0.
pub record NamesFirst (image : Image) : Type 0 where
  pub limit : ℕ
  pub root : IsJournal limit [] (image Root)

-- The root is a journal with a record, and so far no generation but the first is known.
pub record NamesAnother (image : Image) : Type 0 where
  pub limit : ℕ
  pub first : List ℕ
  pub others : List (List ℕ)
  pub root : IsJournal limit (first ∷ others) (image Root)

-- This part of the log is damaged at this place: the faults of the root come first.
abbrev pub IsDamagedLog : Image → Part → ℕ → Type 0
IsDamagedLog image part at =
    ((part ≡ Root) × IsDamagedAt at (image Root))
    ⊎ ((part ≡ Root) × (at ≡ first_gate) × NamesAnother image)
    ⊎ ((part ≡ Even) × NamesFirst image × IsDamagedAt at (image Even))

-- The root is no journal, or it names generation 0, which is none.
abbrev pub LacksJournal : Image → Type 0
LacksJournal image = IsNoJournal (image Root) ⊎ (NamesFirst image × IsNoJournal (image Even))

-- the bytes have this fault
abbrev pub HasLogFault : LoadFault → Image → Type 0
HasLogFault NoMemory image = ⊥
HasLogFault Disk image = ⊥
HasLogFault NotAJournal image = LacksJournal image
HasLogFault (Damaged part at) image = IsDamagedLog image part at

-- A fault that was told is one of the bytes. Want of memory and a disk that fails tell nothing of them.
abbrev pub TellsOfLog : LoadFault → Image → Type 0
TellsOfLog NoMemory image = Unit {0}
TellsOfLog Disk image = Unit {0}
TellsOfLog NotAJournal image = HasLogFault NotAJournal image
TellsOfLog (Damaged part at) image = HasLogFault (Damaged part at) image

-- The answer tells no fault but one of these bytes.
abbrev pub TellsLogFault : {T : Type 0} → Image → Result T LoadFault → Type 0
TellsLogFault image result = (fault : LoadFault) → IsErrOf result fault → TellsOfLog fault image

-- What the bytes are is answered so, but for want of memory and a disk that fails: a log is found with its limit and its
-- content, and each fault is told.
pub record AnswersEachLog (image : Image) (result : Result (JournalState × LoadedContent) LoadFault) : Type 0 where
  pub accepts : (limit : ℕ) (content : LogContent) → IsLog limit content image
      → IsAccepted result × IfOk result (λ r. (r.0.limit ≡ limit) × (content_of r.1 ≡ content))
  pub refuses : (fault : LoadFault) → HasLogFault fault image → IsRefused fault result

-- A read of each part gives what it gave before.
abbrev pub KeepsAllBytes : {D : Type 0} → Ghosts D → D → D → Type 0
KeepsAllBytes disk old new = (part : Part) → bytes_in (disk.state new) part ≡ bytes_in (disk.state old) part

-- nothing is pending on any part
abbrev pub AreSettled : DiskState → Type 0
AreSettled disk = (part : Part) → IsSettled (part_of disk part)

-- All parts are at rest, but where the answer is `Disk` or want of memory.
abbrev pub SettlesAll : {T : Type 0} → DiskState → Result T LoadFault → Type 0
SettlesAll disk result = (IsErrOf result Disk → ⊥) → (IsErrOf result NoMemory → ⊥) → AreSettled disk

-- Three changing calls passed, but where the answer is `Disk` or want of memory, and `Disk` comes only where not so many could pass.
pub record BurnsByLoad {T : Type 0} (before now : Fuse) (result : Result T LoadFault) : Type 0 where
  pub passed : (IsErrOf result Disk → ⊥) → (IsErrOf result NoMemory → ⊥) → Passes 3 before × (now ≡ fuse_after 3 before)
  pub not_passed : IsErrOf result Disk → Passes 3 before → ⊥

-- What a part is read as, by its bytes. No public contract cites it.
pub record IsReadAs (part : Part) (bytes : List ℕ) (result : Result (JournalState × PlacedPayloads) LoadFault) : Type 0 where
  pub found : IfOk result (λ r. IsJournal r.0.limit r.1.items bytes × (r.0.length ≡ journal_length r.1.items))
  pub none : IsErrOf result NotAJournal → IsNoJournal bytes
  pub damaged : (p : Part) (at : ℕ) → IsErrOf result (Damaged p at) → (p ≡ part) × IsDamagedAt at bytes

-- A journal stands on this part and is up, with the places of its payloads and their length. No public contract cites it.
pub record IsUpWith (part : Part) (journal : JournalState) (payloads : PlacedPayloads) : Type 0 where
  pub journal_is : IsUpOn part journal
  pub placed : payloads.first ≡ first_gate
  pub size : HasLength journal payloads.items

-- A journal that was read is such a one. No public contract cites it.
abbrev pub HasUpJournal : Part → Result (JournalState × PlacedPayloads) LoadFault → Type 0
HasUpJournal part result = IfOk result (λ r. IsUpWith part r.0 r.1)

-- What was read is an answer on the bytes. No public contract cites it.
pub record IsOfBytes {T : Type 0} (result : Result T LoadFault) : Type 0 where
  pub disk : IsErrOf result Disk → ⊥
  pub memory : IsErrOf result NoMemory → ⊥

-- Why the root, as it was read, does not name generation 0. No public contract cites it.
abbrev pub root_fault : Result (JournalState × PlacedPayloads) LoadFault → Option LoadFault
root_fault (Err fault) = Some fault
root_fault (Ok root) = if length root.1.items == 0 then None else Some (Damaged Root first_gate)

-- A log that was read is the one of these bytes, and a fault that was told is one of them. No public contract cites it.
pub record IsGeneration (image : Image) (result : Result (JournalState × LoadedContent) LoadFault) : Type 0 where
  pub found : IfOk result (λ r. IsLog r.0.limit (content_of r.1) image × (r.0.length ≡ content_length (content_of r.1)))
  pub faulty : TellsLogFault image result

-- What was read of the root and of generation 0 gives the log of these bytes, or a fault of them. No public contract cites it.
abbrev pub GivesGeneration : Result (JournalState × PlacedPayloads) LoadFault → Result (JournalState × PlacedPayloads) LoadFault → Result (JournalState × LoadedContent) LoadFault → Type 0
GivesGeneration root even result = (image : Image) → IsReadAs Root (image Root) root → IsReadAs Even (image Even) even → IsGeneration image result

-- So many changing calls passed at Ok, and the disk failed only where not so many could pass. No public contract cites it.
pub record BurnsCalls {T : Type 0} (calls : ℕ) (before now : Fuse) (result : Result T DiskFault) : Type 0 where
  pub passed : OnOk result (Passes calls before × (now ≡ fuse_after calls before))
  pub not_passed : IsErrOf result Failed → Passes calls before → ⊥

-- What was read of the root and of generation 0. No public contract cites it.
abbrev pub AreReadAs : {E : Type 0} → Image → Result (Result (JournalState × PlacedPayloads) LoadFault × Result (JournalState × PlacedPayloads) LoadFault) E → Type 0
AreReadAs image result = IfOk result (λ r. IsReadAs Root (image Root) r.0 × IsReadAs Even (image Even) r.1)

-- Both are answers on the bytes. No public contract cites it.
abbrev pub AreOfBytes : {T U E : Type 0} → Result (Result T LoadFault × Result U LoadFault) E → Type 0
AreOfBytes result = IfOk result (λ r. IsOfBytes r.0 × IsOfBytes r.1)
