-- What an append leaves by its answer, and when each answer comes.
use Rattle.std.specs.Prelude.{◌≡◌, ◌⊎◌, ◌<◌, ◌+◌, ℕ, true, false, List, [], ◌∷◌, ◌++◌, Result, Ok, Err, OnOk, IsErrOf}
use Rattle.salt_disk.specs.declared.disk.Disk.{Ghosts}
use Rattle.salt_disk.specs.declared.disk.Fuse.{Fuse}
use Rattle.salt_disk.specs.Disk.{DiskState}
use Rattle.salt_disk.specs.Crash.{Image, MayLeave, LeavesOnly}
use Rattle.salt_disk.specs.Fuse.{Passes, fuse_after}
use Rattle.gate_journal.specs.declared.fault.AppendFault.{AppendFault}
use Rattle.gate_journal.specs.declared.fault.AppendFault.TheVariants.{NoMemory, Down, Full, Disk}
use Rattle.gate_journal.specs.Layout.{record_overhead}
use Rattle.gate_journal.specs.Journal.{JournalState, IsJournal, HoldsPayloads, HoldsOldOrNew, StoppedAppend}
use Rattle.gate_journal.specs.Calls.{LeavesAsBefore}

-- the payloads that the journal has then: the new one at the end, where it answered Ok
abbrev pub payloads_after : {T : Type 0} → Result T AppendFault → List (List ℕ) → List ℕ → List (List ℕ)
payloads_after (Ok done) payloads payload = payloads ++ payload ∷ []
payloads_after (Err fault) payloads payload = payloads

-- the journal after an append of a payload of so many bytes: it is down from an answer `Disk` on, and changed by no other refusal
abbrev pub after_append : {T : Type 0} → JournalState → ℕ → Result T AppendFault → JournalState
after_append journal count (Ok done) = record { part = journal.part; limit = journal.limit; length = journal.length + record_overhead + count; is_down = journal.is_down }
after_append journal count (Err NoMemory) = journal
after_append journal count (Err Down) = journal
after_append journal count (Err (Full length limit)) = journal
after_append journal count (Err Disk) = record { part = journal.part; limit = journal.limit; length = journal.length; is_down = true }

-- what a crash leaves of the part from then on: after Ok the new payloads alone, after `Disk` either, after any other refusal the old ones
abbrev pub LeftAfter : {T : Type 0} → Result T AppendFault → ℕ → List (List ℕ) → List ℕ → List ℕ → Type 0
LeftAfter (Ok done) limit payloads payload file = IsJournal limit (payloads ++ payload ∷ []) file
LeftAfter (Err NoMemory) limit payloads payload file = IsJournal limit payloads file
LeftAfter (Err Down) limit payloads payload file = IsJournal limit payloads file
LeftAfter (Err (Full length most)) limit payloads payload file = IsJournal limit payloads file
LeftAfter (Err Disk) limit payloads payload file = IsJournal limit payloads file ⊎ IsJournal limit (payloads ++ payload ∷ []) file

-- An append makes four changing calls. A disk that tells which calls fail tells what an append that failed has left.
pub record AppendBurns {T : Type 0} (journal : JournalState) (payload : List ℕ) (before now : Fuse) (old new : DiskState)
    (result : Result T AppendFault) : Type 0 where
  pub passed : OnOk result (Passes 4 before × (now ≡ fuse_after 4 before))
  pub not_passed : IsErrOf result Disk → Passes 4 before → ⊥
  pub stopped : IsErrOf result Disk → (payloads : List (List ℕ)) → HoldsPayloads journal payloads old
      → StoppedAppend journal.part journal.limit journal.length payloads payload before new

-- the answer is `Down` exactly where the journal was down, and the disk is as it was
pub record DownExactly {D T : Type 0} (journal : JournalState) (old new : D) (result : Result T AppendFault) : Type 0 where
  pub down : IsErrOf result Down → (journal.is_down ≡ true) × (new ≡ old)
  pub is_down : journal.is_down ≡ true → IsErrOf result Down

-- The answer is `Full` exactly where a journal that is up would go past its limit with a payload of so many bytes.
-- It tells the length that the journal would have and the limit, and the disk is as it was.
pub record FullExactly {D T : Type 0} (journal : JournalState) (count : ℕ) (old new : D) (result : Result T AppendFault) : Type 0 where
  pub full : (n limit : ℕ) → IsErrOf result (Full n limit)
      → (n ≡ journal.length + record_overhead + count) × (limit ≡ journal.limit) × (limit < n) × (new ≡ old)
  pub no_room : journal.is_down ≡ false → journal.limit < journal.length + record_overhead + count
      → IsErrOf result (Full (journal.length + record_overhead + count) journal.limit)

-- The journal stands on the disk with some payloads, and nothing is pending on its part.
abbrev pub StandsOn : JournalState → DiskState → Type 0
StandsOn journal disk = (payloads : List (List ℕ)) × HoldsPayloads journal payloads disk

-- On a disk that tells what it holds: after every answer but `Disk` the journal stands there with the payloads that it then has.
abbrev pub HoldsAfter : {D T : Type 0} → Ghosts D → D → D → JournalState → JournalState → List ℕ → Result T AppendFault → Type 0
HoldsAfter disk old new journal after payload result = disk.is_told → (IsErrOf result Disk → ⊥)
    → (payloads : List (List ℕ)) → HoldsPayloads journal payloads (disk.state old) → HoldsPayloads after (payloads_after result payloads payload) (disk.state new)

-- On a disk that tells what it holds: a crash at any moment of the call leaves the payloads from before it, with the new one or without.
abbrev pub LeavesOldOrNew : {D : Type 0} → Ghosts D → D → D → JournalState → List ℕ → Type 0
LeavesOldOrNew disk old new journal payload = disk.is_told → journal.is_down ≡ false
    → (payloads : List (List ℕ)) → HoldsPayloads journal payloads (disk.state old)
    → LeavesOnly disk.past disk.state old new (HoldsOldOrNew journal.part journal.limit payloads payload (disk.state old))

-- On a disk that tells what it holds: once the call has answered, the answer says which of the two a crash leaves.
abbrev pub LeavesByAnswer : {D T : Type 0} → Ghosts D → D → D → JournalState → List ℕ → Result T AppendFault → Type 0
LeavesByAnswer disk old new journal payload result = disk.is_told → journal.is_down ≡ false
    → (payloads : List (List ℕ)) → HoldsPayloads journal payloads (disk.state old)
    → (image : Image) → MayLeave (disk.state new) image → LeftAfter result journal.limit payloads payload (image journal.part)

-- On a disk that tells what it holds: where the journal is down, a crash leaves what it could leave before.
abbrev pub LeavesAsBeforeIfDown : {D : Type 0} → Ghosts D → D → D → JournalState → Type 0
LeavesAsBeforeIfDown disk old new journal = disk.is_told → journal.is_down ≡ true → LeavesAsBefore disk old new

-- On a disk that tells which calls fail: what is so of an append by its four changing calls.
abbrev pub BurnsByAppend : {D T : Type 0} → Ghosts D → D → D → JournalState → List ℕ → Result T AppendFault → Type 0
BurnsByAppend disk old new journal payload result =
    disk.is_told → AppendBurns journal payload (disk.fuse old) (disk.fuse new) (disk.state old) (disk.state new) result
