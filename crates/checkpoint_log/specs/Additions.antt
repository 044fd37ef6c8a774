-- What an append to a log leaves, by its answer and where it was stopped.
use Rattle.std.specs.Prelude.{◌≡◌, ◌⊎◌, ◌==◌, nat_le, ℕ, if◌then◌else◌, List, Result, Ok, Err, OnOk, IsErrOf, false}
use Rattle.salt_disk.specs.declared.disk.Disk.{Ghosts}
use Rattle.salt_disk.specs.declared.disk.Part.{Part}
use Rattle.salt_disk.specs.declared.disk.Fuse.{Fuse}
use Rattle.salt_disk.specs.Disk.{DiskState, part_of}
use Rattle.salt_disk.specs.Crash.{Image, MayLeave, LeavesOnly}
use Rattle.salt_disk.specs.Fuse.{Passes, fuse_after}
use Rattle.salt_disk.specs.Memory.{IsPicked}
use Rattle.gate_journal.specs.declared.fault.AppendFault.{AppendFault}
use Rattle.gate_journal.specs.declared.fault.AppendFault.TheVariants.{NoMemory, Down, Full, Disk}
use Rattle.gate_journal.specs.Layout.{open_gate}
use Rattle.gate_journal.specs.Journal.{JournalState}
use Rattle.checkpoint_log.specs.Content.{LogContent, content_after, IsLog, HoldsContent}

-- what the log then holds: the new payload at the end, where it answered Ok
abbrev pub content_by_answer : {T : Type 0} → Result T AppendFault → LogContent → List ℕ → LogContent
content_by_answer (Ok done) content payload = content_after content payload
content_by_answer (Err fault) content payload = content

-- the image is a log with the content from before, or with the payload more
abbrev pub IsOldOrNewLog : ℕ → LogContent → List ℕ → Image → Type 0
IsOldOrNewLog limit content payload image = IsLog limit content image ⊎ IsLog limit (content_after content payload) image

-- what a crash leaves from then on: after Ok a log with the payload, after `Disk` either, after any other refusal the content from before
abbrev pub IsLogLeftAfter : {T : Type 0} → Result T AppendFault → ℕ → LogContent → List ℕ → Image → Type 0
IsLogLeftAfter (Ok done) limit content payload image = IsLog limit (content_after content payload) image
IsLogLeftAfter (Err NoMemory) limit content payload image = IsLog limit content image
IsLogLeftAfter (Err Down) limit content payload image = IsLog limit content image
IsLogLeftAfter (Err (Full length most)) limit content payload image = IsLog limit content image
IsLogLeftAfter (Err Disk) limit content payload image = IsOldOrNewLog limit content payload image

-- what is left of an append where its gate is unsure and a crash picks this byte: an open gate has the payload
abbrev pub content_by_gate : ℕ → LogContent → List ℕ → LogContent
content_by_gate pick content payload = if pick == open_gate then content_after content payload else content

-- what is left of an append of which so many calls passed: from its third call on the gate decides
abbrev pub content_by_stop : ℕ → ℕ → LogContent → List ℕ → LogContent
content_by_stop calls pick content payload = if nat_le 2 calls then content_by_gate pick content payload else content

-- An append that failed. In its first two calls it left the content from before; in its last two the byte decides that the
-- crash picks for unsure places.
pub record IsStoppedLog (limit : ℕ) (content : LogContent) (payload : List ℕ) (before : Fuse) (now : DiskState) : Type 0 where
  pub early : (Passes 2 before → ⊥) → (image : Image) → MayLeave now image → IsLog limit content image
  pub late : Passes 2 before → (pick cut : ℕ) (image : Image) → MayLeave now image
      → ((part : Part) → IsPicked pick cut (part_of now part) (image part)) → IsLog limit (content_by_gate pick content payload) image

-- An append makes four changing calls. A disk that tells which calls fail tells what an append that failed has left.
pub record LogBurns {T : Type 0} (log : JournalState) (payload : List ℕ) (before now : Fuse) (old new : DiskState)
    (result : Result T AppendFault) : Type 0 where
  pub passed : OnOk result (Passes 4 before × (now ≡ fuse_after 4 before))
  pub not_passed : IsErrOf result Disk → Passes 4 before → ⊥
  pub stopped : IsErrOf result Disk → (content : LogContent) → HoldsContent log content old
      → IsStoppedLog log.limit content payload before new

-- On a disk that tells what it holds: after every answer but `Disk` the log stands there with the content that it then has.
abbrev pub HoldsContentAfter : {D T : Type 0} → Ghosts D → D → D → JournalState → JournalState → List ℕ → Result T AppendFault → Type 0
HoldsContentAfter disk old new log after payload result = disk.is_told → (IsErrOf result Disk → ⊥)
    → (content : LogContent) → HoldsContent log content (disk.state old) → HoldsContent after (content_by_answer result content payload) (disk.state new)

-- On a disk that tells what it holds: a crash at any moment of the call leaves the content from before it, or with the payload more.
abbrev pub LeavesOldOrNewLog : {D : Type 0} → Ghosts D → D → D → JournalState → List ℕ → Type 0
LeavesOldOrNewLog disk old new log payload = disk.is_told → log.is_down ≡ false
    → (content : LogContent) → HoldsContent log content (disk.state old)
    → LeavesOnly disk.past disk.state old new (IsOldOrNewLog log.limit content payload)

-- On a disk that tells what it holds: once the call has answered, the answer says which of the two a crash leaves.
abbrev pub LeavesLogByAnswer : {D T : Type 0} → Ghosts D → D → D → JournalState → List ℕ → Result T AppendFault → Type 0
LeavesLogByAnswer disk old new log payload result = disk.is_told → log.is_down ≡ false
    → (content : LogContent) → HoldsContent log content (disk.state old)
    → (image : Image) → MayLeave (disk.state new) image → IsLogLeftAfter result log.limit content payload image

-- On a disk that tells which calls fail: what is so of an append by its four changing calls.
abbrev pub BurnsByLogAppend : {D T : Type 0} → Ghosts D → D → D → JournalState → List ℕ → Result T AppendFault → Type 0
BurnsByLogAppend disk old new log payload result =
    disk.is_told → LogBurns log payload (disk.fuse old) (disk.fuse new) (disk.state old) (disk.state new) result
