-- Laws over logs and their images.
use Rattle.std.specs.Prelude.{◌≡◌, ◌+◌, ℕ, List, length, Result, IsErrOf}
use Rattle.salt_disk.specs.declared.disk.Part.{Part}
use Rattle.salt_disk.specs.declared.disk.Fuse.{Fuse}
use Rattle.salt_disk.specs.declared.disk.Fuse.TheVariants.{Armed}
use Rattle.salt_disk.specs.Disk.{DiskState, part_of, settled_part}
use Rattle.salt_disk.specs.Crash.{Image, MayLeave}
use Rattle.salt_disk.specs.Memory.{IsPicked}
use Rattle.gate_journal.specs.declared.fault.AppendFault.{AppendFault}
use Rattle.gate_journal.specs.declared.fault.AppendFault.TheVariants.{Disk}
use Rattle.gate_journal.specs.Layout.{fresh_length, record_overhead}
use Rattle.gate_journal.specs.Journal.{JournalState}
use Rattle.checkpoint_log.specs.Content.{LogContent, first_content, content_after, content_length, IsLog, HoldsContent}
use Rattle.checkpoint_log.specs.Additions.{LogBurns, content_by_stop}

-- An append that failed on a disk that lets so many changing calls pass leaves what these calls and the picked byte say:
-- the new payload is there exactly where it was in its third or fourth call and an open gate was picked.
abbrev pub StopsGoByTheGate : Type 0
StopsGoByTheGate =
    (log : JournalState) (content : LogContent) (payload : List ℕ) (calls : ℕ) (now : Fuse) (old new : DiskState) (result : Result (Unit {0}) AppendFault)
    → LogBurns log payload (Armed calls) now old new result → HoldsContent log content old → IsErrOf result Disk
    → (pick cut : ℕ) (image : Image) → MayLeave new image → ((part : Part) → IsPicked pick cut (part_of new part) (image part))
    → IsLog log.limit (content_by_stop calls pick content payload) image

-- A part at rest is left as it reads, whatever is picked.
abbrev pub RestsStay : Type 0
RestsStay = (pick cut : ℕ) (bytes file : List ℕ) → IsPicked pick cut (settled_part bytes) file → file ≡ bytes

-- Each crash of a disk on which a log stands leaves the log with its content.
abbrev pub LogsAtRestAreLeft : Type 0
LogsAtRestAreLeft =
    (log : JournalState) (content : LogContent) (disk : DiskState) → HoldsContent log content disk
    → (image : Image) → MayLeave disk image → IsLog log.limit content image

-- An image is a log of one limit and one content.
abbrev pub LogsAreOne : Type 0
LogsAreOne =
    (m n : ℕ) (c d : LogContent) (image : Image) → IsLog m c image → IsLog n d image → (m ≡ n) × (c ≡ d)

-- The length of a log that stands on a disk is that of its content, which grows by each payload and what a record has beside it.
pub record LengthsFollow : Type 0 where
  pub log : (log : JournalState) (content : LogContent) (disk : DiskState) → HoldsContent log content disk
      → log.length ≡ content_length content
  pub first : content_length first_content ≡ fresh_length
  pub next : (content : LogContent) (payload : List ℕ)
      → content_length (content_after content payload) ≡ content_length content + record_overhead + length payload
