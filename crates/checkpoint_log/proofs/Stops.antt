-- What a disk in memory keeps after a call that its fuse cut off, and a crash.
use Rattle.std.proofs.Common.{◌≡◌, ℕ, leb, Bool, true, false, if◌then◌else◌, List, refl, arith, Result, IsErrOf}
use Rattle.std.proofs.lemmas.Bool.{leb-true, le-leb}
use Rattle.std.proofs.lemmas.List.{ext_get_or}
use Rattle.salt_disk.specs.declared.disk.Part.{Part}
use Rattle.salt_disk.specs.declared.disk.Fuse.{Fuse}
use Rattle.salt_disk.specs.declared.disk.Fuse.TheVariants.{Armed}
use Rattle.salt_disk.specs.Disk.{DiskState, part_of, settled_part}
use Rattle.salt_disk.specs.Crash.{Image, MayLeave}
use Rattle.salt_disk.specs.Memory.{IsPicked}
use Rattle.gate_journal.specs.declared.fault.AppendFault.{AppendFault}
use Rattle.gate_journal.specs.declared.fault.AppendFault.TheVariants.{Disk}
use Rattle.gate_journal.specs.Journal.{JournalState}
use Rattle.gate_journal.proofs.Store.{journal_length-push}
use Rattle.checkpoint_log.specs.Content.{LogContent, IsLog, HoldsContent}
use Rattle.checkpoint_log.specs.Additions.{LogBurns, content_by_gate}
use Rattle.checkpoint_log.specs.Laws.{LengthsFollow}

-- a part at rest is left as it reads, whatever is picked
pub picked_rests : (pick cut : ℕ) (bytes file : List ℕ) → IsPicked pick cut (settled_part bytes) file → file ≡ bytes
picked_rests pick cut bytes file is =
    ext_get_or 0 file bytes (omega (arith, is.long)) (λ i inside. is.kept i (omega (arith, is.long, inside)) (λ none. none))

-- an append that was cut off keeps its payload exactly from its third call on, where an open gate was picked
pub stop_rule : {T : Type 0} (log : JournalState) (content : LogContent) (payload : List ℕ) (calls : ℕ) (now : Fuse) (old new : DiskState) (result : Result T AppendFault)
    → LogBurns log payload (Armed calls) now old new result → HoldsContent log content old → IsErrOf result Disk
    → (pick cut : ℕ) (image : Image) → MayLeave new image → ((part : Part) → IsPicked pick cut (part_of new part) (image part))
    → IsLog log.limit (if leb 2 calls then content_by_gate pick content payload else content) image
stop_rule log content payload calls now old new result burns holds failed pick cut image may is =
    by (leb 2 calls) refl
  where
    by : (b : Bool) → leb 2 calls ≡ b → IsLog log.limit (if b then content_by_gate pick content payload else content) image
    by true e = (burns.stopped failed content holds).late (leb-true 2 calls e) pick cut image may is
    by false e = (burns.stopped failed content holds).early (λ passes. absurd (cc (le-leb 2 calls passes, e))) image may

pub lengths : LengthsFollow
lengths = record {
  log = λ log content disk holds. holds.rest.counts;
  first = refl;
  next = λ content payload. journal_length-push content.rest payload;
}
