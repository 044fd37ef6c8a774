-- What a load answers for the bytes of a part, and when.
use Rattle.std.specs.Prelude.{◌≡◌, ◌≤◌, ℕ, false, List, Result, IsErrOf, IfOk}
use Rattle.salt_disk.specs.declared.disk.Disk.{Ghosts}
use Rattle.salt_disk.specs.declared.disk.Part.{Part}
use Rattle.salt_disk.specs.Disk.{DiskState, part_of}
use Rattle.gate_journal.specs.declared.fault.LoadFault.{LoadFault}
use Rattle.gate_journal.specs.declared.fault.LoadFault.TheVariants.{NotAJournal, Damaged}
use Rattle.gate_journal.specs.Layout.{greatest_limit}
use Rattle.gate_journal.specs.Journal.{JournalState, IsJournal, journal_length}
use Rattle.gate_journal.specs.Payloads.{PlacedPayloads}
use Rattle.gate_journal.specs.Damage.{IsNoJournal, IsDamagedAt, IsAccepted, IsRefused}

-- The journal stands on this part, and is up.
pub record IsUpOn (part : Part) (journal : JournalState) : Type 0 where
  pub stands : journal.part ≡ part
  pub up : journal.is_down ≡ false

-- The journal has the length of these payloads, which is within its limit, and this is no greater than any journal's may be.
pub record HasLength (journal : JournalState) (payloads : List (List ℕ)) : Type 0 where
  pub counts : journal.length ≡ journal_length payloads
  pub within : journal.length ≤ journal.limit
  pub greatest : journal.limit ≤ greatest_limit

-- Where it answers `NotAJournal`, the part has none.
abbrev pub TellsNoJournal : {T : Type 0} → DiskState → Part → Result T LoadFault → Type 0
TellsNoJournal disk part result = IsErrOf result NotAJournal → IsNoJournal (part_of disk part).bytes

-- Where it answers `Damaged`, it names this part, and on a disk that tells what it holds the part is damaged at that place.
abbrev pub TellsDamage : {D T : Type 0} → Ghosts D → D → Part → Result T LoadFault → Type 0
TellsDamage disk old part result =
    (p : Part) (at : ℕ) → IsErrOf result (Damaged p at) → (p ≡ part) × (disk.is_told → IsDamagedAt at (part_of (disk.state old) part).bytes)

-- What stands on the part is answered so, but for want of memory and a disk that fails: a journal is found with its limit and
-- its payloads, a part that has none is refused for that, and so is a damaged one, with the place.
pub record AnswersEach (disk : DiskState) (part : Part) (result : Result (JournalState × PlacedPayloads) LoadFault) : Type 0 where
  pub accepts : (limit : ℕ) (payloads : List (List ℕ)) → IsJournal limit payloads (part_of disk part).bytes
      → IsAccepted result × IfOk result (λ r. (r.0.limit ≡ limit) × (r.1.items ≡ payloads))
  pub refuses : IsNoJournal (part_of disk part).bytes → IsRefused NotAJournal result
  pub refuses_damaged : (at : ℕ) → IsDamagedAt at (part_of disk part).bytes → IsRefused (Damaged part at) result
