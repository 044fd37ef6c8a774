-- What the bytes of a part stand for.
use Rattle.std.specs.Prelude.{◌≡◌, ◌≢◌, ◌⊎◌, ◌≤◌, ◌+◌, ◌-◌, ℕ, Bool, List, [], ◌∷◌, ◌++◌, length, slice_index}
use Rattle.byteorder.specs.Endian.{big_bytes}
use Rattle.salt_disk.specs.declared.disk.Part.{Part}
use Rattle.salt_disk.specs.Disk.{PartState, DiskState, part_of, IsSettled}
use Rattle.salt_disk.specs.declared.disk.Fuse.{Fuse}
use Rattle.salt_disk.specs.Crash.{Image, MayLeave, IsUnsure, OthersMayLeave}
use Rattle.salt_disk.specs.Fuse.{Passes}
use Rattle.gate_journal.specs.Layout.{journal_name, least_limit, greatest_limit, fresh_length, record_overhead, open_gate, closed_gate}

-- an open gate, the payload's length and the payload
abbrev pub record_of : List ℕ → List ℕ
record_of payload = open_gate ∷ (big_bytes 4 (length payload) ++ payload)

-- the records of these payloads, one behind the other
abbrev pub records : List (List ℕ) → List ℕ
records [] = []
records (payload ∷ payloads) = record_of payload ++ records payloads

-- the name of the format, and the limit
abbrev pub header : ℕ → List ℕ
header limit = journal_name ++ big_bytes 8 limit

-- a journal without payloads, as it is made: its header and a closed gate, and nothing behind it
abbrev pub fresh_journal : ℕ → List ℕ
fresh_journal limit = header limit ++ closed_gate ∷ []

-- the length of a journal: its header, its records and the closed gate
abbrev pub journal_length : List (List ℕ) → ℕ
journal_length payloads = fresh_length + length (records payloads)

-- These bytes are a journal of these payloads. What stands behind the closed gate means nothing.
pub record IsJournal (limit : ℕ) (payloads : List (List ℕ)) (bytes : List ℕ) : Type 0 where
  pub gate : ℕ
  pub rest : List ℕ
  pub shut : gate ≢ open_gate
  pub bytes_are : bytes ≡ (header limit ++ records payloads) ++ gate ∷ rest
  pub within : journal_length payloads ≤ limit
  pub least : least_limit ≤ limit
  pub greatest : limit ≤ greatest_limit

-- A loaded journal of this limit and length stands on this part: nothing is pending.
pub record Rests (limit len : ℕ) (payloads : List (List ℕ)) (part : PartState) : Type 0 where
  pub holds : IsJournal limit payloads part.bytes
  pub counts : len ≡ journal_length payloads
  pub is_settled : IsSettled part

-- What stands behind the gate of a record that is the last one: it ends with a closed gate. No public contract cites it.
abbrev pub tail_of : List ℕ → List ℕ
tail_of payload = (big_bytes 4 (length payload) ++ payload) ++ closed_gate ∷ []

-- These bytes go behind the closed gate, for this payload, and there is room for it. No public contract cites it.
pub record IsNext (limit len : ℕ) (payloads : List (List ℕ)) (payload body : List ℕ) (part : PartState) : Type 0 where
  pub rests : Rests limit len payloads part
  pub body_is : body ≡ tail_of payload
  pub room : len + record_overhead + length payload ≤ limit

-- A journal as its calls see it: where it stands, its limit and its length in bytes, and whether it is down.
pub record JournalState : Type 0 where
  pub part : Part
  pub limit : ℕ
  pub length : ℕ
  pub is_down : Bool

-- this journal stands on the disk with these payloads, and nothing is pending on its part
abbrev pub HoldsPayloads : JournalState → List (List ℕ) → DiskState → Type 0
HoldsPayloads journal payloads disk = Rests journal.limit journal.length payloads (part_of disk journal.part)

-- the part's image holds the payloads, with one more or without it, and the other parts are as they were
pub record HoldsOldOrNew (part : Part) (limit : ℕ) (payloads : List (List ℕ)) (payload : List ℕ) (old : DiskState) (image : Image) : Type 0 where
  pub here : IsJournal limit payloads (image part) ⊎ IsJournal limit (payloads ++ payload ∷ []) (image part)
  pub others : OthersMayLeave part old image

-- the gate of the new record decides which payloads the part holds
pub record DecidedByGate (limit gate : ℕ) (payloads : List (List ℕ)) (payload file : List ℕ) : Type 0 where
  pub opened : slice_index file gate ≡ open_gate → IsJournal limit (payloads ++ payload ∷ []) file
  pub shut : slice_index file gate ≢ open_gate → IsJournal limit payloads file

-- An append that failed. In its first two calls it left the payloads from before; in its last two the gate is unsure and decides.
pub record StoppedAppend (part : Part) (limit len : ℕ) (payloads : List (List ℕ)) (payload : List ℕ) (before : Fuse) (now : DiskState) : Type 0 where
  pub early : (Passes 2 before → ⊥) → (image : Image) → MayLeave now image → IsJournal limit payloads (image part)
  pub late : Passes 2 before → IsUnsure now part (len - 1) × ((image : Image) → MayLeave now image → DecidedByGate limit (len - 1) payloads payload (image part))
