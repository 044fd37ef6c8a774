-- What a memory disk's record of calls stands for.
use Rattle.std.specs.Prelude.{◌≡◌, ◌+◌, ◌*◌, ◌≤◌, ◌==◌, ◌&&◌, ℕ, max, Bool, true, false, if◌then◌else◌, List, [], ◌∷◌, ◌++◌, length, take, count_by}
use Rattle.salt_disk.specs.declared.disk.Part.{Part}
use Rattle.salt_disk.specs.declared.disk.Part.TheVariants.{Root, Even, Odd}
use Rattle.salt_disk.specs.declared.call.Call.{Call}
use Rattle.salt_disk.specs.declared.call.Call.TheVariants.{Write, Cut, Sync}
use Rattle.salt_disk.specs.Disk.{PartState, DiskState, part_of, settled_part, put, ranges_of}
use Rattle.salt_disk.specs.Crash.{PassesTime}

-- the disk with this state of one part
abbrev pub with_part : DiskState → Part → PartState → DiskState
with_part disk Root part = record { root = part; even = disk.even; odd = disk.odd }
with_part disk Even part = record { root = disk.root; even = part; odd = disk.odd }
with_part disk Odd part = record { root = disk.root; even = disk.even; odd = part }

-- a part after a write that went well
abbrev pub wrote : PartState → ℕ → List ℕ → PartState
wrote part at bytes = record {
  bytes = put at bytes part.bytes;
  unsure = part.unsure ++ ranges_of at bytes;
  least = part.least;
  greatest = max part.greatest (at + length bytes);
}

-- a part after a cut
abbrev pub after_cut : PartState → PartState
after_cut part = record { bytes = []; unsure = part.unsure; least = 0; greatest = part.greatest }

-- the disk after a call of the record
abbrev pub step : DiskState → Call → DiskState
step disk (Write part at bytes) = with_part disk part (wrote (part_of disk part) at bytes.items)
step disk (Cut part) = with_part disk part (after_cut (part_of disk part))
step disk (Sync part count) = with_part disk part (settled_part (take count (part_of disk part).bytes))

-- the state before each call
abbrev pub states : DiskState → List Call → List DiskState
states disk [] = []
states disk (call ∷ calls) = disk ∷ states (step disk call) calls

-- The state after all of them. No public contract cites it.
abbrev pub replay : DiskState → List Call → DiskState
replay disk [] = disk
replay disk (call ∷ calls) = replay (step disk call) calls

-- The calls of the record lead to this part, but that they may leave more bytes behind its end, where a cut that changes no image was made. No public contract cites it.
pub record LeadsTo (replayed part : PartState) : Type 0 where
  pub bytes : part.bytes ≡ take (length part.bytes) replayed.bytes
  pub unsure : part.unsure ≡ replayed.unsure
  pub least : part.least ≡ replayed.least
  pub greatest : part.greatest ≡ replayed.greatest

-- The calls of the record lead to each part of this disk. No public contract cites it.
abbrev pub Replays : DiskState → DiskState → Type 0
Replays replayed disk = (part : Part) → LeadsTo (part_of replayed part) (part_of disk part)

-- a disk of these bytes, with nothing pending
abbrev pub whole : List ℕ → List ℕ → List ℕ → DiskState
whole root even odd = record { root = settled_part root; even = settled_part even; odd = settled_part odd }

-- Whether nothing is pending. No public contract cites it.
abbrev pub is_calm : PartState → Bool
is_calm part = (length part.unsure == 0) && (part.least == part.greatest)

-- How many entries the part may still need before its next write: a sync, a cut and a sync. No public contract cites it.
abbrev pub entries_owed : PartState → ℕ
entries_owed part = (if is_calm part then 0 else 1) + (if length part.bytes == 0 then 0 else 2)

-- The same over all parts. No public contract cites it.
abbrev pub owed_by : DiskState → ℕ
owed_by disk = entries_owed disk.root + entries_owed disk.even + entries_owed disk.odd

-- Whether the call is a write. No public contract cites it.
abbrev pub is_write : Call → Bool
is_write (Write part at bytes) = true
is_write (Cut part) = false
is_write (Sync part count) = false

-- How many parts have bytes. No public contract cites it.
abbrev pub filled_parts : DiskState → ℕ
filled_parts disk = (if length disk.root.bytes == 0 then 0 else 1) + (if length disk.even.bytes == 0 then 0 else 1) + (if length disk.odd.bytes == 0 then 0 else 1)

-- The most entries of a record: each write with a cut and two syncs, and a cut and two syncs for each part that began with bytes. No public contract cites it.
abbrev pub most_entries : DiskState → List Call → ℕ
most_entries first calls = 4 * count_by is_write calls + 3 * filled_parts first

-- The record has room within its bound for what the parts may still need. No public contract cites it.
abbrev pub IsBounded : DiskState → List Call → DiskState → Type 0
IsBounded first calls disk = length calls + owed_by disk ≤ most_entries first calls

-- The record of calls goes on with the disk, from whatever state it began. No public contract cites it.
pub record IsRecorded (old new : DiskState) (calls since : List Call) : Type 0 where
  pub kept : (first : DiskState) → Replays (replay first calls) old → Replays (replay first since) new
  pub time : (first : DiskState) → Replays (replay first calls) old → PassesTime old new (states first calls) (states first since)
  pub bounded : (first : DiskState) → IsBounded first calls old → IsBounded first since new
