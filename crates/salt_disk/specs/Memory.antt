-- What a memory disk tells.
use Rattle.std.specs.Prelude.{◌≡◌, ◌<◌, ◌≤◌, ◌+◌, ◌-◌, ◌⊎◌, min, ℕ, List, length, slice_index, slice_get, Result, OnOk}
use Rattle.std.specs.Option.{ForSome}
use Rattle.salt_disk.specs.declared.disk.Part.{Part}
use Rattle.salt_disk.specs.declared.disk.Part.TheVariants.{Root, Even, Odd}
use Rattle.salt_disk.specs.Crash.{IsWithin, MayLeave}
use Rattle.salt_disk.specs.declared.part.MemPart.{MemPart}
use Rattle.salt_disk.specs.declared.part.Parts.{Parts}
use Rattle.salt_disk.specs.Disk.{PartState, DiskState, part_of, IsHonest, IsSettled}

-- what a part in memory tells
abbrev pub part_state : MemPart → PartState
part_state part = record { bytes = part.bytes.items; unsure = part.unsure.items; least = part.least; greatest = part.greatest }

-- what the three parts tell
abbrev pub parts_state : Parts → DiskState
parts_state parts = record { root = part_state parts.root; even = part_state parts.even; odd = part_state parts.odd }

-- a disk in memory is honest
pub honest_parts : (parts : Parts) → IsHonest (parts_state parts)
honest_parts parts Root = (parts.root.no_more, parts.root.no_less)
honest_parts parts Even = (parts.even.no_more, parts.even.no_less)
honest_parts parts Odd = (parts.odd.no_more, parts.odd.no_less)

-- Where a write is pending, its range has a place within what a crash may leave. No public contract cites it.
abbrev pub HasPlace : PartState → Type 0
HasPlace part = ForSome (slice_get part.unsure 0) (λ range. (range.start < range.end) × (range.end ≤ part.greatest))

-- Each part of a disk in memory has that. No public contract cites it.
pub pending_parts : (parts : Parts) (part : Part) → HasPlace (part_of (parts_state parts) part)
pending_parts parts Root = parts.root.pending
pending_parts parts Even = parts.even.pending
pending_parts parts Odd = parts.odd.pending

-- the image of a part whose unsure bytes are all `pick`, and which goes so far past its least length
pub record IsPicked (pick cut : ℕ) (part : PartState) (file : List ℕ) : Type 0 where
  pub long : length file ≡ part.least + min cut (part.greatest - part.least)
  pub kept : (place : ℕ) → place < part.least → (IsWithin part.unsure place → ⊥) → slice_index file place ≡ slice_index part.bytes place
  pub picked : (place : ℕ) → place < length file → (part.least ≤ place) ⊎ IsWithin part.unsure place → slice_index file place ≡ pick

-- A crash: the new disk is at rest and has an image of the old one, with `pick` at each unsure place and so much of each length.
pub record IsCrash (pick cut : ℕ) (old new : DiskState) : Type 0 where
  pub picked : (part : Part) → IsPicked pick cut (part_of old part) (part_of new part).bytes
  pub settled : (part : Part) → IsSettled (part_of new part)
  pub image : MayLeave old (λ part. (part_of new part).bytes)

-- At Ok the disk has crashed so.
abbrev pub Crashes : {D T E : Type 0} → ℕ → ℕ → (D → DiskState) → D → D → Result T E → Type 0
Crashes pick cut state old new result = OnOk result (IsCrash pick cut (state old) (state new))
