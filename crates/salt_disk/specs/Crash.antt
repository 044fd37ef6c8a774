-- What a crash may leave: of each part a list of bytes.
use Rattle.std.specs.Prelude.{◌≡◌, ◌≢◌, ◌⊎◌, ◌<◌, ◌≤◌, ◌+◌, max, ℕ, List, [], ◌∷◌, ◌++◌, length, take, drop, slice_index}
use Rattle.salt_disk.specs.declared.disk.Part.{Part}
use Rattle.salt_disk.specs.declared.disk.Range.{Range}
use Rattle.salt_disk.specs.Disk.{PartState, DiskState, part_of}

-- what a crash leaves: of each part its bytes
abbrev pub Image : Type 0
Image = Part → List ℕ

-- the place lies in one of the ranges
abbrev pub IsWithin : List Range → ℕ → Type 0
IsWithin [] place = ⊥
IsWithin (range ∷ ranges) place = ((range.start ≤ place) × (place < range.end)) ⊎ IsWithin ranges place

-- the length lies between the least and the greatest, and each byte below the least length and outside
-- the written ranges is the one that a read gives
pub record IsPartImage (part : PartState) (file : List ℕ) : Type 0 where
  pub no_shorter : part.least ≤ length file
  pub no_longer : length file ≤ part.greatest
  pub kept : (place : ℕ) → place < part.least → (IsWithin part.unsure place → ⊥) → slice_index file place ≡ slice_index part.bytes place

-- a crash now may leave this
abbrev pub MayLeave : DiskState → Image → Type 0
MayLeave disk image = (part : Part) → IsPartImage (part_of disk part) (image part)

-- a crash in the one state may leave what a crash in the other may
pub record LeavesTheSame (old new : DiskState) : Type 0 where
  pub later : (image : Image) → MayLeave old image → MayLeave new image
  pub earlier : (image : Image) → MayLeave new image → MayLeave old image

-- time goes on by one moment: the past has one state more, in which a crash leaves what it could leave in the old one
pub record AddsMoment (old : DiskState) (past since : List DiskState) : Type 0 where
  pub moment : DiskState
  pub time : since ≡ past ++ moment ∷ []
  pub same : LeavesTheSame moment old

-- time stands still, and a crash may leave what it could leave before
pub record StandsStill (old new : DiskState) (past since : List DiskState) : Type 0 where
  pub time : since ≡ past
  pub same : LeavesTheSame old new

-- time goes on by one moment, or it stands still where no image changes
abbrev pub PassesTime : DiskState → DiskState → List DiskState → List DiskState → Type 0
PassesTime old new past since = AddsMoment old past since ⊎ StandsStill old new past since

-- The time of the disk goes on by one moment with the call, or it stands still where no image changes.
abbrev pub TakesTime : {D : Type 0} → (D → List DiskState) → (D → DiskState) → D → D → Type 0
TakesTime past state old new = PassesTime (state old) (state new) (past old) (past new)

-- Where the call changes no image, the time of the disk stands still.
abbrev pub StandsStillWhereSame : {D : Type 0} → (D → List DiskState) → (D → DiskState) → D → D → Type 0
StandsStillWhereSame past state old new = LeavesTheSame (state old) (state new) → past new ≡ past old

-- a crash in one of these states may leave this
abbrev pub OneMayLeave : List DiskState → Image → Type 0
OneMayLeave [] image = ⊥
OneMayLeave (disk ∷ disks) image = MayLeave disk image ⊎ OneMayLeave disks image

-- a crash at some moment since that time might have left this: the past has a state for each earlier moment
abbrev pub MightSince : List DiskState → DiskState → ℕ → Image → Type 0
MightSince past now time image = MayLeave now image ⊎ OneMayLeave (drop time past) image

-- A crash at any moment from the old disk to the new one leaves an image that has this property.
pub record LeavesOnly {D : Type 0} (past : D → List DiskState) (state : D → DiskState) (old new : D) (P : Image → Type 0) : Type 0 where
  pub since : List DiskState
  pub later : past new ≡ past old ++ since
  pub each : (image : Image) → MightSince (past new) (state new) (length (past old)) image → P image

-- a part after a write that was cut short: any bytes in the range and past the old end, the same elsewhere
pub record IsTorn (at count : ℕ) (old file : List ℕ) : Type 0 where
  pub before : take at file ≡ take at old
  pub after : drop (at + count) file ≡ drop (at + count) old
  pub no_shorter : length old ≤ length file
  pub no_longer : length file ≤ max (length old) (at + count)

-- of each other part the image is one that it may leave
abbrev pub OthersMayLeave : Part → DiskState → Image → Type 0
OthersMayLeave part disk image = (other : Part) → other ≢ part → IsPartImage (part_of disk other) (image other)

-- a write at this place was cut short, or not begun, or done, and each other part is as it was
pub record WritesOnly (part : Part) (at count : ℕ) (old : DiskState) (image : Image) : Type 0 where
  pub here : IsTorn at count (part_of old part).bytes (image part)
  pub others : OthersMayLeave part old image

-- A crash at any moment of the call leaves a write at this place that was cut short, or not begun, or done.
abbrev pub LeavesWrite : {D : Type 0} → (D → List DiskState) → (D → DiskState) → D → D → Part → ℕ → List ℕ → Type 0
LeavesWrite past state old new part at bytes = LeavesOnly past state old new (WritesOnly part at (length bytes) (state old))

-- A write over this place is pending, so a crash may leave any byte there.
abbrev pub IsUnsure : DiskState → Part → ℕ → Type 0
IsUnsure disk part place = IsWithin (part_of disk part).unsure place

-- each other part stays
abbrev pub OthersStay : Part → DiskState → DiskState → Type 0
OthersStay part old new = (other : Part) → other ≢ part → part_of new other ≡ part_of old other

-- The bytes in these ranges are all `pick`, and the others stay. No public contract cites it.
pub record IsBlotted (pick : ℕ) (ranges : List Range) (old new : List ℕ) : Type 0 where
  pub kept : (place : ℕ) → (IsWithin ranges place → ⊥) → slice_index new place ≡ slice_index old place
  pub picked : (place : ℕ) → place < length old → IsWithin ranges place → slice_index new place ≡ pick

-- The bytes in this range are all `pick`, and the others stay. No public contract cites it.
pub record IsRangeBlotted (pick : ℕ) (range : Range) (old new : List ℕ) : Type 0 where
  pub kept : (place : ℕ) → (place < range.start) ⊎ (range.end ≤ place) → slice_index new place ≡ slice_index old place
  pub picked : (place : ℕ) → place < length old → range.start ≤ place → place < range.end → slice_index new place ≡ pick
