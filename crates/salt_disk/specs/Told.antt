-- What a disk tells, as one value, and what several disks tell.
use Rattle.std.specs.Prelude.{◌≡◌, ℕ, List, [], replicate, map, Option, slice_get}
use Rattle.std.specs.Borrow.{MutBor}
use Rattle.std.specs.Option.{option_copied_mut, option_map}
use Rattle.salt_disk.specs.declared.disk.Disk.{Ghosts}
use Rattle.salt_disk.specs.declared.disk.Fuse.{Fuse}
use Rattle.salt_disk.specs.declared.disk.Fuse.TheVariants.{Whole}
use Rattle.salt_disk.specs.Disk.{DiskState}
use Rattle.salt_disk.specs.History.{whole}

-- What a disk tells: its parts, its earlier moments, which of its next calls fail, and how often one has failed.
pub record DiskTold : Type 0 where
  pub state : DiskState
  pub past : List DiskState
  pub fuse : Fuse
  pub faults : ℕ

-- what this disk tells
abbrev pub told_by : {D : Type 0} → Ghosts D → D → DiskTold
told_by disk d = record { state = disk.state d; past = disk.past d; fuse = disk.fuse d; faults = disk.faults d }

-- what a disk tells that was just made
abbrev pub fresh_told : DiskTold
fresh_told = record { state = whole [] [] []; past = []; fuse = Whole; faults = 0 }

-- what so many disks tell that were just made
abbrev pub fresh_disks : ℕ → List DiskTold
fresh_disks count = replicate count fresh_told

-- The disk that is lent is the one with this number, and none is lent where there is none.
abbrev pub IsDiskAt : {D : Type 0} → Ghosts D → List DiskTold → ℕ → Option (MutBor D) → Type 0
IsDiskAt disk disks n lent = option_map (told_by disk) (option_copied_mut lent) ≡ slice_get disks n

-- These disks tell what so many tell that were just made. No public contract cites it.
abbrev pub AreFresh : {D : Type 0} → Ghosts D → List D → ℕ → Type 0
AreFresh disk disks count = map (told_by disk) disks ≡ fresh_disks count
