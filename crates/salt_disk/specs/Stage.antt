-- A disk that is lent out of several.
use Rattle.std.specs.Prelude.{◌≡◌, ℕ, List, Option, OnSome, IfNone, slice_set}
use Rattle.std.specs.Borrow.{MutBor, Fml, LendsSo}
use Rattle.salt_disk.specs.declared.disk.Disk.{Ghosts}
use Rattle.salt_disk.specs.declared.memory.MemDisk.{MemDisk}
use Rattle.salt_disk.specs.contracts.memory.MemDisk as mem
use Rattle.salt_disk.specs.contracts.stage.MemStage.{the_row}
use Rattle.salt_disk.specs.Told.{DiskTold, told_by}

-- Once the loan ends, the disk with this number is as it was left, and each other one is as before.
abbrev pub LendsDisk : Ghosts MemDisk → MutBor (List DiskTold) → ℕ → Option (MutBor MemDisk) → Fml
LendsDisk disk stage n lent =
    LendsSo the_row mem.the_row stage lent (λ all left. OnSome lent (all ≡ slice_set stage.now n (told_by disk left))) (λ all. IfNone lent (all ≡ stage.now))
