-- What a call on a journal does to the disk under it, and which of the disk's own calls pass.
use Rattle.std.specs.Prelude.{◌≡◌, ℕ, Result, IsErrOf, OnOk}
use Rattle.salt_disk.specs.declared.disk.Disk.{Ghosts}
use Rattle.salt_disk.specs.declared.disk.Part.{Part}
use Rattle.salt_disk.specs.declared.disk.Fuse.{Fuse}
use Rattle.salt_disk.specs.Disk.{DiskState, part_of, IsSettled}
use Rattle.salt_disk.specs.Crash.{LeavesOnly, MayLeave, OthersStay}
use Rattle.salt_disk.specs.Fuse.{Passes, fuse_after}

-- A read of the part gives what it gave before.
abbrev pub KeepsBytes : {D : Type 0} → Ghosts D → D → D → Part → Type 0
KeepsBytes disk old new part = (part_of (disk.state new) part).bytes ≡ (part_of (disk.state old) part).bytes

-- Each part but this one stays as it was.
abbrev pub KeepsOthers : {D : Type 0} → Ghosts D → D → D → Part → Type 0
KeepsOthers disk old new part = OthersStay part (disk.state old) (disk.state new)

-- The part is at rest, but where the answer is this error.
abbrev pub SettlesUnless : {T E : Type 0} → E → Result T E → DiskState → Part → Type 0
SettlesUnless failure result disk part = (IsErrOf result failure → ⊥) → IsSettled (part_of disk part)

-- A crash at any moment of the call leaves what a crash before it could leave.
abbrev pub LeavesAsBefore : {D : Type 0} → Ghosts D → D → D → Type 0
LeavesAsBefore disk old new = LeavesOnly disk.past disk.state old new (MayLeave (disk.state old))

-- So many changing calls passed, but where the answer is this error, and it comes only where not so many could pass.
pub record BurnsUnless {D T E : Type 0} (calls : ℕ) (fuse : D → Fuse) (failure : E) (old new : D) (result : Result T E) : Type 0 where
  pub passed : (IsErrOf result failure → ⊥) → Passes calls (fuse old) × (fuse new ≡ fuse_after calls (fuse old))
  pub not_passed : IsErrOf result failure → Passes calls (fuse old) → ⊥

-- At Ok so many changing calls passed, and the answer is this error only where not so many could pass.
pub record BurnsAtOk {D T E : Type 0} (calls : ℕ) (fuse : D → Fuse) (failure : E) (old new : D) (result : Result T E) : Type 0 where
  pub passed : OnOk result (Passes calls (fuse old) × (fuse new ≡ fuse_after calls (fuse old)))
  pub not_passed : IsErrOf result failure → Passes calls (fuse old) → ⊥
