-- What the disks of a stage tell.
use Rattle.std.proofs.Common.{◌≡◌, ◌⊎◌, inl, inr, ◌<◌, ◌≤◌, ℕ, List, length, map, Option, Some, None, IsSome, IfSome, get_or, slice_get, slice_set, refl, sym, ◌∙◌, ap}
use Rattle.std.specs.Option.{OnSome, IfNone, option_map, option_copied_mut}
use Rattle.std.specs.Borrow.{MutBor}
use Rattle.std.proofs.lemmas.List.{map-set}
use Rattle.std.proofs.lemmas.Option.{slice_get-map, slice_get_read, slice_get_cases}
use Rattle.salt_disk.specs.declared.memory.MemDisk.{MemDisk}
use Rattle.salt_disk.specs.History.{whole, states}
use Rattle.salt_disk.specs.Memory.{parts_state}
use Rattle.salt_disk.specs.Told.{DiskTold}

-- what a disk in memory tells
abbrev pub mem_told : MemDisk → DiskTold
mem_told d = record { state = parts_state d.parts; past = states (whole d.root.items d.even.items d.odd.items) d.calls.items; fuse = d.faults.fuse; faults = d.faults.count }

-- what is so in any case is so where there is a value, and where there is none
pub on_some : {A : Type 0} (o : Option A) (P : Type 0) → P → OnSome o P
on_some None P p = tt
on_some (Some x) P p = p

pub if_none : {A : Type 0} (o : Option A) (P : Type 0) → P → IfNone o P
if_none None P p = p
if_none (Some x) P p = tt

-- one disk in the place of another is told in its place
pub told_set : (disks : List MemDisk) (told : List DiskTold) (n : ℕ) (disk : MemDisk) → map mem_told disks ≡ told → map mem_told (slice_set disks n disk) ≡ slice_set told n (mem_told disk)
told_set disks told n disk is = map-set mem_told disks n disk ∙ ap (λ (l : List DiskTold). slice_set l n (mem_told disk)) is

-- the disk at a place is told at that place
pub told_get : (disks : List MemDisk) (told : List DiskTold) (n : ℕ) (lent : Option (MutBor MemDisk)) → map mem_told disks ≡ told → (n < length disks → IsSome lent) → (IsSome lent → n < length disks)
    → IfSome lent (λ x. x.now ≡ get_or disks n x.now) → option_map mem_told (option_copied_mut lent) ≡ slice_get told n
told_get disks told n (Some x) is here within read =
    ap (option_map mem_told) (sym (slice_get_read disks (length disks) n x.now refl (within refl) read)) ∙ sym (slice_get-map mem_told disks n) ∙ ap (λ (l : List DiskTold). slice_get l n) is
told_get disks told n None is here within read =
    ap (option_map mem_told) (none (slice_get_cases disks n).1) ∙ sym (slice_get-map mem_told disks n) ∙ ap (λ (l : List DiskTold). slice_get l n) is
  where
    none : ((x : MemDisk) × (n < length disks) × (slice_get disks n ≡ Some x) × (get_or disks n x ≡ x)) ⊎ ((length disks ≤ n) × (slice_get disks n ≡ None)) → None ≡ slice_get disks n
    none (inl found) = absurd (cc (here found.1))
    none (inr past) = sym past.1
