-- What a disk tells of its three parts, and what its calls do to them.
use Rattle.std.specs.Prelude.{◌≡◌, ◌≢◌, ◌⊎◌, ◌<◌, ◌≤◌, ◌+◌, ◌-◌, ℕ, max, min, List, [], ◌∷◌, ◌++◌, length, take, drop, slice_index, Result, Ok, Err, IfOk, OnOk}
use Rattle.salt_disk.specs.declared.disk.DiskFault.{DiskFault}
use Rattle.salt_disk.specs.declared.disk.DiskFault.TheVariants.{NoMemory, Failed}
use Rattle.salt_disk.specs.declared.disk.Part.{Part}
use Rattle.salt_disk.specs.declared.disk.Part.TheVariants.{Root, Even, Odd}
use Rattle.salt_disk.specs.declared.disk.Range.{Range}

-- One part: what a read gives, the ranges written since the last sync, and the least and greatest length since then.
pub record PartState : Type 0 where
  pub bytes : List ℕ
  pub unsure : List Range
  pub least : ℕ
  pub greatest : ℕ

-- A disk: one device with three files.
pub record DiskState : Type 0 where
  pub root : PartState
  pub even : PartState
  pub odd : PartState

-- the state of one part
abbrev pub part_of : DiskState → Part → PartState
part_of disk Root = disk.root
part_of disk Even = disk.even
part_of disk Odd = disk.odd

-- a part with these bytes, and nothing pending
abbrev pub settled_part : List ℕ → PartState
settled_part bytes = record { bytes = bytes; unsure = []; least = length bytes; greatest = length bytes }

-- nothing is pending on the part: a crash leaves what a read gives
abbrev pub IsSettled : PartState → Type 0
IsSettled part = part ≡ settled_part part.bytes

-- these bytes at this place, in the place of what is there
abbrev pub put : ℕ → List ℕ → List ℕ → List ℕ
put at bytes old = take at old ++ bytes ++ drop (at + length bytes) old

-- the range that a write of these bytes at this place goes over: none where there are no bytes
abbrev pub ranges_of : ℕ → List ℕ → List Range
ranges_of at [] = []
ranges_of at (byte ∷ bytes) = record { start = at; end = at + length (byte ∷ bytes) } ∷ []

-- a write, whether it went well or not
pub record IsWritten (at : ℕ) (bytes : List ℕ) (old new : PartState) : Type 0 where
  pub unsure : new.unsure ≡ old.unsure ++ ranges_of at bytes
  pub least : new.least ≡ old.least
  pub greatest : new.greatest ≡ max old.greatest (at + length bytes)
  pub elsewhere : (place : ℕ) → (place < at) ⊎ (at + length bytes ≤ place) → slice_index new.bytes place ≡ slice_index old.bytes place

-- a cut to nothing, whether it went well or not
pub record IsEmptied (old new : PartState) : Type 0 where
  pub unsure : new.unsure ≡ old.unsure
  pub least : new.least ≡ 0
  pub greatest : new.greatest ≡ old.greatest

-- one part goes on by this step, and the others stay
pub record Changes (part : Part) (step : PartState → PartState → Type 0) (old new : DiskState) : Type 0 where
  pub here : step (part_of old part) (part_of new part)
  pub others : (other : Part) → other ≢ part → part_of new other ≡ part_of old other

-- the part is brought to rest, and the others stay
abbrev pub Settles : Part → DiskState → DiskState → Type 0
Settles part old new = Changes part (λ old new. new ≡ settled_part old.bytes) old new

-- the disk stays as it was, and its time stands still
pub record IsUnchanged (old new : DiskState) (past since : List DiskState) : Type 0 where
  pub state : new ≡ old
  pub time : since ≡ past

-- What the disk tells stays as it was, and its time stands still.
abbrev pub Stays : {D : Type 0} → (D → List DiskState) → (D → DiskState) → D → D → Type 0
Stays past state old new = IsUnchanged (state old) (state new) (past old) (past new)

-- what a read of so many bytes at this place gives
abbrev pub read_from : List ℕ → ℕ → ℕ → List ℕ
read_from bytes at count = take count (drop at bytes)

-- The front of the buffer has so many of the bytes from this place on, as many as are there and as it has room for.
-- What is behind them in the buffer stays.
pub record IsReadAt (bytes : List ℕ) (at : ℕ) (into now : List ℕ) (number : ℕ) : Type 0 where
  pub count : number ≡ min (length into) (length bytes - at)
  pub buffer : now ≡ read_from bytes at number ++ drop number into

-- At Ok the buffer has what stands in the part from this place on.
abbrev pub ReadsAt : {E : Type 0} → DiskState → Part → ℕ → List ℕ → List ℕ → Result ℕ E → Type 0
ReadsAt disk part at into now result = IfOk result (λ n. IsReadAt (part_of disk part).bytes at into now n)

-- what a read gives has a length that a crash may leave
abbrev pub IsHonest : DiskState → Type 0
IsHonest disk = (part : Part) → ((part_of disk part).least ≤ length (part_of disk part).bytes) × (length (part_of disk part).bytes ≤ (part_of disk part).greatest)

-- what stands after want of memory, and what after every other answer
abbrev pub UnlessNoMemory : {T : Type 0} → Result T DiskFault → Type 0 → Type 0 → Type 0
UnlessNoMemory (Ok value) stays changes = changes
UnlessNoMemory (Err NoMemory) stays changes = stays
UnlessNoMemory (Err Failed) stays changes = changes

-- At Ok a read gives these bytes at this place of the part, and elsewhere what it gave before.
abbrev pub PutsAt : {D T E : Type 0} → (D → DiskState) → D → D → Part → ℕ → List ℕ → Result T E → Type 0
PutsAt state old new part at bytes result = OnOk result ((part_of (state new) part).bytes ≡ put at bytes (part_of (state old) part).bytes)

-- A write of these bytes at this place, whether it went well or not. But after want of memory the disk is as it was.
abbrev pub WritesAt : {D T : Type 0} → (D → List DiskState) → (D → DiskState) → D → D → Part → ℕ → List ℕ → Result T DiskFault → Type 0
WritesAt past state old new part at bytes result =
    UnlessNoMemory result (IsUnchanged (state old) (state new) (past old) (past new)) (Changes part (IsWritten at bytes) (state old) (state new))

-- At Ok the part has these bytes at this place, and is at rest.
abbrev pub Saves : {D T E : Type 0} → (D → DiskState) → D → D → Part → ℕ → List ℕ → Result T E → Type 0
Saves state old new part at bytes result = OnOk result (part_of (state new) part ≡ settled_part (put at bytes (part_of (state old) part).bytes))
