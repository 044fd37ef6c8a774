-- How the parts of a disk in memory and its record of calls go on. No public contract cites any of it.
use Rattle.std.specs.Prelude.{◌≡◌, ◌≤◌, ◌+◌, ℕ, List, vec_len, vec_capacity}
use Rattle.std.specs.declared.vec.Vec.{Vec}
use Rattle.salt_disk.specs.declared.disk.Part.{Part}
use Rattle.salt_disk.specs.declared.call.Call.{Call}
use Rattle.salt_disk.specs.declared.part.Parts.{Parts}
use Rattle.salt_disk.specs.Disk.{part_of, settled_part}
use Rattle.salt_disk.specs.Crash.{LeavesTheSame}
use Rattle.salt_disk.specs.Memory.{parts_state}
use Rattle.salt_disk.specs.History.{with_part, wrote, after_cut, owed_by, IsRecorded}

-- One part has gone on by a write that went well, and the others stay. No public contract cites it.
abbrev pub WritesPart : Part → ℕ → List ℕ → Parts → Parts → Type 0
WritesPart part at bytes old new = parts_state new ≡ with_part (parts_state old) part (wrote (part_of (parts_state old) part) at bytes)

-- One part has gone on by a cut, and the others stay. No public contract cites it.
abbrev pub CutsPart : Part → Parts → Parts → Type 0
CutsPart part old new = parts_state new ≡ with_part (parts_state old) part (after_cut (part_of (parts_state old) part))

-- One part has come to rest, and the others stay. No public contract cites it.
abbrev pub SettlesPart : Part → Parts → Parts → Type 0
SettlesPart part old new = parts_state new ≡ with_part (parts_state old) part (settled_part (part_of (parts_state old) part).bytes)

-- The record of calls goes on with the parts. No public contract cites it.
abbrev pub RecordsStep : {Z : Type 0} → Parts → Parts → Vec Call Z → Vec Call Z → Type 0
RecordsStep old new calls since = IsRecorded (parts_state old) (parts_state new) calls.items since.items

-- A step that changes no image has no entry in the record. No public contract cites it.
abbrev pub RecordsOnlyChanges : {Z : Type 0} → Parts → Parts → Vec Call Z → Vec Call Z → Type 0
RecordsOnlyChanges old new calls since = LeavesTheSame (parts_state old) (parts_state new) → since.items ≡ calls.items

-- The record has room for the entries that the parts may still need. No public contract cites it.
abbrev pub HasEntriesLeft : {X Z : Type 0} → Parts → Vec X Z → Type 0
HasEntriesLeft parts calls = vec_len calls + owed_by (parts_state parts) ≤ vec_capacity calls
