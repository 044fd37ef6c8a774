-- What contracts see of the objects in memory.
use Rattle.std.specs.Prelude.{◌≡◌, ℕ, ◌↔◌, min, List, drop, length, Contains, Option, Some, Result, IfOk, IsErrOf}
use Rattle.salt_outside.specs.Causes.{next_count}
use Rattle.salt_outside.specs.declared.causes.Outside.{Outside}
use Rattle.salt_outside.specs.declared.causes.Outside.TheVariants.{Failed}
use Rattle.salt_outside.specs.declared.memory.MemSource.{MemSource}
use Rattle.salt_outside.specs.declared.memory.MemSink.{MemSink}

-- the bytes that were not read yet
abbrev pub source_left : MemSource → List ℕ
source_left s = drop s.at s.bytes.items

-- what the source tells of them: it always tells
abbrev pub left_in_memory : MemSource → Option (List ℕ)
left_in_memory s = Some (source_left s)

-- the numbers of the calls that fail, from 1
abbrev pub source_fails : MemSource → List ℕ
source_fails s = s.calls.fails.items

-- how many calls were made
abbrev pub source_calls : MemSource → ℕ
source_calls s = s.calls.made

-- how many of them failed
abbrev pub source_faults : MemSource → ℕ
source_faults s = s.calls.faults

-- the bytes that were written
abbrev pub sink_held : MemSink → List ℕ
sink_held s = s.bytes.items

-- what the sink tells of them: it always tells
abbrev pub held_in_memory : MemSink → Option (List ℕ)
held_in_memory s = Some (sink_held s)

-- the numbers of the calls that fail, from 1
abbrev pub sink_fails : MemSink → List ℕ
sink_fails s = s.calls.fails.items

-- how many calls were made
abbrev pub sink_calls : MemSink → ℕ
sink_calls s = s.calls.made

-- how many of them failed
abbrev pub sink_faults : MemSink → ℕ
sink_faults s = s.calls.faults

-- The call after so many calls fails exactly where its number is listed.
abbrev pub FailsWhereListed : {T : Type 0} → List ℕ → ℕ → Result T Outside → Type 0
FailsWhereListed fails calls result = IsErrOf result Failed ↔ Contains fails (next_count calls)

-- At Ok the count is that of the bytes that are left, or that of the buffer where it has room for fewer.
abbrev pub CountsMost : {E : Type 0} → List ℕ → List ℕ → Result ℕ E → Type 0
CountsMost into left result = IfOk result (λ count. count ≡ min (length into) (length left))
