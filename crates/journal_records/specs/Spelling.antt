-- The bytes of each record, by cases on what a node did.
use Rattle.std.specs.Prelude.{◌≡◌, ℕ, List, [], ◌∷◌, ◌++◌, length, map, Option, Some, None}
use Rattle.salt_value.specs.Spelling.{bytes, concatenation}
use Rattle.salt_value.specs.declared.event.Event.{Event}
use Rattle.salt_value.specs.declared.value.Value.TheVariants as v
use Rattle.salt_wire.specs.Spelling as wire
use Rattle.salt_wire.specs.declared.message.Entry.{Entry}
use Rattle.salt_wire.specs.declared.deed.Changed.{Changed}
use Rattle.salt_wire.specs.declared.deed.ReactDeed.{ReactDeed}
use Rattle.salt_wire.specs.declared.deed.ReactDeed.TheVariants as r
use Rattle.salt_wire.specs.declared.deed.Deed.{Deed}
use Rattle.salt_wire.specs.declared.deed.Deed.TheVariants as d
use Rattle.journal_records.specs.Codes as code
use Rattle.journal_records.specs.Codes.{record_code, react_code, change_code}

-- things one after the other, after the four bytes of their number
abbrev pub counted_bytes : {A : Type 0} → (A → List ℕ) → List A → List ℕ
counted_bytes spell items = wire.number (length items) ++ concatenation (map spell items)

-- an event: its tag and its data
abbrev pub event_bytes : Event → List ℕ
event_bytes event = wire.word event.tag ++ bytes event.body

-- what a reaction gave: a job, or the name and the cause of a refusal
abbrev pub react_bytes : ReactDeed → List ℕ
react_bytes (r.Job job) = react_code code.Job ∷ wire.job job
react_bytes (r.Refused sls cause) = react_code code.Refused ∷ (wire.id sls ++ cause ∷ [])

-- what reactions gave, after their number
abbrev pub reacts_bytes : List ReactDeed → List ℕ
reacts_bytes = counted_bytes react_bytes

-- entries, after their number
abbrev pub entries_bytes : List Entry → List ℕ
entries_bytes = counted_bytes wire.entry

-- what a minion holds after a change: grains, store and mine
abbrev pub holdings_bytes : Changed → List ℕ
holdings_bytes changed = bytes (v.Map changed.grains) ++ (bytes (v.Map changed.store) ++ bytes (v.Map changed.mine))

-- whether there is a change, and what a minion then holds
abbrev pub changed_bytes : Option Changed → List ℕ
changed_bytes None = change_code code.Same ∷ []
changed_bytes (Some changed) = change_code code.Other ∷ holdings_bytes changed

-- a record: its code and its fields
abbrev pub record_bytes : Deed → List ℕ
record_bytes (d.Publish job) = record_code code.Publish ∷ wire.job job
record_bytes (d.Up minion entry) = record_code code.Up ∷ (wire.id minion ++ wire.entry entry)
record_bytes (d.Fire event) = record_code code.Fire ∷ event_bytes event
record_bytes (d.React items) = record_code code.React ∷ reacts_bytes items
record_bytes (d.Intake job) = record_code code.Intake ∷ wire.job job
record_bytes d.Boot = record_code code.Boot ∷ []
record_bytes (d.Done seq changed entries) = record_code code.Done ∷ (wire.number seq ++ (changed_bytes changed ++ entries_bytes entries))

-- what a minion did of a job stands behind what was there. No public contract cites it.
abbrev pub AddsDone : ℕ → Option Changed → List Entry → List ℕ → List ℕ → Type 0
AddsDone seq changed entries old new = new ≡ old ++ record_bytes (d.Done seq changed entries)
