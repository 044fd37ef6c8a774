-- Which records have bytes, by cases on what a node did.
use Rattle.std.specs.Prelude.{◌<◌, All, List, length, Option, Some, None}
use Rattle.salt_value.specs.Id.{IsId}
use Rattle.salt_value.specs.Word.{IsWord}
use Rattle.salt_value.specs.WellFormed.{ValueFits}
use Rattle.salt_value.specs.declared.event.Event.{Event}
use Rattle.salt_value.specs.declared.value.Value.TheVariants as v
use Rattle.salt_wire.specs.Limits.{IsNumber, JobFits, EntryFits}
use Rattle.salt_wire.specs.declared.deed.Changed.{Changed}
use Rattle.salt_wire.specs.declared.deed.ReactDeed.{ReactDeed}
use Rattle.salt_wire.specs.declared.deed.ReactDeed.TheVariants as r
use Rattle.salt_wire.specs.declared.deed.Deed.{Deed}
use Rattle.salt_wire.specs.declared.deed.Deed.TheVariants as d

-- the number of these things has 32 bits, and each of them is within its limits
abbrev pub FitsEach : {A : Type 0} → (A → Type 0) → List A → Type 0
FitsEach Fits items = IsNumber (length items) × All Fits items

-- an event within its limits
abbrev pub EventFits : Event → Type 0
EventFits event = IsWord event.tag × ValueFits event.body

-- what a reaction gave, within its limits; the cause of a refusal is a byte
abbrev pub ReactFits : ReactDeed → Type 0
ReactFits (r.Job job) = JobFits job
ReactFits (r.Refused sls cause) = IsId sls × (cause < 256)

-- grains, store and mine, each within the limits of a value
abbrev pub HoldingsFit : Changed → Type 0
HoldingsFit changed = ValueFits (v.Map changed.grains) × ValueFits (v.Map changed.store) × ValueFits (v.Map changed.mine)

-- what a minion holds after a change, if there is one, within its limits
abbrev pub ChangedFits : Option Changed → Type 0
ChangedFits None = Unit {0}
ChangedFits (Some changed) = HoldingsFit changed

-- a record, each of its fields within its limits
abbrev pub RecordFits : Deed → Type 0
RecordFits (d.Publish job) = JobFits job
RecordFits (d.Up minion entry) = IsId minion × EntryFits entry
RecordFits (d.Fire event) = EventFits event
RecordFits (d.React items) = FitsEach ReactFits items
RecordFits (d.Intake job) = JobFits job
RecordFits d.Boot = Unit {0}
RecordFits (d.Done seq changed entries) = IsNumber seq × ChangedFits changed × FitsEach EntryFits entries
