-- What a minion records and keeps is within the limits of messages, and where there is room for a record.
use Rattle.std.specs.Prelude.{◌≡◌, ◌<◌, ◌≤◌, ◌+◌, ◌^◌, length, Option, None, Some, All}
use Rattle.salt_value.specs.WellFormed.{ValueFits}
use Rattle.salt_value.specs.declared.value.Value.TheVariants as v
use Rattle.exec_functions.specs.Limits.{AreWithin}
use Rattle.salt_wire.specs.Limits.{EntryFits}
use Rattle.salt_wire.specs.declared.deed.Changed.{Changed}
use Rattle.salt_wire.specs.declared.deed.Deed.{Deed}
use Rattle.salt_wire.specs.declared.deed.Deed.TheVariants.{Boot, Done}
use Rattle.minion_core.specs.Flat.{entries_in}
use Rattle.minion_core.specs.Core.{CoreState}

-- each part that is recorded as changed is within the limits of a value
abbrev pub ChangedFits : Option Changed → Type 0
ChangedFits None = Unit {0}
ChangedFits (Some new) = ValueFits (v.Map new.grains) × ValueFits (v.Map new.store) × ValueFits (v.Map new.mine)

-- what a record adds to its minion is within the limits of messages
abbrev pub DeedFits : Deed → Type 0
DeedFits (Done seq changed entries) = ChangedFits changed × All EntryFits entries
DeedFits other = Unit {0}

-- a record has at most two entries
abbrev pub HasFewEntries : Deed → Type 0
HasFewEntries deed = length (entries_in deed) ≤ 2

-- A record is this one, is within the limits of messages and has at most two entries. No public contract cites it.
abbrev pub IsSoundRecord : Deed → Deed → Type 0
IsSoundRecord wanted deed = (deed ≡ wanted) × DeedFits deed × HasFewEntries deed

-- what a minion holds is within the limits of values, and its entries are within those of messages
pub record StateFits (s : CoreState) : Type 0 where
  pub held : AreWithin s.held
  pub log : All EntryFits s.log

-- the counts that a record raises stay numbers of 32 bits
abbrev pub HasRoom : Deed → CoreState → Type 0
HasRoom Boot s = s.boots + 1 < 2 ^ 32
HasRoom (Done seq changed entries) s = s.jobs + 1 < 2 ^ 32
HasRoom other s = Unit {0}
