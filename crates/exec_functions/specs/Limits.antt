-- What is within the limits of a message.
use Rattle.std.specs.Prelude.{◌<◌, ◌&&◌, Bool, List, [], All}
use Rattle.salt_value.specs.Word.{IsWord}
use Rattle.salt_value.specs.WellFormed.{ValueFits}
use Rattle.salt_value.specs.FitTest.{fits}
use Rattle.salt_value.specs.declared.value.Value.{Value}
use Rattle.salt_value.specs.declared.value.Value.TheVariants as v
use Rattle.exec_functions.specs.declared.holdings.Holdings.{Holdings}
use Rattle.exec_functions.specs.declared.holdings.Change.{Change}
use Rattle.exec_functions.specs.declared.holdings.Change.TheVariants as change
use Rattle.exec_functions.specs.declared.holdings.Note.{Note}
use Rattle.exec_functions.specs.declared.holdings.Note.TheVariants as note
use Rattle.exec_functions.specs.declared.holdings.Ran.{Ran}
use Rattle.exec_functions.specs.declared.holdings.Done.{Done}

-- each part of what a minion holds is a map within the limits of a value
pub record AreWithin (held : Holdings) : Type 0 where
  pub grains : ValueFits (v.Map held.grains)
  pub pillar : ValueFits (v.Map held.pillar)
  pub store : ValueFits (v.Map held.store)
  pub mine : ValueFits (v.Map held.mine)

-- the same as a test
abbrev pub are_within : Holdings → Bool
are_within held = fits (v.Map held.grains) && (fits (v.Map held.pillar) && (fits (v.Map held.store) && fits (v.Map held.mine)))

-- what was within the limits before is so after it, where the arguments are within those of a value
abbrev pub StaysWithin : Holdings → List Value → Done → Type 0
StaysWithin held args done = AreWithin held → ValueFits (v.List args) → AreWithin done.held

-- what a minion holds that was told nothing
abbrev pub no_holdings : Holdings
no_holdings = record { grains = []; pillar = []; store = []; mine = [] }

-- the part that is another one from now on is a map within the limits of a value
abbrev pub ChangeFits : Change → Type 0
ChangeFits change.Nothing = Unit {0}
ChangeFits (change.Grains part) = ValueFits (v.Map part)
ChangeFits (change.Store part) = ValueFits (v.Map part)
ChangeFits (change.Mine part) = ValueFits (v.Map part)

-- an event that was fired has a word as its tag and a body within the limits of a value
abbrev pub NoteFits : Note → Type 0
NoteFits (note.Fired event) = IsWord event.tag × ValueFits event.body
NoteFits note.Mine = Unit {0}

-- what a function made is within the limits of a message
pub record IsSendable (ran : Ran) : Type 0 where
  pub retcode : ran.outcome.retcode < 256
  pub value : ValueFits ran.outcome.value
  pub change : ChangeFits ran.change
  pub notes : All NoteFits ran.notes
