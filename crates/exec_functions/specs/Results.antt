-- What functions make: refusals, answers, and what they change.
use Rattle.std.specs.Prelude.{ℕ, Bool, false, List, [], codes, Option, None, Some, is_some, if◌then◌else◌}
use Rattle.salt_value.specs.declared.value.Value.{Value}
use Rattle.salt_value.specs.declared.value.Value.TheVariants as v
use Rattle.salt_value.specs.Keys.{under}
use Rattle.salt_value.specs.Equality.{same}
use Rattle.salt_value.specs.PairChanges.{with_pair, without_key}
use Rattle.exec_functions.specs.declared.holdings.Change.{Change}
use Rattle.exec_functions.specs.declared.holdings.Change.TheVariants.{Nothing}
use Rattle.exec_functions.specs.declared.holdings.Note.{Note}
use Rattle.exec_functions.specs.declared.holdings.Ran.{Ran}

-- the pairs of a map
abbrev pub Pairs : Type 0
Pairs = List (List ℕ × Value)

-- a retcode that is not 0 and a text; nothing is changed, and there is no note
abbrev pub refusal : ℕ → List ℕ → Ran
refusal retcode text = record { outcome = record { retcode = retcode; value = v.Str text }; change = Nothing; notes = [] }

-- the arguments are of another number or form
abbrev pub bad_arguments : Ran
bad_arguments = refusal 1 (codes "bad arguments")

-- retcode 0 with an answer, a change and notes
abbrev pub success : Value → Change → List Note → Ran
success value change notes = record { outcome = record { retcode = 0; value = value }; change = change; notes = notes }

-- what was found is this value
abbrev pub is_stored : Value → Option Value → Bool
is_stored value None = false
is_stored value (Some old) = same value old

-- a part that is another one from now on, if it is
abbrev pub change_to : (Pairs → Change) → Option Pairs → Change
change_to part None = Nothing
change_to part (Some ps) = part ps

-- the pairs with a pair set, and None where it stands there already
abbrev pub new_with : List ℕ → Value → Pairs → Option Pairs
new_with key value ps = if is_stored value (under key ps) then None else Some (with_pair key value ps)

-- the pairs with a key taken out, and None where there is none
abbrev pub new_without : List ℕ → Pairs → Option Pairs
new_without key ps = if is_some (under key ps) then Some (without_key key ps) else None
