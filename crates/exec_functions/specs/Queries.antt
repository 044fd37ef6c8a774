-- The functions that answer and change nothing; None says that the arguments are of another number or form.
use Rattle.std.specs.Prelude.{◌≡◌, ℕ, true, List, [], ◌∷◌, Option, None, Some, unwrap_or}
use Rattle.salt_value.specs.declared.value.Value.{Value}
use Rattle.salt_value.specs.declared.value.Value.TheVariants as v
use Rattle.salt_value.specs.Keys.{under}
use Rattle.exec_functions.specs.declared.function.Query.{Query}
use Rattle.exec_functions.specs.declared.function.Query.TheVariants.{TestPing, TestEcho, GrainsGet, GrainsItems, PillarGet, PillarItems, DataGet}
use Rattle.exec_functions.specs.declared.holdings.Holdings.{Holdings}
use Rattle.exec_functions.specs.declared.holdings.Change.TheVariants.{Nothing}
use Rattle.exec_functions.specs.declared.holdings.Ran.{Ran}
use Rattle.exec_functions.specs.Arguments.{key_and_rest}
use Rattle.exec_functions.specs.Paths.{path_keys, at_path}
use Rattle.exec_functions.specs.Results.{Pairs, bad_arguments, success}

-- the value, where there is no argument
abbrev pub no_argument : List Value → Value → Option Value
no_argument [] value = Some value
no_argument (a ∷ rest) value = None

-- the one argument
abbrev pub one_argument : List Value → Option Value
one_argument [] = None
one_argument (a ∷ []) = Some a
one_argument (a ∷ b ∷ rest) = None

-- what was found, or the default that stands after the key, or this value where there is none
abbrev pub found_or_default : Option Value → List Value → Value → Option Value
found_or_default found [] none = Some (unwrap_or found none)
found_or_default found (default ∷ []) none = Some (unwrap_or found default)
found_or_default found (default ∷ b ∷ rest) none = None

-- the same as a relation. No public contract cites it.
abbrev pub IsFoundOrDefault : Option Value → List Value → Value → Option Value → Type 0
IsFoundOrDefault found rest none answer = answer ≡ found_or_default found rest none

-- the value at the path that a key tells, or the default after the key, or the empty text
abbrev pub path_value : Pairs → Option (List ℕ × List Value) → Option Value
path_value ps None = None
path_value ps (Some k) = found_or_default (at_path (path_keys k.0) ps) k.1 (v.Str [])

-- the same, where the first argument is the key
abbrev pub value_at_path : Pairs → List Value → Option Value
value_at_path ps args = path_value ps (key_and_rest args)

-- the value under a key, or null
abbrev pub key_value : Pairs → Option (List ℕ × List Value) → Option Value
key_value ps None = None
key_value ps (Some k) = no_argument k.1 (unwrap_or (under k.0 ps) v.Null)

-- the same, where the one argument is the key
abbrev pub stored_value : Pairs → List Value → Option Value
stored_value ps args = key_value ps (key_and_rest args)

-- what a function that changes nothing answers
abbrev pub query_value : Query → List Value → Holdings → Option Value
query_value TestPing args held = no_argument args (v.Flag true)
query_value TestEcho args held = one_argument args
query_value GrainsGet args held = value_at_path held.grains args
query_value GrainsItems args held = no_argument args (v.Map held.grains)
query_value PillarGet args held = value_at_path held.pillar args
query_value PillarItems args held = no_argument args (v.Map held.pillar)
query_value DataGet args held = stored_value held.store args

-- what it makes
abbrev pub query_result : Option Value → Ran
query_result None = bad_arguments
query_result (Some value) = success value Nothing []
