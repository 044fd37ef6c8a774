-- The functions whose first argument is a key.
use Rattle.std.specs.Prelude.{ℕ, ℤ, ◌+ℤ◌, pos, ◌==◌, ◌&&◌, not, nat_le, nat_lt, Bool, true, false, List, [], ◌∷◌, length, codes, Option, None, Some, if◌then◌else◌}
use Rattle.std.specs.List.{list_all}
use Rattle.salt_value.specs.declared.value.Value.{Value}
use Rattle.salt_value.specs.declared.value.Value.TheVariants as v
use Rattle.salt_value.specs.Limits.{most_word_bytes}
use Rattle.salt_value.specs.Keys.{under}
use Rattle.salt_value.specs.Word.{is_word_byte}
use Rattle.salt_value.specs.WellFormed.{is_int}
use Rattle.exec_functions.specs.declared.function.Function.{Function}
use Rattle.exec_functions.specs.declared.function.Function.TheVariants.{Asks, GrainsSetval, DataUpdate, DataPop, DataCas, DataIncr, MineSend, MineDelete, MineFlush, EventSend}
use Rattle.exec_functions.specs.declared.holdings.Holdings.{Holdings}
use Rattle.exec_functions.specs.declared.holdings.Change.{Change}
use Rattle.exec_functions.specs.declared.holdings.Change.TheVariants.{Nothing, Grains, Store, Mine}
use Rattle.exec_functions.specs.declared.holdings.Note.TheVariants as note
use Rattle.exec_functions.specs.declared.holdings.Ran.{Ran}
use Rattle.exec_functions.specs.Functions.{function_named}
use Rattle.exec_functions.specs.Arguments.{int_of}
use Rattle.exec_functions.specs.Results.{refusal, bad_arguments, success, is_stored, change_to, new_with, new_without}
use Rattle.exec_functions.specs.Queries.{found_or_default, query_value}

-- a key of grains is not empty and has no colon
abbrev pub is_grain_key : List ℕ → Bool
is_grain_key key = nat_lt 0 (length key) && list_all (λ b. not (b == 0x3A)) key

-- sets the grain, and answers a map with that pair
abbrev pub grains_setval : List ℕ → List Value → Holdings → Ran
grains_setval key [] held = bad_arguments
grains_setval key (value ∷ []) held =
    if is_grain_key key then success (v.Map ((key, value) ∷ [])) (change_to Grains (new_with key value held.grains)) [] else bad_arguments
grains_setval key (value ∷ b ∷ rest) held = bad_arguments

-- stores the value, and answers true
abbrev pub data_update : List ℕ → List Value → Holdings → Ran
data_update key [] held = bad_arguments
data_update key (value ∷ []) held = success (v.Flag true) (change_to Store (new_with key value held.store)) []
data_update key (value ∷ b ∷ rest) held = bad_arguments

-- the value that is answered and what is changed
abbrev pub pop_result : Option Value → Change → Ran
pop_result None change = bad_arguments
pop_result (Some value) change = success value change []

-- takes the pair out, and answers its value, or the default, or null
abbrev pub data_pop : List ℕ → List Value → Holdings → Ran
data_pop key rest held = pop_result (found_or_default (under key held.store) rest v.Null) (change_to Store (new_without key held.store))

-- stores the new value and answers true where the old one is stored, and answers false where it isn't
abbrev pub data_cas : List ℕ → List Value → Holdings → Ran
data_cas key [] held = bad_arguments
data_cas key (new ∷ []) held = bad_arguments
data_cas key (new ∷ old ∷ []) held =
    if is_stored old (under key held.store) then success (v.Flag true) (change_to Store (new_with key new held.store)) [] else success (v.Flag false) Nothing []
data_cas key (new ∷ old ∷ b ∷ rest) held = bad_arguments

-- the number that is stored, 0 where nothing is, and None where it is another value
abbrev pub stored_number : Option Value → Option ℤ
stored_number None = Some (pos 0)
stored_number (Some value) = int_of value

-- the number to add, 1 where none is given, and None where the arguments are of another form
abbrev pub step_of : List Value → Option ℤ
step_of [] = Some (pos 1)
step_of (step ∷ []) = int_of step
step_of (step ∷ b ∷ rest) = None

-- stores the number and answers it, where it has 64 bits
abbrev pub sum_result : List ℕ → ℤ → Holdings → Ran
sum_result key number held =
    if is_int number then success (v.Int number) (change_to Store (new_with key (v.Int number) held.store)) [] else refusal 1 (codes "out of range")

-- what is made of the step and the number that is stored
abbrev pub incr_result : List ℕ → Option ℤ → Option ℤ → Holdings → Ran
incr_result key None number held = bad_arguments
incr_result key (Some step) None held = refusal 1 (codes "not a number")
incr_result key (Some step) (Some number) held = sum_result key (number +ℤ step) held

-- adds the step to the number that is stored, and answers the sum
abbrev pub data_incr : List ℕ → List Value → Holdings → Ran
data_incr key rest held = incr_result key (step_of rest) (stored_number (under key held.store)) held

-- sets the row of this name in the mine to the value
abbrev pub mine_result : List ℕ → Option Value → Holdings → Ran
mine_result name None held = bad_arguments
mine_result name (Some value) held = success (v.Flag true) (change_to Mine (new_with name value held.mine)) (note.Mine ∷ [])

-- runs a function that changes nothing, and puts its answer into the mine
abbrev pub mine_send : List ℕ → Option Function → List Value → Holdings → Ran
mine_send name (Some (Asks query)) args held = mine_result name (query_value query args held) held
mine_send name other args held = bad_arguments

-- the same by the name of the function
abbrev pub mine_send_by_name : List ℕ → List Value → Holdings → Ran
mine_send_by_name name args held = mine_send name (function_named name) args held

-- takes the row out of the mine, if it is there
abbrev pub mine_delete : List ℕ → List Value → Holdings → Ran
mine_delete name [] held = success (v.Flag true) (change_to Mine (new_without name held.mine)) (note.Mine ∷ [])
mine_delete name (a ∷ rest) held = bad_arguments

-- the bytes are a word
abbrev pub is_word : List ℕ → Bool
is_word tag = nat_lt 0 (length tag) && (nat_le (length tag) most_word_bytes && list_all is_word_byte tag)

-- fires an event with this tag, which is a word, and this body
abbrev pub event_result : List ℕ → Option Value → Ran
event_result tag None = bad_arguments
event_result tag (Some body) = if is_word tag then success (v.Flag true) Nothing (note.Fired (record { tag = tag; body = body }) ∷ []) else bad_arguments

-- fires an event, whose body is the empty map where none is given
abbrev pub event_send : List ℕ → List Value → Ran
event_send tag rest = event_result tag (found_or_default None rest (v.Map []))

-- what a function makes of a key and what follows it
abbrev pub result_by_key : Function → List ℕ → List Value → Holdings → Ran
result_by_key (Asks query) key rest held = bad_arguments
result_by_key GrainsSetval key rest held = grains_setval key rest held
result_by_key DataUpdate key rest held = data_update key rest held
result_by_key DataPop key rest held = data_pop key rest held
result_by_key DataCas key rest held = data_cas key rest held
result_by_key DataIncr key rest held = data_incr key rest held
result_by_key MineSend key rest held = mine_send_by_name key rest held
result_by_key MineDelete key rest held = mine_delete key rest held
result_by_key MineFlush key rest held = bad_arguments
result_by_key EventSend key rest held = event_send key rest
