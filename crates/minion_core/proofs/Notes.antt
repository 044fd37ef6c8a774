-- A function makes at most one note.
use Rattle.std.proofs.Common.{ℕ, ◌≤◌, Bool, true, false, ◌&&◌, List, [], ◌∷◌, length, Option, None, Some, arith, if◌then◌else◌}
use Rattle.std.specs.Prelude.{ℤ, ◌+ℤ◌, codes}
use Rattle.salt_value.specs.declared.value.Value.{Value}
use Rattle.salt_value.specs.WellFormed.{is_int}
use Rattle.salt_value.specs.Keys.{under}
use Rattle.exec_functions.specs.declared.function.Function.{Function}
use Rattle.exec_functions.specs.declared.function.Function.TheVariants.{Asks, GrainsSetval, DataUpdate, DataPop, DataCas, DataIncr, MineSend, MineDelete, MineFlush, EventSend}
use Rattle.exec_functions.specs.declared.holdings.Holdings.{Holdings}
use Rattle.exec_functions.specs.declared.holdings.Change.{Change}
use Rattle.exec_functions.specs.declared.holdings.Ran.{Ran}
use Rattle.salt_value.specs.FitTest.{fits}
use Rattle.exec_functions.specs.Functions.{function_named}
use Rattle.exec_functions.specs.Arguments.{key_and_rest}
use Rattle.exec_functions.specs.Results.{bad_arguments, refusal, is_stored}
use Rattle.exec_functions.specs.Queries.{query_value, query_result}
use Rattle.exec_functions.specs.ByKey.{grains_setval, data_update, pop_result, data_cas, step_of, stored_number, incr_result, mine_result, mine_send, mine_delete, is_grain_key, is_word, event_result, result_by_key}
use Rattle.exec_functions.specs.Exec.{mine_flush, result_with_key, result_of, change_fits, result_within, run_of, run}

abbrev Few : Ran → Type 0
Few made = length made.notes ≤ 1

few_if : (t : Bool) (x y : Ran) → Few x → Few y → Few (if t then x else y)
few_if true x y a b = a
few_if false x y a b = b

few_answer : (value : Option Value) → Few (query_result value)
few_answer None = omega arith
few_answer (Some value) = omega arith

few_popped : (value : Option Value) (change : Change) → Few (pop_result value change)
few_popped None change = omega arith
few_popped (Some value) change = omega arith

few_mined : (name : List ℕ) (value : Option Value) (held : Holdings) → Few (mine_result name value held)
few_mined name None held = omega arith
few_mined name (Some value) held = omega arith

few_fired : (tag : List ℕ) (body : Option Value) → Few (event_result tag body)
few_fired tag None = omega arith
few_fired tag (Some body) = few_if (is_word tag) _ bad_arguments (omega arith) (omega arith)

few_sent : (name : List ℕ) (function : Option Function) (args : List Value) (held : Holdings) → Few (mine_send name function args held)
few_sent name None args held = omega arith
few_sent name (Some (Asks query)) args held = few_mined name (query_value query args held) held
few_sent name (Some GrainsSetval) args held = omega arith
few_sent name (Some DataUpdate) args held = omega arith
few_sent name (Some DataPop) args held = omega arith
few_sent name (Some DataCas) args held = omega arith
few_sent name (Some DataIncr) args held = omega arith
few_sent name (Some MineSend) args held = omega arith
few_sent name (Some MineDelete) args held = omega arith
few_sent name (Some MineFlush) args held = omega arith
few_sent name (Some EventSend) args held = omega arith

few_setval : (key : List ℕ) (rest : List Value) (held : Holdings) → Few (grains_setval key rest held)
few_setval key [] held = omega arith
few_setval key (value ∷ []) held = few_if (is_grain_key key) _ bad_arguments (omega arith) (omega arith)
few_setval key (value ∷ b ∷ rest) held = omega arith

few_update : (key : List ℕ) (rest : List Value) (held : Holdings) → Few (data_update key rest held)
few_update key [] held = omega arith
few_update key (value ∷ []) held = omega arith
few_update key (value ∷ b ∷ rest) held = omega arith

few_cas : (key : List ℕ) (rest : List Value) (held : Holdings) → Few (data_cas key rest held)
few_cas key [] held = omega arith
few_cas key (new ∷ []) held = omega arith
few_cas key (new ∷ old ∷ []) held = few_if (is_stored old (under key held.store)) _ _ (omega arith) (omega arith)
few_cas key (new ∷ old ∷ b ∷ rest) held = omega arith

few_added : (key : List ℕ) (step number : Option ℤ) (held : Holdings) → Few (incr_result key step number held)
few_added key None number held = omega arith
few_added key (Some step) None held = omega arith
few_added key (Some step) (Some number) held = few_if (is_int (number +ℤ step)) _ _ (omega arith) (omega arith)

few_delete : (key : List ℕ) (rest : List Value) (held : Holdings) → Few (mine_delete key rest held)
few_delete key [] held = omega arith
few_delete key (a ∷ rest) held = omega arith

few_flush : (args : List Value) (held : Holdings) → Few (mine_flush args held)
few_flush [] held = omega arith
few_flush (a ∷ rest) held = omega arith

few_keyed : (function : Function) (key : List ℕ) (rest : List Value) (held : Holdings) → Few (result_by_key function key rest held)
few_keyed (Asks query) key rest held = omega arith
few_keyed GrainsSetval key rest held = few_setval key rest held
few_keyed DataUpdate key rest held = few_update key rest held
few_keyed DataPop key rest held = few_popped _ _
few_keyed DataCas key rest held = few_cas key rest held
few_keyed DataIncr key rest held = few_added key (step_of rest) (stored_number (under key held.store)) held
few_keyed MineSend key rest held = few_sent key (function_named key) rest held
few_keyed MineDelete key rest held = few_delete key rest held
few_keyed MineFlush key rest held = omega arith
few_keyed EventSend key rest held = few_fired key _

few_key : (function : Function) (k : Option (List ℕ × List Value)) (held : Holdings) → Few (result_with_key function k held)
few_key function None held = omega arith
few_key function (Some k) held = few_keyed function k.0 k.1 held

few_result : (function : Function) (args : List Value) (held : Holdings) → Few (result_of function args held)
few_result (Asks query) args held = few_answer (query_value query args held)
few_result GrainsSetval args held = few_key GrainsSetval (key_and_rest args) held
few_result DataUpdate args held = few_key DataUpdate (key_and_rest args) held
few_result DataPop args held = few_key DataPop (key_and_rest args) held
few_result DataCas args held = few_key DataCas (key_and_rest args) held
few_result DataIncr args held = few_key DataIncr (key_and_rest args) held
few_result MineSend args held = few_key MineSend (key_and_rest args) held
few_result MineDelete args held = few_key MineDelete (key_and_rest args) held
few_result MineFlush args held = few_flush args held
few_result EventSend args held = few_key EventSend (key_and_rest args) held

few_settled : (made : Ran) → Few made → Few (result_within made)
few_settled made h = few_if (fits made.outcome.value && change_fits made.change) made (refusal 1 (codes "result too large")) h (omega arith)

few_ran : (fun : List ℕ) (function : Option Function) (args : List Value) (held : Holdings) → Few (run_of fun function args held)
few_ran fun None args held = omega arith
few_ran fun (Some function) args held = few_settled (result_of function args held) (few_result function args held)

pub few_notes : (fun : List ℕ) (args : List Value) (held : Holdings) → length (run fun args held).notes ≤ 1
few_notes fun args held = few_ran fun (function_named fun) args held
