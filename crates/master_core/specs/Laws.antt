-- What is found in a master's logs after an entry more.
use Rattle.std.specs.Prelude.{◌≡◌, IsTrue, ℕ, List, [], ◌∷◌, ◌++◌, length, is_some, bytes_eq, if◌then◌else◌}
use Rattle.salt_wire.specs.declared.message.Entry.{Entry}
use Rattle.master_core.specs.Master.{MasterState, place_in, log_of_id, master_with_entry}

-- an entry of a minion below is found at the end of that minion's log, and every other log is as before
abbrev pub FindsEntry : Type 0
FindsEntry = (id other : List ℕ) (entry : Entry) (s : MasterState) → IsTrue (is_some (place_in s.ids id)) → length s.logs ≡ length s.ids
    → log_of_id other (master_with_entry id entry s) ≡ (if bytes_eq id other then log_of_id other s ++ entry ∷ [] else log_of_id other s)
