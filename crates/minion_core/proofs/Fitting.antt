-- What a job makes is within the limits of messages.
use Rattle.std.proofs.Common.{◌≡◌, ℕ, ◌+◌, ◌<◌, ◌≤◌, ◌^◌, List, [], ◌∷◌, length, map, All, Option, None, Some, arith}
use Rattle.std.proofs.lemmas.List.{length-append, length-map}
use Rattle.std.proofs.lemmas.List.Elements.{All-nil, All-cons, All-head, All-tail, All-append}
use Rattle.salt_value.specs.declared.value.Value.{Value}
use Rattle.exec_functions.specs.declared.holdings.Holdings.{Holdings}
use Rattle.exec_functions.specs.declared.holdings.Change.{Change}
use Rattle.exec_functions.specs.declared.holdings.Change.TheVariants as c
use Rattle.exec_functions.specs.declared.holdings.Note.{Note}
use Rattle.exec_functions.specs.declared.holdings.Note.TheVariants as note
use Rattle.exec_functions.specs.declared.holdings.Ran.{Ran}
use Rattle.exec_functions.specs.Exec.{run, with_change}
use Rattle.exec_functions.specs.Limits.{AreWithin, IsSendable, ChangeFits, NoteFits}
use Rattle.salt_wire.specs.declared.message.Entry.TheVariants.{Return}
use Rattle.salt_wire.specs.declared.deed.Changed.{Changed}
use Rattle.salt_wire.specs.Limits.{EntryFits}
use Rattle.minion_core.specs.Flat.{changed_of, entry_of, entries_by, entries_in, done_by, held_with}
use Rattle.minion_core.specs.Limits.{ChangedFits, DeedFits}
use Rattle.minion_core.proofs.Notes.{few_notes}

changed_fits : (change : Change) (held : Holdings) → AreWithin held → ChangeFits change → ChangedFits (changed_of change held)
changed_fits c.Nothing held h f = tt
changed_fits (c.Grains ps) held h f = (f, h.store, h.mine)
changed_fits (c.Store ps) held h f = (h.grains, f, h.mine)
changed_fits (c.Mine ps) held h f = (h.grains, h.store, f)

within_after : (change : Change) (held : Holdings) → AreWithin held → ChangeFits change → AreWithin (with_change change held)
within_after c.Nothing held h f = h
within_after (c.Grains ps) held h f = record { grains = f; pillar = h.pillar; store = h.store; mine = h.mine }
within_after (c.Store ps) held h f = record { grains = h.grains; pillar = h.pillar; store = f; mine = h.mine }
within_after (c.Mine ps) held h f = record { grains = h.grains; pillar = h.pillar; store = h.store; mine = f }

-- what is held after a record
pub within_with : (changed : Option Changed) (held : Holdings) → AreWithin held → ChangedFits changed → AreWithin (held_with changed held)
within_with None held h f = h
within_with (Some new) held h f = record { grains = f.0; pillar = h.pillar; store = f.1; mine = f.2 }

entry_fits : (seq : ℕ) (held : Holdings) (n : Note) → seq < 2 ^ 32 → AreWithin held → NoteFits n → EntryFits (entry_of seq held n)
entry_fits seq held (note.Fired event) l h f = f
entry_fits seq held note.Mine l h f = (l, h.mine, h.grains, h.pillar)

entries_fit : (seq : ℕ) (held : Holdings) (notes : List Note) → seq < 2 ^ 32 → AreWithin held → All NoteFits notes → All EntryFits (map (entry_of seq held) notes)
entries_fit seq held [] l h f = All-nil EntryFits
entries_fit seq held (n ∷ notes) l h f = All-cons EntryFits (entry_of seq held n) (map (entry_of seq held) notes) (entry_fits seq held n l h (All-head NoteFits n notes f)) (entries_fit seq held notes l h (All-tail NoteFits n notes f))

pub done_fits : (seq : ℕ) (held : Holdings) (ran : Ran) → seq < 2 ^ 32 → AreWithin held → IsSendable ran → DeedFits (done_by seq held ran)
done_fits seq held ran l h s =
    let after = within_after ran.change held h s.change in
    let last : EntryFits (Return seq ran.outcome) = (l, s.retcode, s.value) in (
      changed_fits ran.change held h s.change,
      All-append EntryFits _ _ (entries_fit seq (with_change ran.change held) ran.notes l after s.notes) (All-cons EntryFits (Return seq ran.outcome) [] last (All-nil EntryFits)),
    )

few_entries : (seq : ℕ) (held : Holdings) (ran : Ran) → length ran.notes ≤ 1 → length (entries_by seq held ran) ≤ 2
few_entries seq held ran h =
    let a : length (entries_by seq held ran) ≡ length (map (entry_of seq held) ran.notes) + 1 = length-append (map (entry_of seq held) ran.notes) (Return seq ran.outcome ∷ []) in
    let b = length-map ran.notes (entry_of seq held) in
    omega arith

pub done_few : (seq : ℕ) (fun : List ℕ) (args : List Value) (held : Holdings) → length (entries_in (done_by seq held (run fun args held))) ≤ 2
done_few seq fun args held = few_entries seq (with_change (run fun args held).change held) (run fun args held) (few_notes fun args held)
