use Rattle.std.proofs.Common.{◌≡◌, ◌++◌, take, map}
use Rattle.minion_core.specs.Flat.{entry_of, held_with}
use Rattle.minion_core.proofs.running.push_notes.Given as goal

-- the entries of the notes so far come after those that were there
abbrev pub invariant-loop-note : goal.invariant-loop-note
invariant-loop-note l = l.out ≡ l.initial.out ++ map (entry_of l.seq (held_with l.changed l.held)) (take l.note-index l.notes)
