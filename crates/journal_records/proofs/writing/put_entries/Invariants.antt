use Rattle.std.proofs.Common.{◌≡◌, ◌++◌, length, map, take}
use Rattle.salt_value.specs.Spelling.{concatenation}
use Rattle.salt_wire.specs.Spelling.{number, entry}
use Rattle.journal_records.proofs.writing.put_entries.Given as goal

abbrev pub invariant-loop-entry : goal.invariant-loop-entry
invariant-loop-entry l = l.out.items ≡ l.fn.out.items ++ (number (length l.entries) ++ concatenation (map entry (take l.entry-index l.entries)))
