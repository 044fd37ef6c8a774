use Rattle.std.proofs.Common.{◌≡◌, ◌++◌, length, map, take}
use Rattle.salt_value.specs.Spelling.{concatenation}
use Rattle.salt_wire.specs.Spelling.{number}
use Rattle.journal_records.specs.Spelling.{react_bytes}
use Rattle.journal_records.proofs.writing.put_reacts.Given as goal

abbrev pub invariant-loop-item : goal.invariant-loop-item
invariant-loop-item l = l.out.items ≡ l.fn.out.items ++ (number (length l.items) ++ concatenation (map react_bytes (take l.item-index l.items)))
