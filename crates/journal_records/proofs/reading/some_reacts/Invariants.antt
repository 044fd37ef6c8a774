use Rattle.std.proofs.Common.{◌≡◌, ◌-◌}
use Rattle.salt_value.specs.Readers.{several}
use Rattle.salt_value.proofs.ReaderLoops.{with_front}
use Rattle.journal_records.specs.Decoding.{react_part}
use Rattle.journal_records.proofs.reading.some_reacts.Given as goal

abbrev pub invariant-loop : goal.invariant-loop
invariant-loop l = with_front l.items (several react_part (l.count - l.counter) l.rest) ≡ several react_part l.count l.bytes
