use Rattle.std.proofs.Common.{◌≡◌, ◌-◌}
use Rattle.salt_value.specs.Readers.{several}
use Rattle.salt_value.proofs.ReaderLoops.{with_front}
use Rattle.salt_wire.specs.Decoding.{entry_field}
use Rattle.journal_records.specs.Decoding.{part}
use Rattle.journal_records.proofs.reading.some_entries.Given as goal

abbrev pub invariant-loop : goal.invariant-loop
invariant-loop l = with_front l.entries (several (part entry_field) (l.count - l.counter) l.rest) ≡ several (part entry_field) l.count l.bytes
