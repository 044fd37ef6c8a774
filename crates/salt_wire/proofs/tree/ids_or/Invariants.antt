use Rattle.std.proofs.Common.{◌≡◌, ◌-◌}
use Rattle.salt_value.specs.Readers.{several}
use Rattle.salt_wire.specs.Decoding.{id_or}
use Rattle.salt_value.proofs.ReaderLoops.{with_front}
use Rattle.salt_wire.proofs.tree.ids_or.Given as goal

abbrev pub invariant-loop : goal.invariant-loop
invariant-loop l = with_front l.ids (several (id_or l.bad) (l.count - l.counter) l.rest) ≡ several (id_or l.bad) l.count l.bytes
