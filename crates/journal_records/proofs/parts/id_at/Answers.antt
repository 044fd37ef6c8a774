use Rattle.std.proofs.Common.{inr, sym}
use Rattle.salt_value.specs.Id.{IsId}
use Rattle.salt_wire.specs.Spelling.{id}
use Rattle.salt_wire.specs.Decoding.{id_field}
use Rattle.journal_records.proofs.PartsBack.{found_part, fails_so}
use Rattle.journal_records.proofs.parts.id_at.Goals as goal

pub returns-in-Ok : goal.returns-in-Ok
returns-in-Ok c = found_part id IsId id_field c.messages_read_back.ensures.ids c.args.bytes.now c.in-Ok.found c.in-Ok.ensures.ok

pub returns-in-Err : goal.returns-in-Err
returns-in-Err c = rw c.part_fault.ensures (fails_so id IsId id_field c.args.bytes.now c.in-Err.fault (inr (sym c.in-Err.ensures.exact)))
