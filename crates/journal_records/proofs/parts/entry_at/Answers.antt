use Rattle.salt_wire.specs.Limits.{EntryFits}
use Rattle.salt_wire.specs.Spelling.{entry}
use Rattle.salt_wire.specs.Decoding.{entry_field}
use Rattle.journal_records.proofs.PartsBack.{found_part, fails_so}
use Rattle.journal_records.proofs.parts.entry_at.Goals as goal

pub returns-in-Ok : goal.returns-in-Ok
returns-in-Ok c = found_part entry EntryFits entry_field c.messages_read_back.ensures.entries c.args.bytes.now (c.in-Ok.entry, c.in-Ok.taken) c.in-Ok.ensures.ok

pub returns-in-Err : goal.returns-in-Err
returns-in-Err c = rw c.part_fault.ensures (fails_so entry EntryFits entry_field c.args.bytes.now c.in-Err.fault c.in-Err.ensures.exact)
