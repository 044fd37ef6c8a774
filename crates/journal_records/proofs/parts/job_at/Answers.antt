use Rattle.salt_wire.specs.Limits.{JobFits}
use Rattle.salt_wire.specs.Spelling.{job}
use Rattle.salt_wire.specs.Decoding.{job_field}
use Rattle.journal_records.proofs.PartsBack.{found_part, fails_so}
use Rattle.journal_records.proofs.parts.job_at.Goals as goal

pub returns-in-Ok : goal.returns-in-Ok
returns-in-Ok c = found_part job JobFits job_field c.messages_read_back.ensures.jobs c.args.bytes.now (c.in-Ok.job, c.in-Ok.taken) c.in-Ok.ensures.ok

pub returns-in-Err : goal.returns-in-Err
returns-in-Err c = rw c.part_fault.ensures (fails_so job JobFits job_field c.args.bytes.now c.in-Err.fault c.in-Err.ensures.exact)
