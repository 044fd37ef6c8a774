use Rattle.salt_value.specs.Word.{IsWord}
use Rattle.salt_wire.specs.Spelling.{word}
use Rattle.salt_wire.specs.Decoding.{word_field}
use Rattle.journal_records.proofs.PartsBack.{found_part, fails_so}
use Rattle.journal_records.proofs.parts.word_at.Goals as goal

pub returns-in-Ok : goal.returns-in-Ok
returns-in-Ok c = found_part word IsWord word_field c.messages_read_back.ensures.words c.args.bytes.now (c.in-Ok.word, c.in-Ok.taken) c.in-Ok.ensures.ok

pub returns-in-Err : goal.returns-in-Err
returns-in-Err c = rw c.part_fault.ensures (fails_so word IsWord word_field c.args.bytes.now c.in-Err.fault c.in-Err.ensures.exact)
