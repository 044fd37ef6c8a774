use Rattle.salt_wire.proofs.Codec.{Lower, ids, words}
use Rattle.salt_wire.proofs.TreeBack.{trees}
use Rattle.salt_wire.proofs.MessageBack.{entries, jobs, messages}
use Rattle.salt_wire.proofs.laws.messages_read_back.Goals as goal

pub returns-clause-ids : goal.returns-clause-ids
returns-clause-ids c = ids (record {
  numbers_written = c.numbers_read_back.ensures.written;
  numbers_read = c.numbers_read_back.ensures.read;
  texts_written = c.texts_read_back.ensures.written;
  texts_read = c.texts_read_back.ensures.read;
  values_written = c.values_read_back.ensures.written;
  values_read = c.values_read_back.ensures.read;
})

pub returns-clause-words : goal.returns-clause-words
returns-clause-words c = words (record {
  numbers_written = c.numbers_read_back.ensures.written;
  numbers_read = c.numbers_read_back.ensures.read;
  texts_written = c.texts_read_back.ensures.written;
  texts_read = c.texts_read_back.ensures.read;
  values_written = c.values_read_back.ensures.written;
  values_read = c.values_read_back.ensures.read;
})

pub returns-clause-entries : goal.returns-clause-entries
returns-clause-entries c =
    let l : Lower = record {
      numbers_written = c.numbers_read_back.ensures.written;
      numbers_read = c.numbers_read_back.ensures.read;
      texts_written = c.texts_read_back.ensures.written;
      texts_read = c.texts_read_back.ensures.read;
      values_written = c.values_read_back.ensures.written;
      values_read = c.values_read_back.ensures.read;
    } in
    entries l (trees l)

pub returns-clause-jobs : goal.returns-clause-jobs
returns-clause-jobs c =
    let l : Lower = record {
      numbers_written = c.numbers_read_back.ensures.written;
      numbers_read = c.numbers_read_back.ensures.read;
      texts_written = c.texts_read_back.ensures.written;
      texts_read = c.texts_read_back.ensures.read;
      values_written = c.values_read_back.ensures.written;
      values_read = c.values_read_back.ensures.read;
    } in
    jobs l (trees l)

pub returns-clause-messages : goal.returns-clause-messages
returns-clause-messages c =
    let l : Lower = record {
      numbers_written = c.numbers_read_back.ensures.written;
      numbers_read = c.numbers_read_back.ensures.read;
      texts_written = c.texts_read_back.ensures.written;
      texts_read = c.texts_read_back.ensures.read;
      values_written = c.values_read_back.ensures.written;
      values_read = c.values_read_back.ensures.read;
    } in
    messages l (trees l)
