use Rattle.journal_records.proofs.PartsBack.{Below}
use Rattle.journal_records.proofs.RecordsBack.{records_read, records_written}
use Rattle.journal_records.proofs.laws.readers_read_back.Goals as goal

pub returns : goal.returns
returns c =
    let l : Below = record {
      numbers_read = c.numbers_read_back.ensures.written;
      numbers_written = c.numbers_read_back.ensures.read;
      values_read = c.values_read_back.ensures.written;
      values_written = c.values_read_back.ensures.read;
      ids = c.messages_read_back.ensures.ids;
      words = c.messages_read_back.ensures.words;
      entries = c.messages_read_back.ensures.entries;
      jobs = c.messages_read_back.ensures.jobs;
    } in
    record { written = records_read l; read = records_written l }
