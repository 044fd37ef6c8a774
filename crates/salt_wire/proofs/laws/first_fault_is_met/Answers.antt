use Rattle.salt_wire.proofs.Codec.{Lower}
use Rattle.salt_wire.proofs.TreeBack.{trees}
use Rattle.salt_wire.proofs.MessageBack.{messages}
use Rattle.salt_wire.proofs.TreeFaults.{tree_told}
use Rattle.salt_wire.proofs.FirstFaults.{is_first, is_met, id_told, word_told, entry_told, job_told}
use Rattle.salt_wire.proofs.laws.first_fault_is_met.Goals as goal

pub returns : goal.returns
returns c =
    let l : Lower = record {
      numbers_written = c.numbers_read_back.ensures.written;
      numbers_read = c.numbers_read_back.ensures.read;
      texts_written = c.texts_read_back.ensures.written;
      texts_read = c.texts_read_back.ensures.read;
      values_written = c.values_read_back.ensures.written;
      values_read = c.values_read_back.ensures.read;
    } in
    record {
      fault = is_first l (trees l) (tree_told l) (messages l (trees l));
      first = is_met l (trees l) (tree_told l) (messages l (trees l));
      ids = id_told l (trees l) (tree_told l);
      words = word_told l (trees l) (tree_told l);
      entries = entry_told l (trees l) (tree_told l);
      jobs = job_told l (trees l) (tree_told l);
    }
