use Rattle.salt_value.proofs.Whole.{read_again, found_whole}
use Rattle.salt_value.proofs.laws.values_read_back.Goals as goal

pub returns-clause-written : goal.returns-clause-written
returns-clause-written c = read_again

pub returns-clause-read : goal.returns-clause-read
returns-clause-read c = λ input v n fits e. found_whole input v n fits e
