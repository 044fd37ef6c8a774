use Rattle.checkpoint_log.proofs.Images.{one_log}
use Rattle.checkpoint_log.proofs.laws.logs_are_one.Goals as goal

pub returns : goal.returns
returns c = one_log
