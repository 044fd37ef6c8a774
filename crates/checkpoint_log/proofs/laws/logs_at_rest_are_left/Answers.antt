use Rattle.checkpoint_log.proofs.Images.{left_at_rest}
use Rattle.checkpoint_log.proofs.laws.logs_at_rest_are_left.Goals as goal

pub returns : goal.returns
returns c = left_at_rest
