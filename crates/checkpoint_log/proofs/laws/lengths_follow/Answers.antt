use Rattle.checkpoint_log.proofs.Stops.{lengths}
use Rattle.checkpoint_log.proofs.laws.lengths_follow.Goals as goal

pub returns : goal.returns
returns c = lengths
