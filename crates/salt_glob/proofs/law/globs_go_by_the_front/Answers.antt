use Rattle.salt_glob.proofs.Fronts.{by_front}
use Rattle.salt_glob.proofs.law.globs_go_by_the_front.Goals as goal

pub returns : goal.returns
returns c = by_front
