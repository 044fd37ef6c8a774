use Rattle.salt_frame.proofs.RunLemmas.{from_empty}
use Rattle.salt_frame.proofs.laws.any_cutting.Goals as goal

pub returns : goal.returns
returns c = from_empty
