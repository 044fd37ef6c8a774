use Rattle.salt_value.proofs.Whole.{apart}
use Rattle.salt_value.proofs.laws.prefix_free.Goals as goal

pub returns : goal.returns
returns c = apart
