use Rattle.salt_frame.proofs.Readings.{one}
use Rattle.salt_frame.proofs.laws.one_reading.Goals as goal

pub returns : goal.returns
returns c = one
