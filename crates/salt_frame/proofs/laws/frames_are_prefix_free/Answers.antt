use Rattle.salt_frame.proofs.Readings.{prefix_free}
use Rattle.salt_frame.proofs.laws.frames_are_prefix_free.Goals as goal

pub returns : goal.returns
returns c = prefix_free
