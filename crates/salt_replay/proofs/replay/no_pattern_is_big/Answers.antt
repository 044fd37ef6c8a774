use Rattle.salt_replay.proofs.BigPatterns.{none_is_big}
use Rattle.salt_replay.proofs.replay.no_pattern_is_big.Goals as goal

pub returns : goal.returns
returns c = none_is_big c.whole_runs.ensures.invariant c.whole_runs.ensures.published
