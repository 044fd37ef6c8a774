use Rattle.target_match.specs.declared.ready.Ready.{size-Ready}
use Rattle.target_match.proofs.holding.+holds.Given as goal

abbrev pub decreases-holds : goal.decreases-holds
decreases-holds l = size-Ready l.ready.now
