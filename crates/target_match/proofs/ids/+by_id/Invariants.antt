use Rattle.target_match.specs.declared.ready.Ready.{size-Ready}
use Rattle.target_match.proofs.ids.+by_id.Given as goal

abbrev pub decreases-by_id : goal.decreases-by_id
decreases-by_id l = size-Ready l.tree.now
