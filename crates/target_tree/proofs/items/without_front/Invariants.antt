use Rattle.std.proofs.Common.{◌≡◌, length}
use Rattle.target_tree.specs.Words.{without_spaces}
use Rattle.target_tree.proofs.items.without_front.Given as goal

abbrev pub invariant-loop-rest : goal.invariant-loop-rest
invariant-loop-rest l = without_spaces l.item ≡ without_spaces l.rest

abbrev pub decreases-loop-rest : goal.decreases-loop-rest
decreases-loop-rest l = length l.rest
