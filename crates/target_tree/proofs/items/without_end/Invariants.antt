use Rattle.std.proofs.Common.{◌≡◌, length, reverse}
use Rattle.target_tree.specs.Words.{without_spaces}
use Rattle.target_tree.proofs.items.without_end.Given as goal

abbrev pub invariant-loop-rest : goal.invariant-loop-rest
invariant-loop-rest l = reverse (without_spaces (reverse l.item)) ≡ reverse (without_spaces (reverse l.rest))

abbrev pub decreases-loop-rest : goal.decreases-loop-rest
decreases-loop-rest l = length l.rest
