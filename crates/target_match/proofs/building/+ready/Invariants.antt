use Rattle.std.proofs.Common.{◌+◌, ◌*◌, max}
use Rattle.target_tree.specs.declared.target.Target.{size-Target}
use Rattle.target_match.proofs.building.+ready.Given as goal

abbrev pub decreases-ready : goal.decreases-ready
decreases-ready l = 2 * size-Target l.tree.now

abbrev pub decreases-both : goal.decreases-both
decreases-both l = 2 * max (size-Target l.left.now) (size-Target l.right.now) + 1
