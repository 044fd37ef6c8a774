use Rattle.std.proofs.Common.{◌+◌, ◌*◌}
use Rattle.target_tree.specs.declared.target.Target.{size-Target}
use Rattle.target_tree.proofs.copy.+copy.Given as goal

abbrev pub decreases-copy : goal.decreases-copy
decreases-copy l = 2 * size-Target l.tree.now

abbrev pub decreases-boxed : goal.decreases-boxed
decreases-boxed l = 2 * size-Target l.tree.now + 1
