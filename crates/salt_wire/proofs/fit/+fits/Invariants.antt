use Rattle.std.proofs.Common.{◌+◌, ◌*◌, max}
use Rattle.target_tree.specs.declared.target.Target.{size-Target}
use Rattle.salt_wire.proofs.fit.+fits.Given as goal

abbrev pub decreases-after : goal.decreases-after
decreases-after l = 2 * size-Target l.tree.now

abbrev pub decreases-after_both : goal.decreases-after_both
decreases-after_both l = 2 * max (size-Target l.one.now) (size-Target l.other.now) + 1
