use Rattle.target_tree.specs.declared.target.Target.{size-Target}
use Rattle.salt_wire.proofs.writing.+put_tree.Given as goal

abbrev pub decreases-put_tree : goal.decreases-put_tree
decreases-put_tree l = size-Target l.tree.now
