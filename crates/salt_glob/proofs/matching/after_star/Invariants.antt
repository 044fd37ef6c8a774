use Rattle.std.proofs.Common.{◌+◌, ◌-◌, ◌*◌, length}
use Rattle.salt_glob.proofs.Searches.{Search}
use Rattle.salt_glob.proofs.matching.after_star.Given as goal

abbrev pub invariant-loop-t : goal.invariant-loop-t
invariant-loop-t l = Search l.pattern l.text l.after l.from l.after_star l.from_star l.p l.t

abbrev pub decreases-loop-t : goal.decreases-loop-t
decreases-loop-t l = (length l.text - l.from_star) * (length l.pattern + 1) + (length l.pattern - l.p)
