use Rattle.std.proofs.Common.{◌-◌, length}
use Rattle.salt_glob.proofs.Leads.{Lead}
use Rattle.salt_glob.proofs.matching.holds.Given as goal

abbrev pub invariant-loop-p : goal.invariant-loop-p
invariant-loop-p l = Lead l.pattern l.text l.p l.t

abbrev pub decreases-loop-p : goal.decreases-loop-p
decreases-loop-p l = length l.pattern - l.p
