use Rattle.std.proofs.Common.{◌≡◌, ◌≤◌, ◌-◌, length, drop}
use Rattle.salt_glob.specs.Classes.{is_member}
use Rattle.salt_glob.proofs.class.is_member.Given as goal

abbrev pub invariant-loop-i : goal.invariant-loop-i
invariant-loop-i l = record { within : l.i ≤ length l.members; left : is_member l.byte l.members ≡ is_member l.byte (drop l.i l.members) }

abbrev pub decreases-loop-i : goal.decreases-loop-i
decreases-loop-i l = length l.members - l.i
