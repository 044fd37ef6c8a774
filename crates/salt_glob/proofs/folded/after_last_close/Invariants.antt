use Rattle.std.proofs.Common.{◌≤◌, take}
use Rattle.salt_glob.proofs.Lists.{LastClose}
use Rattle.salt_glob.proofs.folded.after_last_close.Given as goal

abbrev pub invariant-loop-i : goal.invariant-loop-i
invariant-loop-i l = record { closes : LastClose (take l.i l.bytes) l.last; bound : l.last ≤ l.i }
