use Rattle.std.proofs.Common.{take}
use Rattle.salt_disk.proofs.Blots.{Blotted}
use Rattle.salt_disk.proofs.part.blot_ranges.Given as goal

abbrev pub invariant-loop-range : goal.invariant-loop-range
invariant-loop-range l = Blotted l.pick l.initial.image (take l.range-index l.ranges) l.image
