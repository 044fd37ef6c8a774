use Rattle.std.proofs.Common.{◌≤◌, ◌-◌, length, take, drop}
use Rattle.salt_frame.specs.BufferFields.{AreFrames}
use Rattle.salt_frame.proofs.front.scan.Given as goal

abbrev pub invariant-loop-length : goal.invariant-loop-length
invariant-loop-length l = record { from : l.from ≤ l.at; within : l.at ≤ length l.bytes; frames : AreFrames (take (l.at - l.from) (drop l.from l.bytes)) }

abbrev pub decreases-loop-length : goal.decreases-loop-length
decreases-loop-length l = length l.bytes - l.at
