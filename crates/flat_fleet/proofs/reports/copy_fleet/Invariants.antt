use Rattle.std.proofs.Common.{◌≡◌, take}
use Rattle.flat_fleet.proofs.reports.copy_fleet.Given as goal

abbrev pub invariant-loop-minion : goal.invariant-loop-minion
invariant-loop-minion l = l.copies.items ≡ take l.minion-index l.fleet
