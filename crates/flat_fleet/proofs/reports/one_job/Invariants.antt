use Rattle.std.proofs.Common.{◌≡◌, take}
use Rattle.flat_fleet.specs.Reports.{minion_after, rows_after}
use Rattle.flat_fleet.proofs.Present.{Half}
use Rattle.flat_fleet.proofs.reports.one_job.Given as goal

abbrev pub invariant-loop-i : goal.invariant-loop-i
invariant-loop-i l = (l.minions ≡ Half (minion_after l.job) l.i l.initial.minions) × (l.rows ≡ rows_after l.job (take l.i l.initial.minions))
