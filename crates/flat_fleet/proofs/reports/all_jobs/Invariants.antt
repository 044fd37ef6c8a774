use Rattle.std.proofs.Common.{◌≡◌, take, map}
use Rattle.flat_fleet.specs.Reports.{reports_to}
use Rattle.flat_fleet.proofs.Present.{present}
use Rattle.flat_fleet.proofs.reports.all_jobs.Given as goal

abbrev pub invariant-loop-k : goal.invariant-loop-k
invariant-loop-k l = (l.minions ≡ map (present (take l.k l.jobs)) l.initial.minions) × (l.reports.items ≡ reports_to l.k l.initial.minions l.jobs)
