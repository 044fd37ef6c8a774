use Rattle.std.proofs.Common.{◌≡◌, map, take}
use Rattle.tests_nodes.proofs.minions.matchers_of.Given as goal

-- the matchers so far are those of the jobs so far
abbrev pub invariant-loop-job : goal.invariant-loop-job
invariant-loop-job l = l.matchers.items ≡ map (λ job. job.target) (take l.job-index l.jobs)
