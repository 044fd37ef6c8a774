use Rattle.std.proofs.Common.{◌≡◌, ◌++◌, drop}
use Rattle.std.specs.Prelude.{flat_map}
use Rattle.tree_world.specs.Text.{jobs_text, job_text}
use Rattle.tree_world.proofs.queries.jobs_text.Given as goal

-- the text so far and that of the jobs left are the whole text
abbrev pub invariant-loop-job : goal.invariant-loop-job
invariant-loop-job l = l.out.items ++ flat_map job_text (drop l.job-index l.jobs) ≡ jobs_text l.jobs
