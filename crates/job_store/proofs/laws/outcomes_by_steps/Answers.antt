use Rattle.job_store.proofs.Outcomes.{keeps_outcomes, finds_return, keeps_other_minions, keeps_other_jobs, keeps_jobs}
use Rattle.job_store.proofs.laws.outcomes_by_steps.Goals as goal

pub returns : goal.returns
returns c = record {
  jobs = keeps_outcomes;
  value = finds_return;
  other_minions = keeps_other_minions;
  other_jobs = keeps_other_jobs;
  listed = keeps_jobs;
}
