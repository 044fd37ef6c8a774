use Rattle.flat_fleet.proofs.Present.{first_jobs}
use Rattle.flat_fleet.proofs.laws.first_jobs_decide.Goals as goal

pub returns : goal.returns
returns c = first_jobs
