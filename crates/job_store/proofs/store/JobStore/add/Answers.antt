use Rattle.std.proofs.Common.{arith}
use Rattle.job_store.proofs.Stores.{count_of, jobs_of}
use Rattle.job_store.proofs.store.JobStore.add.Goals as goal

pub add_job-requires-clause-room : goal.add_job-requires-clause-room
add_job-requires-clause-room c = omega (arith, c.requires.room, count_of _ _ c.self.invariant _ c.self.view_is)

pub returns-clause-not_later : goal.returns-clause-not_later
returns-clause-not_later c = rw (← jobs_of _ _ c.self.invariant _ c.self.view_is) c.add_job.ensures.not_later
