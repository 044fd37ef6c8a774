use Rattle.std.proofs.Common.{◌≡◌, true, List, ◌∙◌, subst}
use Rattle.minion_core.specs.Flat.{is_rising}
use Rattle.salt_wire.specs.declared.message.Job.{Job}
use Rattle.job_store.proofs.Stores.{jobs_of, once_of}
use Rattle.job_store.proofs.store.JobStore.jobs.Goals as goal

pub returns-clause-value : goal.returns-clause-value
returns-clause-value c = c.as_slice.ensures.value ∙ jobs_of _ _ c.self.invariant _ c.self.view_is

pub returns-clause-rising : goal.returns-clause-rising
returns-clause-rising c = subst (λ (jobs : List Job). is_rising jobs ≡ true) (jobs_of _ _ c.self.invariant _ c.self.view_is) c.self.invariant.rising

pub returns-clause-once : goal.returns-clause-once
returns-clause-once c = once_of _ _ c.self.invariant _ c.self.view_is
