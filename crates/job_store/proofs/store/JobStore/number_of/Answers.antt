use Rattle.std.proofs.Common.{List, ◌∙◌, ap, position}
use Rattle.std.specs.Prelude.{◌==◌}
use Rattle.salt_wire.specs.declared.message.Job.{Job}
use Rattle.job_store.proofs.Stores.{jobs_of}
use Rattle.job_store.proofs.store.JobStore.number_of.Goals as goal

pub returns : goal.returns
returns c = record {
  value = c.number_of.ensures.value
      ∙ ap (λ (jobs : List Job). position (λ (job : Job). job.jid == c.args.jid) jobs) (c.as_slice.ensures.value ∙ jobs_of _ _ c.self.invariant _ c.self.view_is);
}
