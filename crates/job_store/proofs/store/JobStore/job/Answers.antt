use Rattle.std.proofs.Common.{List, ◌∙◌, ap, slice_get}
use Rattle.salt_wire.specs.declared.message.Job.{Job}
use Rattle.job_store.proofs.Stores.{got, jobs_of}
use Rattle.job_store.proofs.store.JobStore.job.Goals as goal

pub returns : goal.returns
returns c = record {
  value = got _ _ _ c.get.ensures.lookup
      ∙ ap (λ (jobs : List Job). slice_get jobs c.args.seq) (c.deref.ensures.value ∙ jobs_of _ _ c.self.invariant _ c.self.view_is);
}
