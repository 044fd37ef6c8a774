use Rattle.std.proofs.Common.{rules}
use Rattle.std.proofs.lemmas.List.Sorted.{answers_always}
use Rattle.salt_wire.specs.declared.message.Job.{Job}
use Rattle.job_store.proofs.Rising.{found_at, found_nowhere}
use Rattle.job_store.proofs.store.number_of.Goals as goal

pub returns-in-Ok : goal.returns-in-Ok
returns-in-Ok c = record {
  value = found_at c.args.jobs.now c.requires.rising c.args.jid c.in-Ok.at c.in-Ok.ensures.bound
      (c.in-Ok.ensures.position (λ (job : Job). job.jid) (answers_always _ _ _ (λ f a r g called. search rules)));
}

pub returns-in-Err : goal.returns-in-Err
returns-in-Err c = record {
  value = found_nowhere c.args.jobs.now c.requires.rising c.args.jid c.in-Err.field-0
      (c.in-Err.ensures.position (λ (job : Job). job.jid) (answers_always _ _ _ (λ f a r g called. search rules)));
}
