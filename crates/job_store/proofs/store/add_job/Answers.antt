use Rattle.std.proofs.Common.{◌≡◌, true, arith}
use Rattle.std.proofs.lemmas.Grind.{common_steps}
use Rattle.minion_core.specs.Flat.{is_later}
use Rattle.job_store.proofs.Stores.{job_more, stored_push}
use Rattle.job_store.proofs.store.add_job.Goals as goal

pub returns-in-Ok-clause-ok : goal.returns-in-Ok-clause-ok
returns-in-Ok-clause-ok c =
    let more = c.in-Ok.ensures.tables in
    rw (c.in-Ok.ensures.jobs, more.1) (job_more _ _ c.requires.stored.paired c.args.job more.0 more.2)

pub returns-in-Ok-clause-stored : goal.returns-in-Ok-clause-stored
returns-in-Ok-clause-stored c =
    let more = c.in-Ok.ensures.tables in
    let later : is_later c.args.jobs.now.items c.args.job ≡ true = grind (arith, common_steps, c.is_later.ensures.value, c.as_slice.ensures.value, c.if-not-is_later.false) in
    rw (c.in-Ok.ensures.jobs, more.1) (stored_push _ _ c.requires.stored c.args.job more.0 more.2 later c.requires.room)
