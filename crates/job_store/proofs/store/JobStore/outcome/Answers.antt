use Rattle.std.proofs.Common.{Some, None, ◌∙◌, sym}
use Rattle.job_store.proofs.Stores.{got, outcome_some, outcome_none}
use Rattle.job_store.proofs.store.JobStore.outcome.Goals as goal

pub returns-in-Some : goal.returns-in-Some
returns-in-Some c = record {
  value = c.get-in-Some.ensures.value
      ∙ outcome_some _ _ c.self.invariant _ c.self.view_is c.args.seq c.args.id.now c.in-Some.table.now
      (rw (← c.deref.ensures.value) (sym (got _ _ (Some c.in-Some.table) c.in-Some.ensures.lookup)));
}

pub returns-in-None : goal.returns-in-None
returns-in-None c = record {
  value = outcome_none _ _ c.self.invariant _ c.self.view_is c.args.seq c.args.id.now
      (rw (← c.deref.ensures.value) (sym (got _ _ None c.in-None.ensures.lookup)));
}
