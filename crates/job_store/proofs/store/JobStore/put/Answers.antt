use Rattle.std.proofs.Common.{◌≡◌, ◌<◌, ◌∙◌, sym, refl, arith, length, slice_get, Some}
use Rattle.std.proofs.lemmas.Option.{slice_get_read}
use Rattle.job_store.proofs.Stores.{count_of, outcome_some, none_copied, return_more, return_kept, stored_set}
use Rattle.job_store.proofs.store.JobStore.put.Goals.{in-Ok, in-Err}
use Rattle.job_store.proofs.store.JobStore.put.Goals as goal

pub index_mut-requires : goal.index_mut-requires
index_mut-requires c =
    omega (arith, c.if-count-seq.false, c.count.ensures.value, count_of _ _ c.self.invariant _ c.self.view_is, c.self.invariant.paired, c.self.inside.returns.ok.0)

pub push_return-requires : goal.push_return-requires
push_return-requires c =
    let within : c.args.seq < length c.self.inside.returns.items =
    omega (arith, c.if-count-seq.false, c.count.ensures.value, count_of _ _ c.self.invariant _ c.self.view_is, c.self.invariant.paired) in
    let at : slice_get c.self.inside.returns.items c.args.seq ≡ Some c.index_mut.result.now = slice_get_read _ _ _ _ refl within c.index_mut.ensures.value in
    record {
      absent = outcome_some _ _ c.self.invariant _ c.self.view_is c.args.seq c.args.row.id c.index_mut.result.now at
          ∙ sym c.outcome.ensures.value ∙ none_copied _ _ c.is_some.ensures c.if-is_some.false;
    }

pub returns-clause-ok : goal.returns-clause-ok
returns-clause-ok c =
    let within : c.args.seq < length c.self.inside.returns.items =
    omega (arith, c.if-count-seq.false, c.count.ensures.value, count_of _ _ c.self.invariant _ c.self.view_is, c.self.invariant.paired) in
    let at : slice_get c.self.inside.returns.items c.args.seq ≡ Some c.index_mut.result.now = slice_get_read _ _ _ _ refl within c.index_mut.ensures.value in
    elim c.match-push_return.branch [
      | in-Ok w ↦ rw (w.result-is, ← c.self.view_is) (return_more _ _ c.self.invariant.paired c.args.seq c.index_mut.result.now c.push_return.new.table c.args.row at w.in-Ok.ensures.ok)
      | in-Err w ↦ rw w.result-is tt
    ]

pub returns-clause-err : goal.returns-clause-err
returns-clause-err c =
    let within : c.args.seq < length c.self.inside.returns.items =
    omega (arith, c.if-count-seq.false, c.count.ensures.value, count_of _ _ c.self.invariant _ c.self.view_is, c.self.invariant.paired) in
    let at : slice_get c.self.inside.returns.items c.args.seq ≡ Some c.index_mut.result.now = slice_get_read _ _ _ _ refl within c.index_mut.ensures.value in
    elim c.match-push_return.branch [
      | in-Ok w ↦ rw w.result-is tt
      | in-Err w ↦ rw (w.result-is, ← c.self.view_is) (return_kept _ _ c.args.seq c.index_mut.result.now c.push_return.new.table at w.in-Err.ensures.err)
    ]

pub invariant_of-self : goal.invariant_of-self
invariant_of-self c = stored_set _ _ c.self.invariant c.args.seq c.push_return.new.table c.push_return.ensures.unique
