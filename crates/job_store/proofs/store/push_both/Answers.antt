use Rattle.std.proofs.Common.{◌∙◌, [], ◌∷◌}
use Rattle.job_store.proofs.Stores.{cut_back}
use Rattle.job_store.proofs.store.push_both.Goals.{in-Ok, in-Err}
use Rattle.job_store.proofs.store.push_both.Goals as goal

pub returns-clause-err_tables : goal.returns-clause-err_tables
returns-clause-err_tables c = elim c.match-push.branch [
  | in-Ok w ↦ rw w.result-is tt
  | in-Err w ↦ rw (w.result-is, w.tables-is) (w.truncate.ensures.items
      ∙ cut_back _ _ _ (c.new.result ∷ []) (c.len-count.ensures ∙ c.args.tables.now.ok.0) c.in_ok-push.ensures.items)
]
