use Rattle.std.proofs.Common.{◌∙◌, bytes_eq}
use Rattle.indexmap.proofs.CallerLemmas.{insert_entry-new}
use Rattle.job_store.proofs.store.push_return.Goals as goal

pub returns-in-Ok-clause-ok : goal.returns-in-Ok-clause-ok
returns-in-Ok-clause-ok c = c.in-Ok.ensures.entries ∙ insert_entry-new bytes_eq c.args.table.now c.args.row.id c.args.row.outcome c.requires.absent
