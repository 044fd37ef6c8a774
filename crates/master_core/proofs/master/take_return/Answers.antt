use Rattle.std.proofs.Common.{◌∙◌, ap}
use Rattle.up_logs.specs.UpLogs.{with_entry_less}
use Rattle.up_logs.proofs.Undo.{undone}
use Rattle.master_core.proofs.master.take_return.Goals as goal

pub returns-in-Err-clause-err_logs : goal.returns-in-Err-clause-err_logs
returns-in-Err-clause-err_logs c = c.pop.ensures.value ∙ ap (with_entry_less c.args.place) c.in_ok-push.ensures.ok ∙ undone _ _ _ c.requires.place
