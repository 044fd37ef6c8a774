use Rattle.master_core.proofs.Logs.{finds_entry}
use Rattle.master_core.proofs.laws.logs_by_steps.Goals as goal

pub returns : goal.returns
returns c = record { up = finds_entry }
