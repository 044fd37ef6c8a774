use Rattle.std.proofs.Common.{subst, sym}
use Rattle.salt_value.specs.Word.{IsWord}
use Rattle.exec_functions.proofs.Sendable.{ok_sends}
use Rattle.exec_functions.proofs.execution.run.Goals as goal

pub returns-clause-fits : goal.returns-clause-fits
returns-clause-fits c =
    ok_sends c.run_named.result c.as_str.result.now c.args.args.now c.args.held.now (subst IsWord (sym c.as_str.ensures.value) c.as_str.ensures.valid) c.run_named.ensures
