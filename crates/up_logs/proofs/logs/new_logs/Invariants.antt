use Rattle.std.proofs.Common.{◌≡◌}
use Rattle.up_logs.specs.UpLogs.{empty_logs}
use Rattle.up_logs.proofs.logs.new_logs.Given as goal

-- as many empty logs as there were rounds
abbrev pub invariant-loop : goal.invariant-loop
invariant-loop l = l.logs.items ≡ empty_logs l.counter
