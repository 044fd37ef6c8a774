use Rattle.std.proofs.Common.{◌≡◌, drop}
use Rattle.fleet_config.specs.Causes.{first_cause}
use Rattle.fleet_config.proofs.fleet.first_cause.Given as goal

-- each test so far holds
abbrev pub invariant-loop-holds : goal.invariant-loop-holds
invariant-loop-holds l = first_cause l.tests ≡ first_cause (drop l.holds-index l.tests)
