use Rattle.std.proofs.Common.{◌≡◌, ◌+◌, length, arith}
use Rattle.minion_core.proofs.FlatSteps.{step_from}
use Rattle.minion_core.proofs.laws.flat_by_steps.Goals as goal

pub returns : goal.returns
returns c = λ id held before job later. let e : 0 + length before ≡ length before = omega arith in rw e at (step_from 0 id held before job later)
