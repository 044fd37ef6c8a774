use Rattle.std.proofs.Common.{◌≡◌, ◌<◌, ◌-◌, length}
use Rattle.fleet_config.specs.Tree.{branch, branch_by}
use Rattle.fleet_config.proofs.fleet.Fleet.branch.Given as goal

-- what is left of the walk leads where the whole walk does
abbrev pub invariant-loop-step : goal.invariant-loop-step
invariant-loop-step l = record {
  walked : branch_by l.self.tree (l.fn.other - l.step) l.node l.at ≡ branch l.self.tree l.node l.fn.other;
  within : l.at < length l.self.tree;
}
