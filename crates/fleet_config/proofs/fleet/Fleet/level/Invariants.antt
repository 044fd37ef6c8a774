use Rattle.std.proofs.Common.{◌≡◌, ◌≤◌, ◌+◌, ◌-◌}
use Rattle.fleet_config.specs.Tree.{level, level_by}
use Rattle.fleet_config.proofs.fleet.Fleet.level.Given as goal

-- what is left of the walk and the steps so far are the level
abbrev pub invariant-loop-step : goal.invariant-loop-step
invariant-loop-step l = record {
  walked : level_by l.self.tree (l.fn.node - l.step) l.at + l.level ≡ level l.self.tree l.fn.node + 1;
  few : l.level ≤ l.step + 1;
}
