use Rattle.std.proofs.Common.{◌≡◌, ◌-◌}
use Rattle.tree_world.specs.Settle.{up_steps, up_minion}
use Rattle.tree_world.proofs.world.World.up_minion.Given as goal

-- the steps that are left give what all of them give
abbrev pub invariant-loop : goal.invariant-loop
invariant-loop l = record {
  state : up_steps l.fn.self.fleet l.c l.minion (l.left - l.counter) l.self.network ≡ up_minion l.fn.self.fleet l.c l.minion l.fn.self.network;
  fleet : l.self.fleet ≡ l.fn.self.fleet;
}
