use Rattle.std.proofs.Common.{◌≡◌, drop}
use Rattle.tree_world.specs.Settle.{up_minions}
use Rattle.tree_world.proofs.world.World.up_minions.Given as goal

-- the minions that are left give what all of them give
abbrev pub invariant-loop-minion : goal.invariant-loop-minion
invariant-loop-minion l = record {
  state : up_minions l.fn.self.fleet l.c (drop l.minion-index l.minion-items) l.self.network ≡ up_minions l.fn.self.fleet l.c l.minion-items l.fn.self.network;
  fleet : l.self.fleet ≡ l.fn.self.fleet;
}
