use Rattle.std.proofs.Common.{◌≡◌, ◌-◌, length}
use Rattle.tree_world.specs.Settle.{up_pass}
use Rattle.tree_world.proofs.world.World.up_pass.Given as goal

-- what is left of the pass gives what the whole one gives
abbrev pub invariant-loop-i : goal.invariant-loop-i
invariant-loop-i l = record {
  state : up_pass l.fn.self.fleet (length l.fn.self.fleet.tree - l.i) l.self.network ≡ up_pass l.fn.self.fleet (length l.fn.self.fleet.tree) l.fn.self.network;
  fleet : l.self.fleet ≡ l.fn.self.fleet;
}
