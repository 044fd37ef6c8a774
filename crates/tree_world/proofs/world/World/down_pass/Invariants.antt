use Rattle.std.proofs.Common.{◌≡◌}
use Rattle.tree_world.specs.Settle.{down_pass}
use Rattle.tree_world.specs.Steps.{BringsNoJob}
use Rattle.tree_world.proofs.world.World.down_pass.Given as goal

-- the jobs of the nodes so far went down, and no job came that no node held
abbrev pub invariant-loop-p : goal.invariant-loop-p
invariant-loop-p l = record {
  state : l.self.network ≡ down_pass l.initial.self.fleet l.p l.initial.self.network;
  fleet : l.self.fleet ≡ l.initial.self.fleet;
  jobs : BringsNoJob l.initial.self.network l.self.network;
}
