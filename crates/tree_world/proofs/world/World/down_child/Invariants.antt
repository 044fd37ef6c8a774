use Rattle.std.proofs.Common.{◌≡◌, ◌-◌}
use Rattle.tree_world.specs.Settle.{down_steps, down_child}
use Rattle.tree_world.specs.Steps.{BringsNoJob}
use Rattle.tree_world.proofs.world.World.down_child.Given as goal

-- the steps that are left give what all of them give, and no job came that no node held
abbrev pub invariant-loop : goal.invariant-loop
invariant-loop l = record {
  state : down_steps l.fn.self.fleet l.p l.c (l.left - l.counter) l.self.network ≡ down_child l.fn.self.fleet l.p l.c l.fn.self.network;
  fleet : l.self.fleet ≡ l.fn.self.fleet;
  jobs : BringsNoJob l.fn.self.network l.self.network;
}
