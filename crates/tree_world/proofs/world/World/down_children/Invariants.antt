use Rattle.std.proofs.Common.{◌≡◌}
use Rattle.std.specs.Prelude.{filter}
use Rattle.fleet_config.specs.Tree.{is_parent, up_to}
use Rattle.tree_world.specs.Settle.{down_children}
use Rattle.tree_world.specs.Steps.{BringsNoJob}
use Rattle.tree_world.proofs.world.World.down_children.Given as goal

-- the children so far have the jobs, and no job came that no node held
abbrev pub invariant-loop-c : goal.invariant-loop-c
invariant-loop-c l = record {
  state : l.self.network ≡ down_children l.initial.self.fleet l.p (filter (λ d. is_parent l.initial.self.fleet.tree l.p d) (up_to l.c)) l.initial.self.network;
  fleet : l.self.fleet ≡ l.initial.self.fleet;
  jobs : BringsNoJob l.initial.self.network l.self.network;
}
