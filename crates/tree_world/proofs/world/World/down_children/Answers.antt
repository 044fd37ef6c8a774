use Rattle.std.proofs.Common.{◌∙◌}
use Rattle.tree_world.proofs.Loops.{down_next}
use Rattle.tree_world.proofs.Brings.{brings_on}
use Rattle.tree_world.proofs.world.World.down_children.Goals as goal

pub loop-c-preserved : goal.loop-c-preserved
loop-c-preserved c = record {
  state = down_next _ _ c.args.p c.loop-c.c c.new.result _ _ _ c.loop-c.invariant.fleet c.new.ensures c.loop-c.invariant.state c.in_ok-down_if_child.ensures.state;
  fleet = c.down_if_child.ensures.fleet ∙ c.loop-c.invariant.fleet;
  jobs = brings_on _ _ _ c.loop-c.invariant.jobs c.in_ok-down_if_child.ensures.jobs;
}
