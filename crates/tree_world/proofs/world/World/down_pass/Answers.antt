use Rattle.std.proofs.Common.{◌∙◌}
use Rattle.tree_world.proofs.Loops.{pass_next}
use Rattle.tree_world.proofs.Brings.{brings_on}
use Rattle.tree_world.proofs.world.World.down_pass.Goals as goal

pub loop-p-preserved : goal.loop-p-preserved
loop-p-preserved c = record {
  state = pass_next _ _ c.loop-p.p c.new.result _ _ _ c.loop-p.invariant.fleet c.new.ensures c.loop-p.invariant.state c.in_ok-down_if_master.ensures.state;
  fleet = c.down_if_master.ensures.fleet ∙ c.loop-p.invariant.fleet;
  jobs = brings_on _ _ _ c.loop-p.invariant.jobs c.in_ok-down_if_master.ensures.jobs;
}
