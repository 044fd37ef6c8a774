use Rattle.std.proofs.Common.{◌∙◌, sym, arith}
use Rattle.fleet_config.specs.Tree.{level}
use Rattle.fleet_config.proofs.Levels.{level_next, level_here, level_end}
use Rattle.fleet_config.proofs.fleet.Fleet.level.Goals as goal

pub returns-then-place-eq0 : goal.returns-then-place-eq0
returns-then-place-eq0 c = record {
  value = level_here c.args.self.now.tree _ c.loop-step.at c.loop-step.level (level c.args.self.now.tree c.args.node) (sym c.place.ensures ∙ c.if-place-eq0.true) c.loop-step.invariant.walked;
}

pub loop-step-preserved : goal.loop-step-preserved
loop-step-preserved c = record {
  walked = rw (c.parent_or_top-at.ensures.value)
      (level_next c.args.self.now.tree c.args.node c.loop-step.step c.loop-step.at c.loop-step.level (level c.args.self.now.tree c.args.node)
      (let l = c.loop-step-test.true in let e = c.place-step-end.ensures in omega arith)
      (λ z. c.if-place-eq0.false (c.place.ensures ∙ z)) c.loop-step.invariant.walked);
  few = let f = c.loop-step.invariant.few in omega arith;
}

pub returns : goal.returns
returns c = record {
  value = level_end c.args.self.now.tree c.args.node c.loop-step.step c.loop-step.at c.loop-step.level (level c.args.self.now.tree c.args.node)
      (let l = c.loop-step-test.false in let e = c.place-step-end.ensures in omega arith) c.loop-step.invariant.walked;
}
