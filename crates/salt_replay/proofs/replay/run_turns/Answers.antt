use Rattle.std.proofs.Common.{◌∙◌, ◌++◌, sym, ap, arith, append_assoc}
use Rattle.tree_world.specs.Runs.{after}
use Rattle.tree_world.specs.Text.{printed_text}
use Rattle.salt_replay.proofs.Turns.{text_step, text_end, part_within, part_last, told_more}
use Rattle.salt_replay.proofs.BigPatterns.{network_step, handed_small}
use Rattle.salt_replay.proofs.replay.run_turns.Goals as goal

pub returns-in_err-step-clause-part : goal.returns-in_err-step-clause-part
returns-in_err-step-clause-part g c =
    let told = c.loop-turn.invariant.told in
    let step = text_step c.loop-turn.world.fleet c.args.turns.now c.loop-turn.turn-index c.turn-item.result c.loop-turn.world.network (omega arith) c.turn-item.is in
    part_within _ _ _ told.0 _ _ _ told.1 (ap (λ t. told.0 ++ t) (sym step) ∙ told.2) c.step.ensures.part

pub loop-turn-preserved : goal.loop-turn-preserved
loop-turn-preserved g c =
    let told = c.loop-turn.invariant.told in
    let turn = c.turn-item.result in
    let done = c.in_ok-step.ensures {u = tt} in
    let step = text_step c.loop-turn.world.fleet c.args.turns.now c.loop-turn.turn-index turn c.loop-turn.world.network (omega arith) c.turn-item.is in
    record {
      told = (
        told.0 ++ printed_text c.loop-turn.world.fleet turn c.loop-turn.world.network,
        told_more _ _ _ told.0 _ told.1 done.text,
        append_assoc told.0 _ _ ∙ (rw (done.ok, c.step.ensures.fleet) (ap (λ t. told.0 ++ t) (sym step) ∙ told.2)),
      );
      fleet = c.step.ensures.fleet ∙ c.loop-turn.invariant.fleet;
      network = done.ok ∙ ap (λ f. after f turn c.loop-turn.world.network) c.loop-turn.invariant.fleet
          ∙ network_step c.args.world.now.fleet c.args.turns.now c.loop-turn.turn-index turn c.loop-turn.world.network (omega arith) c.turn-item.is c.loop-turn.invariant.network;
      faults = done.faults.kept (λ e. cc) ∙ c.loop-turn.invariant.faults;
    }

pub returns-clause-part : goal.returns-clause-part
returns-clause-part g c =
    let told = c.loop-turn.invariant.told in
    let end = text_end c.loop-turn.world.fleet c.args.turns.now c.loop-turn.turn-index c.loop-turn.world.network c.loop-turn-test.false in
    part_last _ _ _ told.0 _ _ told.1 (ap (λ t. told.0 ++ t) (sym end) ∙ told.2) c.tell.ensures.part

pub returns-in_err-step-clause-small : goal.returns-in_err-step-clause-small
returns-in_err-step-clause-small g c =
    let f = c.args.world.now.fleet in
    handed_small f c.args.turns.now c.loop-turn.turn-index c.turn-item.result c.loop-turn.world.network c.in_err-step.field-0.0 c.from_residual.result
    (omega arith) c.turn-item.is c.loop-turn.invariant.network (c.no_pattern_is_big.ensures f c.args.turns.now c.requires.fleet c.requires.turns)
    (rw c.loop-turn.invariant.fleet at c.in_err-step.ensures.fault) c.from_residual.ensures.1
