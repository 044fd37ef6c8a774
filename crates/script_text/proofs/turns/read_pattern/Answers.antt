use Rattle.script_text.proofs.TurnParts.{utf8_pattern}
use Rattle.script_text.proofs.turns.read_pattern.Goals as goal

pub returns-in-Err : goal.returns-in-Err
returns-in-Err c =
    λ x v h. (c.in-Err.ensures {u = tt}).cases.0 (utf8_pattern c.args.text.now (c.is_pattern.ensures.0 c.if-not-is_pattern.false).2)
