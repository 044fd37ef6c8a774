use Rattle.std.proofs.Common.{sym, ap, ◌∙◌, ◌++◌}
use Rattle.std.specs.Prelude.{codes}
use Rattle.script_text.proofs.TurnLines.{target_over}
use Rattle.script_text.proofs.turns.read_target.Goals as goal

pub returns-in_default : goal.returns-in_default
returns-in_default c =
    λ x v h. (c.in_default.ensures {u = tt}) (x ++ codes "\"]") (sym h)

pub returns-in-Some-strip_back : goal.returns-in-Some-strip_back
returns-in-Some-strip_back c =
    target_over c.args.text.now c.in-Some-strip_back.pattern.now c.read_pattern.result
    ((c.in-Some.ensures {u = tt}) ∙ ap (λ t. codes "glob test.ping [\"" ++ t) (c.in-Some-strip_back.ensures {u = tt})) c.read_pattern.ensures
