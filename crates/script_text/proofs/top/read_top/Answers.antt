use Rattle.std.proofs.Common.{ap, ◌∙◌, ◌∷◌}
use Rattle.std.specs.Prelude.{codes}
use Rattle.script_text.specs.Lines.{lines_of}
use Rattle.script_text.proofs.Tops.{no_fleet, no_nodes, no_id, no_role}
use Rattle.script_text.proofs.top.read_top.Goals as goal

pub returns-in_default-clause-err : goal.returns-in_default-clause-err
returns-in_default-clause-err c =
    no_fleet c.args.text.now (c.in_default.ensures {u = tt}).none

pub returns-in_default-after-clause-err : goal.returns-in_default-after-clause-err
returns-in_default-after-clause-err c =
    no_nodes c.args.text.now (lines_of c.in-Some.nodes.now) (c.in-Some.ensures {u = tt}).some (c.in_default-after.ensures {u = tt}).none

pub returns-in_default-after_id-clause-err : goal.returns-in_default-after_id-clause-err
returns-in_default-after_id-clause-err c =
    let two = (c.in-Some.ensures {u = tt}).some ∙ ap (λ l. codes "%fleet" ∷ l) (c.in-Some-after.ensures {u = tt}).some in
    no_id c.args.text.now (lines_of c.in-Some-after.id.now) two (c.in_default-after_id.ensures {u = tt}).none

pub returns-in-None-clause-err : goal.returns-in-None-clause-err
returns-in-None-clause-err c =
    let two = (c.in-Some.ensures {u = tt}).some ∙ ap (λ l. codes "%fleet" ∷ l) (c.in-Some-after.ensures {u = tt}).some in
    let three = (c.in-Some-after_id.ensures {u = tt}).some in
    no_role c.args.text.now c.in-Some-after_id.found.0 (lines_of c.in-Some-after_id.found.1.now) three.0
    (two ∙ ap (λ l. codes "%fleet" ∷ codes "nodes:" ∷ l) three.1) (c.in-None.ensures {u = tt}).none
