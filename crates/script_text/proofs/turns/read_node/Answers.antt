use Rattle.std.proofs.Common.{sym, ap, ◌∙◌, ◌∷◌, ◌++◌}
use Rattle.script_text.proofs.Sendings.{no_word, no_id}
use Rattle.script_text.proofs.turns.read_node.Goals as goal

pub returns-in_default-clause-none : goal.returns-in_default-clause-none
returns-in_default-clause-none c = no_word c.args.ids.now.keys c.requires c.args.text.now (c.in_default.ensures {u = tt}).none

pub returns-in-Some-node_of-clause-some : goal.returns-in-Some-node_of-clause-some
returns-in-Some-node_of-clause-some c =
    let node = c.in-Some-node_of.ensures {u = tt} in
    (node.0, (c.in-Some.ensures {u = tt}).some.0 ∙ ap (λ w. w ++ 32 ∷ c.in-Some.rest.now) (sym node.1))

pub returns-in-None-clause-none : goal.returns-in-None-clause-none
returns-in-None-clause-none c =
    let cut = (c.in-Some.ensures {u = tt}).some in
    no_id c.args.ids.now.keys c.requires c.in-Some.word.now c.in-Some.rest.now c.args.text.now cut.0 cut.1 (c.in-None.ensures {u = tt})
