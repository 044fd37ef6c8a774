use Rattle.std.proofs.Common.{sym, ◌∙◌}
use Rattle.node_core.proofs.Takes.{taken_some}
use Rattle.node_core.proofs.node.Node.take_with.Goals as goal

pub returns-in_ok-add_record-in-Some-clause-ok : goal.returns-in_ok-add_record-in-Some-clause-ok
returns-in_ok-add_record-in-Some-clause-ok c =
    let n = c.args.self.now in
    let for_it = c.requires.record in
    rw (c.reply.ensures.value, c.in_ok-add_record-in-Some.ensures.ok)
    (taken_some n.fleet.tree n.me c.args.from n.state c.args.message.now c.in-Some.deed for_it.taken (sym c.in-Some.is ∙ for_it.added.is))
