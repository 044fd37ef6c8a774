use Rattle.std.proofs.Common.{sym}
use Rattle.node_core.proofs.Tests.{first_stray, then_fault}
use Rattle.node_core.proofs.Takes.{record_told}
use Rattle.node_core.proofs.node.Node.record_for.Goals as goal

pub returns-in-Some-clause-fault : goal.returns-in-Some-clause-fault
returns-in-Some-clause-fault c =
    let n = c.args.self.now in
    first_stray n.fleet.tree n.me c.args.from c.args.message.now n.state c.in-Some.cause c.in-Some.ensures

pub returns-clause-fault : goal.returns-clause-fault
returns-clause-fault c =
    let n = c.args.self.now in
    then_fault n.fleet.tree n.me c.args.from c.args.message.now n.state (sym c.in_default.ensures) c.next_deed.result c.next_deed.ensures.run

pub returns-clause-ok : goal.returns-clause-ok
returns-clause-ok c = record_told c.args.from c.args.message.now c.args.self.now c.next_deed.result c.next_deed.ensures.ok c.next_deed.ensures.run (sym c.in_default.ensures)
