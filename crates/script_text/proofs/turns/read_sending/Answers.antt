use Rattle.script_text.proofs.Sendings.{sending_found, no_count, no_receiver, no_sender}
use Rattle.script_text.proofs.turns.read_sending.Goals as goal

pub returns-in_default : goal.returns-in_default
returns-in_default c = no_sender c.args.ids.now.keys c.requires c.args.text.now (c.in_default.ensures {u = tt}).none

pub returns-in_default-read_node : goal.returns-in_default-read_node
returns-in_default-read_node c =
    let from = (c.in-Some.ensures {u = tt}).some in
    no_receiver c.args.ids.now.keys c.requires c.in-Some.from.0 c.args.text.now c.in-Some.from.1.now from.0 from.1 (c.in_default-read_node.ensures {u = tt}).none

pub returns-in-Some-read_number : goal.returns-in-Some-read_number
returns-in-Some-read_number c =
    let from = (c.in-Some.ensures {u = tt}).some in
    let to = (c.in-Some-read_node.ensures {u = tt}).some in
    sending_found c.args.ids.now.keys c.requires c.in-Some.from.0 c.in-Some-read_node.to.0 c.in-Some-read_number.count c.args.text.now c.in-Some.from.1.now c.in-Some-read_node.to.1.now
    from.0 from.1 to.0 to.1 (rw c.in-Some-read_number.is at (c.read_number.ensures))

pub returns-in-None : goal.returns-in-None
returns-in-None c =
    let from = (c.in-Some.ensures {u = tt}).some in
    let to = (c.in-Some-read_node.ensures {u = tt}).some in
    no_count c.args.ids.now.keys c.requires c.in-Some.from.0 c.in-Some-read_node.to.0 c.args.text.now c.in-Some.from.1.now c.in-Some-read_node.to.1.now
    from.0 from.1 to.0 to.1 (rw c.in-None.is at (c.read_number.ensures))
