use Rattle.std.proofs.Common.{sym, ◌∙◌}
use Rattle.script_text.proofs.TurnLines.{send_found, send_apart, send_none}
use Rattle.script_text.proofs.turns.read_send.Goals as goal

pub returns-then-are_neighbours : goal.returns-then-are_neighbours
returns-then-are_neighbours c =
    send_found c.args.ids.now.keys c.args.rest.now c.in-Some.sending
    (rw c.in-Some.is at (c.read_sending.ensures)) (sym c.are_neighbours.ensures ∙ c.if-are_neighbours.true)

pub returns-else-are_neighbours : goal.returns-else-are_neighbours
returns-else-are_neighbours c =
    send_apart c.args.ids.now.keys c.args.rest.now c.in-Some.sending
    (rw c.in-Some.is at (c.read_sending.ensures)) (sym c.are_neighbours.ensures ∙ c.if-are_neighbours.false)

pub returns-in_default : goal.returns-in_default
returns-in_default c =
    send_none c.args.ids.now.keys c.args.rest.now (rw c.in_default.is at (c.read_sending.ensures))
