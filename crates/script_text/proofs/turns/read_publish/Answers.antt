use Rattle.script_text.proofs.TurnLines.{publish_found, publish_none}
use Rattle.script_text.proofs.turns.read_publish.Goals as goal

pub returns-in_ok-ping-in-Some : goal.returns-in_ok-ping-in-Some
returns-in_ok-ping-in-Some c = λ f.
    rw c.in_ok-ping-in-Some.ensures
    (publish_found f c.args.rest.now (c.in-Some.moment, c.in-Some.tgt)
    (rw c.in-Some.is at (c.in_ok-moment.ensures {u = tt})))

pub returns-in-None : goal.returns-in-None
returns-in-None c = λ f.
    publish_none f c.args.rest.now (rw c.in-None.is at (c.in_ok-moment.ensures {u = tt}))
