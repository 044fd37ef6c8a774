use Rattle.script_text.specs.Fleet.{fleet_by}
use Rattle.script_text.proofs.TurnLines.{of_line, of_any}
use Rattle.script_text.proofs.turns.read_turn.Goals as goal

pub returns-in-Some : goal.returns-in-Some
returns-in-Some c =
    of_any (fleet_by c.args.ids.now.keys) c.args.line.now _ c.read_publish.result (c.in-Some.ensures {u = tt}) c.read_publish.ensures

pub returns-in-Some-strip_front-2 : goal.returns-in-Some-strip_front-2
returns-in-Some-strip_front-2 c =
    let f = fleet_by c.args.ids.now.keys in
    of_line f c.args.line.now _ c.read_deliver.result (c.in-Some-strip_front-2.ensures {u = tt}) (c.read_deliver.ensures f)

pub returns-in-Some-strip_front-3 : goal.returns-in-Some-strip_front-3
returns-in-Some-strip_front-3 c =
    let f = fleet_by c.args.ids.now.keys in
    of_line f c.args.line.now _ c.read_report.result (c.in-Some-strip_front-3.ensures {u = tt}) (c.read_report.ensures f)
