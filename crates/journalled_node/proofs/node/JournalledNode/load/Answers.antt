use Rattle.checkpoint_log.specs.Content.{bytes_in}
use Rattle.journalled_node.proofs.Loads.{answers_each}
use Rattle.journalled_node.proofs.node.JournalledNode.load.Goals as goal

pub returns-clause-complete : goal.returns-clause-complete
returns-clause-complete g c = λ told.
    answers_each c.records_read_back.ensures.unique c.logs_are_one.ensures c.args.fleet.now c.args.me (bytes_in (g.D.Disk.state c.args.disk.now)) c.load.result
    (c.load.ensures.ok told) (c.load.ensures.fault told)
