use Rattle.std.proofs.Common.{All, subst, sym, List}
use Rattle.salt_wire.specs.Limits.{Within}
use Rattle.salt_wire.specs.declared.message.Message.{Message}
use Rattle.node_core.proofs.Sends.{pubs_after}
use Rattle.node_core.proofs.node.Node.pending_down.Goals as goal

pub returns-clause-fits : goal.returns-clause-fits
returns-clause-fits c =
    subst (λ (ms : List Message). All Within ms) (sym c.in_ok-push_pubs.ensures)
    (pubs_after c.known-known.result c.args.max c.jobs-jobs.result.now c.new-messages.result.items c.new-messages.ensures.items c.jobs-jobs.ensures.few c.jobs-jobs.ensures.fits)
