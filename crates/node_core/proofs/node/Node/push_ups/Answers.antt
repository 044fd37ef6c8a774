use Rattle.std.proofs.Common.{All, subst, sym, List}
use Rattle.salt_wire.specs.Limits.{Within}
use Rattle.salt_wire.specs.declared.message.Message.{Message}
use Rattle.node_core.proofs.Sends.{ups_after}
use Rattle.node_core.proofs.node.Node.push_ups.Goals as goal

pub returns-clause-fits : goal.returns-clause-fits
returns-clause-fits c =
    subst (λ (ms : List Message). All Within ms) (sym c.in_ok-push_entries.ensures)
    (ups_after c.id-id.result c.known-known.result c.args.max c.log-log.result.now c.args.out.now.items c.as_bytes-bytes.ensures.valid c.log-log.ensures.few
    c.log-log.ensures.fits c.requires.fits)
