use Rattle.std.proofs.Common.{rules}
use Rattle.tree_world.proofs.Brings.{reply_stops}
use Rattle.tree_world.proofs.world.World.exchange.Goals as goal

pub returns-clause-halt : goal.returns-clause-halt
returns-clause-halt c =
    reply_stops c.self.inside.nodes.fleet c.self.inside.nodes.fleet c.self.inside.nodes.states c.self.inside.packets.items _ _ c.args.from c.args.to c.len-i.result c.args.message.now c.deliver-2.result
    c.in_ok-push_packet.ensures (search rules) c.in_ok-deliver.ensures.state c.deliver-2.ensures.halt
