use Rattle.std.proofs.Common.{◌++◌, sym, ap, subst, ◌∙◌}
use Rattle.salt_wire.specs.Spelling.{body}
use Rattle.tree_world.specs.Packets.{IsPacketBody, message_in}
use Rattle.tree_world.proofs.Bodies.{message_is, is_body}
use Rattle.tree_world.proofs.packet.body_of.Goals as goal

pub returns-clause-body : goal.returns-clause-body
returns-clause-body c =
    let x = c.args.message.now in
    let same = c.in_ok-encode.ensures.ok ∙ ap (λ items. items ++ body x) c.in_ok-body.ensures.items in
    subst IsPacketBody (sym same) (is_body c.messages_read_back.ensures.messages x c.requires)

pub returns-clause-message : goal.returns-clause-message
returns-clause-message c =
    let x = c.args.message.now in
    let same = c.in_ok-encode.ensures.ok ∙ ap (λ items. items ++ body x) c.in_ok-body.ensures.items in
    ap message_in same ∙ message_is c.messages_read_back.ensures.messages x c.requires
