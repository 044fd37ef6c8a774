-- The body of a message within its limits is read as that message.
use Rattle.std.proofs.Common.{◌≡◌, sym, ap, subst, ◌∙◌}
use Rattle.std.specs.Prelude.{Ok}
use Rattle.salt_wire.specs.Spelling.{body, kind_and_fields as spelled}
use Rattle.salt_wire.specs.Limits.{Within}
use Rattle.salt_wire.specs.Decoding.{kind_and_fields}
use Rattle.salt_wire.specs.RoundTrip.{IsReadBack}
use Rattle.salt_wire.specs.declared.message.Message.{Message}
use Rattle.salt_wire.proofs.Bodies.{message_again}
use Rattle.tree_world.specs.Packets.{IsPacketBody, message_of, message_in}

module _ (law : IsReadBack spelled Within kind_and_fields) (x : Message) (h : Within x) where
  pub message_is : message_in (body x) ≡ x
  message_is = ap message_of (message_again law x h)

  pub is_body : IsPacketBody (body x)
  is_body = record {
    decoded = message_again law x h ∙ ap (λ (m : Message). Ok m) (sym message_is);
    within = subst Within (sym message_is) h;
    spelled = ap body (sym message_is);
  }
