-- Packets: messages on their way. The body of a packet is the spelling of its message.
use Rattle.std.specs.Prelude.{ℕ, ◌≡◌, List, Result, Ok, Err}
use Rattle.salt_wire.specs.declared.message.Message.{Message}
use Rattle.salt_wire.specs.declared.message.Message.TheVariants.{End}
use Rattle.salt_wire.specs.declared.fault.WireFault.{WireFault}
use Rattle.salt_wire.specs.Spelling.{body}
use Rattle.salt_wire.specs.Limits.{Within}
use Rattle.salt_wire.specs.Decoding.{decoding}

-- a message on its way from the node at one place to the node at another
pub record Packet : Type 0 where
  pub from : ℕ
  pub to : ℕ
  pub message : Message

-- the message that was read, and `End` where there is none
abbrev pub message_of : Result Message WireFault → Message
message_of (Ok message) = message
message_of (Err fault) = End

-- the message of a body, and `End` where it has none
abbrev pub message_in : List ℕ → Message
message_in bytes = message_of (decoding bytes)

-- the bytes are the body of a message that is within the limits, and are read as that message
pub record IsPacketBody (bytes : List ℕ) : Type 0 where
  pub decoded : decoding bytes ≡ Ok (message_in bytes)
  pub within : Within (message_in bytes)
  pub spelled : bytes ≡ body (message_in bytes)
