-- The network machine: the nodes of a fleet, and the list of all packets ever sent.
use Rattle.std.specs.Prelude.{ℕ, min, false, List, [], ◌∷◌, ◌++◌, length, map, take, slice_set, Option, None, Some, Result, Ok, Err, nat_lt, if◌then◌else◌}
use Rattle.std.specs.List.{slice_index_or}
use Rattle.fleet_config.specs.Fleet.{FleetConfig}
use Rattle.salt_wire.specs.declared.message.Job.{Job}
use Rattle.salt_wire.specs.declared.deed.Deed.TheVariants as r
use Rattle.salt_wire.specs.declared.message.Message.{Message}
use Rattle.node_core.specs.declared.faults.PublishRefusal.{PublishRefusal}
use Rattle.node_core.specs.Records.{jobs}
use Rattle.exec_functions.specs.Limits.{no_holdings}
use Rattle.node_core.specs.Node.{NodeState, Answer, MessageResult, first_node, with_record, message_result, pending}
use Rattle.node_core.specs.Node.Answer.{IsStray, Silent, Reply}
use Rattle.tree_world.specs.Packets.{Packet}

-- the nodes of a fleet in order, and the packets that were ever sent
pub record Network : Type 0 where
  pub nodes : List NodeState
  pub packets : List Packet

-- a fleet and its network
pub record System : Type 0 where
  pub fleet : FleetConfig
  pub network : Network

-- the node at a place, and a master without records past the end
abbrev pub node_at : List NodeState → ℕ → NodeState
node_at nodes i = slice_index_or nodes i (record { minion = false; records = []; held = no_holdings; known_jobs = []; known_ups = [] })

-- each minion has booted, and nothing was sent
abbrev pub start : FleetConfig → Network
start f = record { nodes = map first_node f.tree; packets = [] }

-- a fleet with its network as it starts
abbrev pub system : FleetConfig → System
system f = record { fleet = f; network = start f }

-- the list of all jobs, that of the top
abbrev pub top_jobs : Network → List Job
top_jobs w = jobs (node_at w.nodes 0).records

-- the network with another node at a place
abbrev pub with_node_at : Network → ℕ → NodeState → Network
with_node_at w i node = record w { nodes = slice_set w.nodes i node }

-- the network with these packets after those that are there
abbrev pub with_packets : Network → List Packet → Network
with_packets w new = record w { packets = w.packets ++ new }

-- a publication adds one record at the top, that of the job, or nothing where it is refused
abbrev pub after_publication : Result Job PublishRefusal → Network → Network
after_publication (Err cause) w = w
after_publication (Ok job) w = with_node_at w 0 (with_record (r.Publish job) (node_at w.nodes 0))

-- a message on its way between two places
abbrev pub packet : ℕ → ℕ → Message → Packet
packet from to message = record { from = from; to = to; message = message }

-- the greatest number of messages that one turn sends
abbrev pub most_sent : ℕ
most_sent = 4294967295

-- the first pending messages of a node for another one, as packets; a count over the greatest means that
abbrev pub sent_packets : FleetConfig → ℕ → ℕ → ℕ → Network → List Packet
sent_packets f from to count w = map (packet from to) (take (min count most_sent) (pending f.tree from to (node_at w.nodes from)))

-- the packets, with the reply to one of them
abbrev pub with_reply : Packet → Answer → List Packet → List Packet
with_reply p (IsStray cause) packets = packets
with_reply p Silent packets = packets
with_reply p (Reply message) packets = packets ++ packet p.to p.from message ∷ []

-- The packets, with a reply, if there is one. No public contract cites it.
abbrev pub with_reply_if_any : Packet → Option Message → List Packet → List Packet
with_reply_if_any p None packets = packets
with_reply_if_any p (Some message) packets = packets ++ packet p.to p.from message ∷ []

-- what the receiver of a packet does with it
abbrev pub reception : FleetConfig → List NodeState → Packet → MessageResult
reception f nodes p = message_result f.tree p.to p.from p.message (node_at nodes p.to)

-- the network after the receiver took a packet
abbrev pub after_receipt : FleetConfig → Network → Packet → Network
after_receipt f w p =
    let t = reception f w.nodes p in
    record w { nodes = slice_set w.nodes p.to t.node; packets = with_reply p t.answer w.packets }

-- a packet that is not there, or goes to no node, does nothing
abbrev pub after_delivery : FleetConfig → Network → Option Packet → Network
after_delivery f w None = w
after_delivery f w (Some p) = if nat_lt p.to (length w.nodes) then after_receipt f w p else w
