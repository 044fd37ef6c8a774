-- What the parts of a turn do. No public contract cites these.
use Rattle.std.specs.Prelude.{ℕ, ◌≡◌, ◌<◌, ◌++◌, All, List, [], ◌∷◌, length, map, take, slice_get, slice_set, Option, Some, nat_lt, if◌then◌else◌}
use Rattle.std.specs.Option.{option_to_list}
use Rattle.salt_value.specs.declared.outcome.Row.{Row}
use Rattle.salt_wire.specs.declared.message.Message.{Message}
use Rattle.fleet_config.specs.Fleet.{FleetConfig}
use Rattle.fleet_config.specs.Tree.{Tree, id_of, is_parent, minions}
use Rattle.minion_core.specs.Flat.{return_of}
use Rattle.node_core.specs.Records.{log}
use Rattle.node_core.specs.Node.{NodeState, pending}
use Rattle.tree_world.specs.Packets.{Packet}
use Rattle.salt_wire.specs.declared.message.Job.{Job}
use Rattle.tree_world.specs.Settle.{node_jobs, after_exchange, down_step, down_child, down_children, children, down_pass, up_step, up_minion, up_minions, up_pass, after_settle}
use Rattle.tree_world.specs.Network.{Network, System, node_at, packet, reception, with_reply, with_reply_if_any}
use Rattle.tree_world.specs.Report.{row_of}

-- each of these is the place of a node of the tree
abbrev pub AreNodes : Tree → List ℕ → Type 0
AreNodes t places = All (λ m. m < length t) places

-- where the old places are of nodes, the new ones are
abbrev pub KeepsNodes : Tree → List ℕ → List ℕ → Type 0
KeepsNodes t old new = AreNodes t old → AreNodes t new

-- the row of a minion, if by this node's records it returned the job, as a list
abbrev pub row_at : FleetConfig → NodeState → ℕ → ℕ → List Row
row_at f node seq minion = option_to_list (row_of (id_of f.tree minion) (return_of seq (log (id_of f.tree minion) node.records)))

-- the rows have one more, that of a minion, if by this node's records it returned the job
abbrev pub AddsRow : FleetConfig → NodeState → ℕ → ℕ → List Row → List Row → Type 0
AddsRow f node seq minion before after = after ≡ before ++ row_at f node seq minion

-- this text was added to what was there
abbrev pub AddsText : List ℕ → List ℕ → List ℕ → Type 0
AddsText text before after = after ≡ before ++ text

-- of these nodes the receiver took the packet
abbrev pub TakesPacket : FleetConfig → Packet → List NodeState → List NodeState → Type 0
TakesPacket f p before after = after ≡ slice_set before p.to (reception f before p).node

-- the receiver of a packet replied, or not
abbrev pub IsReplyTo : FleetConfig → List NodeState → Packet → Option Message → Type 0
IsReplyTo f nodes p reply =
    (packets : List Packet) → with_reply p (reception f nodes p).answer packets ≡ with_reply_if_any p reply packets

-- a reply, if there is one, was added to the packets, as that to a packet between these places
abbrev pub AddsReply : ℕ → ℕ → Option Message → List Packet → List Packet → Type 0
AddsReply from to reply before after = (p : Packet) → p.from ≡ from → p.to ≡ to → after ≡ with_reply_if_any p reply before

-- the message was added to the packets, on its way between these places
abbrev pub AddsPacket : ℕ → ℕ → Message → List Packet → List Packet → Type 0
AddsPacket from to message before after = after ≡ before ++ packet from to message ∷ []

-- the messages were added to the packets, on their way between these places
abbrev pub AddsPackets : ℕ → ℕ → List Message → List Packet → List Packet → Type 0
AddsPackets from to messages before after = after ≡ before ++ map (packet from to) messages

-- the pending messages of one of these nodes for another one, at most max
abbrev pub first_pending : Tree → ℕ → ℕ → ℕ → List NodeState → List Message
first_pending t from to max nodes = take max (pending t from to (node_at nodes from))

-- each job that a node holds afterwards, some node held before
pub record BringsNoJob (before after : Network) : Type 0 where
  pub each : (i seq : ℕ) (job : Job) → slice_get (node_jobs after i) seq ≡ Some job
      → (k n : ℕ) × (slice_get (node_jobs before k) n ≡ Some job)

-- a message was sent and taken, and then its reply, if there is one
abbrev pub Exchanges : ℕ → ℕ → Message → System → Network → Type 0
Exchanges from to message before after = after ≡ after_exchange before.fleet from to message before.network

-- the first job that child c is not known to hold went to it, if there is one
abbrev pub TellsJob : ℕ → ℕ → System → Network → Type 0
TellsJob p c before after = after ≡ down_step before.fleet p c before.network

-- the jobs of node p went to its child c
abbrev pub TellsChild : ℕ → ℕ → System → Network → Type 0
TellsChild p c before after = after ≡ down_child before.fleet p c before.network

-- the jobs of node p went to node c, if that is a child
abbrev pub TellsIfChild : ℕ → ℕ → System → Network → Type 0
TellsIfChild p c before after =
    after ≡ (if is_parent before.fleet.tree p c then down_child before.fleet p c before.network else before.network)

-- the jobs of node p went to each of its children
abbrev pub TellsChildren : ℕ → System → Network → Type 0
TellsChildren p before after = after ≡ down_children before.fleet p (children before.fleet.tree p) before.network

-- the jobs of each node went to each of its children
abbrev pub PassesDown : System → Network → Type 0
PassesDown before after = after ≡ down_pass before.fleet (length before.fleet.tree) before.network

-- the first entry of a minion that the parent of node c is not known to hold went to it, if there is one
abbrev pub TellsEntry : ℕ → ℕ → System → Network → Type 0
TellsEntry c minion before after = after ≡ up_step before.fleet c minion before.network

-- the entries of a minion went from node c to its parent
abbrev pub TellsLog : ℕ → ℕ → System → Network → Type 0
TellsLog c minion before after = after ≡ up_minion before.fleet c minion before.network

-- the entries of each minion at or below node c went to its parent
abbrev pub TellsParent : ℕ → System → Network → Type 0
TellsParent c before after = after ≡ up_minions before.fleet c (minions before.fleet.tree c) before.network

-- the entries of each minion at or below node c went to its parent, if it has one
abbrev pub TellsIfBelow : ℕ → System → Network → Type 0
TellsIfBelow c before after =
    after ≡ (if nat_lt 0 c then up_minions before.fleet c (minions before.fleet.tree c) before.network else before.network)

-- the entries of each node but the top went to its parent, those of the last node first
abbrev pub PassesUp : System → Network → Type 0
PassesUp before after = after ≡ up_pass before.fleet (length before.fleet.tree) before.network

-- all that was pending went down through the tree and then up
abbrev pub HandsOver : System → Network → Type 0
HandsOver before after = after ≡ after_settle before.fleet before.network
