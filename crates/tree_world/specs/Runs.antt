-- Turns of the network: each is one step.
use Rattle.std.specs.Prelude.{◌≡◌, List, [], ◌∷◌, slice_get}
use Rattle.fleet_config.specs.Fleet.{FleetConfig}
use Rattle.node_core.specs.Publications.{order, publication}
use Rattle.fleet_turns.specs.declared.turn.Turn.{Turn}
use Rattle.fleet_turns.specs.declared.turn.Turn.TheVariants.{Publish, Send, Deliver, Settle, Report, Exit, Jobs, Summary, Data, Counts}
use Rattle.fleet_turns.specs.declared.turn.Turn.TheVariants as t
use Rattle.tree_world.specs.Network.{Network, System, top_jobs, after_publication, with_packets, sent_packets, after_delivery}
use Rattle.tree_world.specs.Settle.{after_settle}

-- the network after a turn
abbrev pub after : FleetConfig → Turn → Network → Network
after f (Publish moment kind tgt fun args) w = after_publication (publication f moment (order kind tgt fun args) (top_jobs w)) w
after f (Send from to count) w = with_packets w (sent_packets f from to count w)
after f (Deliver i) w = after_delivery f w (slice_get w.packets i)
after f Settle w = after_settle f w
after f (Report jid) w = w
after f (Exit jid) w = w
after f Jobs w = w
after f Summary w = w
after f (Data node) w = w
after f (Counts node) w = w
after f (t.Packet i) w = w

-- the network follows from a fleet and its network by a turn
abbrev pub Follows : Turn → System → Network → Type 0
Follows turn before network = network ≡ after before.fleet turn before.network

-- the network after some turns
abbrev pub after_all : FleetConfig → List Turn → Network → Network
after_all f [] w = w
after_all f (turn ∷ turns) w = after_all f turns (after f turn w)
