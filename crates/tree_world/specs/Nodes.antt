-- The nodes of a fleet, each at its place.
use Rattle.std.specs.Prelude.{ℕ, ◌≡◌, ◌<◌, ◌+◌, All, List, [], ◌∷◌, length, map, take, slice_set, Option, Ok}
use Rattle.fleet_config.specs.Fleet.{FleetConfig}
use Rattle.salt_wire.specs.declared.message.Job.{Job}
use Rattle.salt_wire.specs.declared.deed.Deed.TheVariants.{Publish}
use Rattle.node_core.specs.declared.faults.PublishFault.{PublishFault}
use Rattle.node_core.specs.Records.{jobs}
use Rattle.salt_wire.specs.declared.message.Message.{Message}
use Rattle.node_core.specs.declared.faults.TakeFault.{TakeFault}
use Rattle.node_core.specs.Node.{NodeState, PlacedNode, first_node, with_record, message_result, reply_answer, IsTakeFault}
use Rattle.node_core.specs.Publications.{Order, publication, IsPublishFault}
use Rattle.fleet_config.specs.Tree.{minions}
use Rattle.tree_world.specs.Network.{node_at}
use Rattle.tree_world.specs.Report.{by_id}

-- a fleet, and the state of each of its nodes in list order
pub record FleetNodes : Type 0 where
  pub fleet : FleetConfig
  pub states : List NodeState

-- the nodes of a fleet as they start
abbrev pub starting_nodes : FleetConfig → FleetNodes
starting_nodes f = record { fleet = f; states = map first_node f.tree }

-- The top published an order under this jid: it recorded the job, and the others stay.
pub record PublishesAtTop (moment : ℕ) (o : Order) (before after : FleetNodes) (jid : ℕ) : Type 0 where
  pub job : Job
  pub is : publication before.fleet moment o (jobs (node_at before.states 0).records) ≡ Ok job
  pub jid_is : job.jid ≡ jid
  pub states : after.states ≡ slice_set before.states 0 (with_record (Publish job) (node_at before.states 0))

-- why the top publishes no job for an order
abbrev pub DeniesAtTop : ℕ → Order → FleetNodes → PublishFault → Type 0
DeniesAtTop moment o nodes fault = IsPublishFault nodes.fleet moment o (node_at nodes.states 0) fault

-- These are nodes of a fleet at successive places, from this one on. No public contract cites it.
abbrev pub ArePlacedFrom : FleetConfig → ℕ → List PlacedNode → Type 0
ArePlacedFrom f i [] = Unit {0}
ArePlacedFrom f i (n ∷ nodes) = (n.fleet ≡ f) × (n.me ≡ i) × ArePlacedFrom f (i + 1) nodes

-- These are the nodes of a fleet, each at its place. No public contract cites it.
pub record ArePlaced (f : FleetConfig) (nodes : List PlacedNode) : Type 0 where
  pub count : length nodes ≡ length f.tree
  pub each : ArePlacedFrom f 0 nodes

-- The states of nodes. No public contract cites it.
abbrev pub states_of : List PlacedNode → List NodeState
states_of nodes = map (λ n. n.state) nodes

-- These are the first nodes of a fleet as they start, so many. No public contract cites it.
pub record AreStarted (f : FleetConfig) (count : ℕ) (nodes : List PlacedNode) : Type 0 where
  pub is_count : length nodes ≡ count
  pub each : ArePlacedFrom f 0 nodes
  pub states : states_of nodes ≡ map first_node (take count f.tree)

-- The node at a place took a message from another one, and replied, or not; the others stay. No public contract cites it.
pub record TakesAt (f : FleetConfig) (to from : ℕ) (message : Message) (before after : List NodeState) (reply : Option Message) : Type 0 where
  pub state : NodeState
  pub states : after ≡ slice_set before to state
  pub result : message_result f.tree to from message (node_at before to) ≡ record { node = state; answer = reply_answer reply }

-- Every node is as before, that at a place too. No public contract cites it.
abbrev pub StaysAt : ℕ → List NodeState → List NodeState → Type 0
StaysAt to before after = after ≡ slice_set before to (node_at before to)

-- why the node at a place takes no message from another one
abbrev pub DeniesAt : ℕ → ℕ → Message → FleetNodes → TakeFault → Type 0
DeniesAt to from message nodes fault = IsTakeFault nodes.fleet.tree to from message (node_at nodes.states to) fault

-- A fleet has a node and a state for each of its nodes, and this is its minions' order by their ids. No public contract cites it.
pub record IsWhole (nodes : FleetNodes) (sorted : List ℕ) : Type 0 where
  pub some : 0 < length nodes.fleet.tree
  pub count : length nodes.states ≡ length nodes.fleet.tree
  pub order : sorted ≡ by_id nodes.fleet.tree (minions nodes.fleet.tree 0)
  pub within : All (λ m. m < length nodes.fleet.tree) sorted
