-- A node more in a fleet: what the fleet is then, or why the node is refused.
use Rattle.std.specs.Prelude.{ℕ, ◌≡◌, ◌≢◌, nat_lt, ◌&&◌, ◌||◌, not, Bool, true, false, List, [], ◌∷◌, ◌++◌, length, position, is_none, unwrap_or, Option, None, Some, bytes_eq, if◌then◌else◌}
use Rattle.fleet_config.specs.declared.fleet.Role.{Role}
use Rattle.fleet_config.specs.declared.fleet.Role.TheVariants as role
use Rattle.fleet_config.specs.declared.fleet.Member.{Member}
use Rattle.fleet_config.specs.declared.node.FleetNode.{FleetNode}
use Rattle.fleet_config.specs.declared.node.NodeFault.{NodeFault}
use Rattle.fleet_config.specs.declared.node.NodeFault.TheVariants.{NoMemory, NoTop, TwoTops, TwiceId, NoParent, TooMany, TooDeep, TooLarge}
use Rattle.exec_functions.specs.Limits.{are_within}
use Rattle.fleet_config.specs.Limits.{most_minions, most_syndics, most_levels}
use Rattle.fleet_config.specs.Causes.{first_cause}
use Rattle.fleet_config.specs.Tree.{Tree, is_top, is_minion, minion_count, syndic_count, level}
use Rattle.fleet_config.specs.Fleet.{FleetConfig}

-- the node as a fleet has it: the parent of the top is the top
abbrev pub member_of : FleetNode → Member
member_of node = record { id = node.id; role = node.role; parent = unwrap_or node.parent 0; port = node.port; held = node.held }

-- the fleet with a node more, the last one
abbrev pub with_node : FleetNode → FleetConfig → FleetConfig
with_node node f = record f { tree = f.tree ++ member_of node ∷ [] }

-- a master that is there
abbrev pub is_master_there : Tree → Option ℕ → Bool
is_master_there t None = false
is_master_there t (Some place) = nat_lt place (length t) && not (is_minion t place)

-- a top has no parent, and every other node has a master that is there
abbrev pub is_placed : Tree → Role → Option ℕ → Bool
is_placed t role parent = if is_top role then is_none parent else is_master_there t parent

-- there is room for one more of this role
abbrev pub has_room : Tree → Role → Bool
has_room t role.Top = true
has_room t role.Syndic = nat_lt (syndic_count t) most_syndics
has_room t role.Minion = nat_lt (minion_count t) most_minions

-- there is a level for a node with this parent
abbrev pub has_level : Tree → Option ℕ → Bool
has_level t None = true
has_level t (Some place) = nat_lt (level t place) most_levels

-- what must hold of a node that is added, in order, each with the fault where it does not
abbrev pub node_tests : Tree → FleetNode → List (Bool × NodeFault)
node_tests t node =
    (is_top node.role || nat_lt 0 (length t), NoTop)
    ∷ (not (is_top node.role && nat_lt 0 (length t)), TwoTops)
    ∷ (is_none (position (λ m. bytes_eq m.id node.id) t), TwiceId)
    ∷ (is_placed t node.role node.parent, NoParent)
    ∷ (has_room t node.role, TooMany)
    ∷ (has_level t node.parent, TooDeep)
    ∷ (are_within node.held, TooLarge) ∷ []

-- why a node is not added, if it is not
abbrev pub node_fault : Tree → FleetNode → Option NodeFault
node_fault t node = first_cause (node_tests t node)

-- a fault of this node: it is why the node is not added, unless no memory was found
abbrev pub IsNodeFault : Tree → FleetNode → NodeFault → Type 0
IsNodeFault t node fault = fault ≢ NoMemory → node_fault t node ≡ Some fault
