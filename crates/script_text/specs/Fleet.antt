-- The ids of a fleet as one list, that of the top first.
use Rattle.std.specs.Prelude.{List, ℕ, [], ◌∷◌}
use Rattle.fleet_config.specs.Tree.{Tree, flat_tree}
use Rattle.fleet_config.specs.Fleet.{FleetConfig, fleet_with}
use Rattle.script_text.specs.Script.{HasIds}

-- No public contract cites it. A top with the first of these ids, and minions with the others
abbrev pub tree_by : List (List ℕ) → Tree
tree_by [] = []
tree_by (top ∷ minions) = flat_tree top minions

-- No public contract cites it. The fleet of that tree, as scripts have it
abbrev pub fleet_by : List (List ℕ) → FleetConfig
fleet_by ids = fleet_with (tree_by ids)

-- No public contract cites it. These may be the ids of a fleet
abbrev pub AreFleetIds : List (List ℕ) → Type 0
AreFleetIds [] = ⊥
AreFleetIds (top ∷ minions) = HasIds top minions
