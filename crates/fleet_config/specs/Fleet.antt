-- What a fleet says.
use Rattle.std.specs.Prelude.{ℕ, ◌≤◌, List, [], ◌∷◌, ◌++◌}
use Rattle.target_tree.specs.Nodegroups.{Group}
use Rattle.fleet_config.specs.Limits.{most_jobs, least_journal_limit, most_journal_limit}
use Rattle.fleet_config.specs.Tree.{Tree, IsTree, flat_tree}

-- what a fleet says: its tree, its nodegroups, how many jobs its top holds at most, and how many bytes a part of a journal has at most
pub record FleetConfig : Type 0 where
  pub tree : Tree
  pub groups : List Group
  pub max_jobs : ℕ
  pub journal_limit : ℕ

-- numbers that a fleet may set as its limits: of jobs, and of the bytes of a journal's part
pub record AreLimits (max_jobs journal_limit : ℕ) : Type 0 where
  pub some_jobs : 1 ≤ max_jobs
  pub few_jobs : max_jobs ≤ most_jobs
  pub least : least_journal_limit ≤ journal_limit
  pub most : journal_limit ≤ most_journal_limit

-- a fleet with a node, within the limits
pub record IsFleet (f : FleetConfig) : Type 0 where
  pub tree : IsTree f.tree
  pub limits : AreLimits f.max_jobs f.journal_limit

-- the fleet with other limits
abbrev pub with_limits : ℕ → ℕ → FleetConfig → FleetConfig
with_limits max_jobs journal_limit f = record f { max_jobs = max_jobs; journal_limit = journal_limit }

-- the fleet with a nodegroup more, the last one
abbrev pub with_group : List ℕ → List ℕ → FleetConfig → FleetConfig
with_group name text f = record f { groups = f.groups ++ (name, text) ∷ [] }

-- a fleet of this tree without a nodegroup, whose limits are the greatest
abbrev pub fleet_with : Tree → FleetConfig
fleet_with t = record { tree = t; groups = []; max_jobs = most_jobs; journal_limit = most_journal_limit }

-- a top with these minions under it, no nodegroup, and the greatest limits
abbrev pub flat_fleet : List ℕ → List (List ℕ) → FleetConfig
flat_fleet top ids = fleet_with (flat_tree top ids)
