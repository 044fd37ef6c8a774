use Rattle.std.proofs.Common.{◌≡◌, ◌++◌, drop, map}
use Rattle.fleet_config.specs.Tree.{id_of, ids_below}
use Rattle.fleet_config.proofs.fleet.Fleet.ids_below.Given as goal

-- the ids so far and those of the minions that are left
abbrev pub invariant-loop-minion : goal.invariant-loop-minion
invariant-loop-minion l = l.ids ++ map (id_of l.self.tree) (drop l.minion-index l.minion-items) ≡ ids_below l.self.tree l.fn.node
