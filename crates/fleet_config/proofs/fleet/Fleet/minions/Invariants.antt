use Rattle.std.proofs.Common.{◌≡◌, ◌&&◌, filter}
use Rattle.fleet_config.specs.Tree.{is_minion, is_within, up_to}
use Rattle.fleet_config.proofs.fleet.Fleet.minions.Given as goal

-- the minions among the nodes so far
abbrev pub invariant-loop-other : goal.invariant-loop-other
invariant-loop-other l = l.found.items ≡ filter (λ m. is_minion l.self.tree m && is_within l.self.tree l.node m) (up_to l.other)
