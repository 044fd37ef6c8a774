use Rattle.std.proofs.Common.{◌≡◌, ◌++◌, drop, map}
use Rattle.fleet_config.specs.Tree.{flat_tree, plain_member}
use Rattle.fleet_config.specs.declared.fleet.Role.TheVariants as role
use Rattle.fleet_config.proofs.fleet.flat_members.Given as goal

-- the nodes so far and the minions that are left
abbrev pub invariant-loop-id : goal.invariant-loop-id
invariant-loop-id l = l.members.items ++ map (plain_member role.Minion) (drop l.id-index l.minions) ≡ flat_tree l.fn.top l.minions
