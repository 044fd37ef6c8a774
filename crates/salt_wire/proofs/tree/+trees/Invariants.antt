use Rattle.std.proofs.Common.{◌+◌, ◌*◌}
use Rattle.salt_wire.proofs.tree.+trees.Given as goal

abbrev pub decreases-levels_at : goal.decreases-levels_at
decreases-levels_at l = 4 * l.levels

abbrev pub decreases-part_at : goal.decreases-part_at
decreases-part_at l = 4 * l.levels + 1

abbrev pub decreases-not_node : goal.decreases-not_node
decreases-not_node l = 4 * l.levels + 2

abbrev pub decreases-and_node : goal.decreases-and_node
decreases-and_node l = 4 * l.levels + 2

abbrev pub decreases-or_node : goal.decreases-or_node
decreases-or_node l = 4 * l.levels + 2

abbrev pub decreases-node_after : goal.decreases-node_after
decreases-node_after l = 4 * l.levels + 3
