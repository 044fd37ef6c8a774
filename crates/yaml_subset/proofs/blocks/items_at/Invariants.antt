use Rattle.std.proofs.Common.{◌≡◌, ◌++◌, map, reverse, length}
use Rattle.yaml_subset.specs.Blocks.{scalar_on_line}
use Rattle.yaml_subset.proofs.blocks.items_at.Given as goal

-- the items that are left, and then those that were taken from the end
abbrev pub invariant-loop-value : goal.invariant-loop-value
invariant-loop-value l = map (scalar_on_line l.line) l.left ++ reverse l.items.items ≡ map (scalar_on_line l.line) l.fn.values

abbrev pub decreases-loop-value : goal.decreases-loop-value
decreases-loop-value l = length l.left
