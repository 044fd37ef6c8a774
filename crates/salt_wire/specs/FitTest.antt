-- Whether a tree is within the limits of a job, as a test.
use Rattle.std.specs.Prelude.{◌&&◌, nat_le, Bool, length}
use Rattle.target_tree.specs.declared.target.Target.{Target}
use Rattle.salt_wire.specs.Spelling.{tree_bytes}
use Rattle.salt_wire.specs.Limits.{most_tree_nodes, most_patterns, most_tree_bytes, nodes, pattern_count, right}

-- the tree has few nodes and patterns, its spelling is short, and each leaf has its right text or ids
abbrev pub tree_fits : Target → Bool
tree_fits t =
    nat_le (nodes t) most_tree_nodes
    && (nat_le (pattern_count t) most_patterns && (nat_le (length (tree_bytes t)) most_tree_bytes && right t))
