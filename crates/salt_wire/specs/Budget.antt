-- What is left of the nodes, patterns and bytes that a tree may have. No public contract cites it.
use Rattle.std.specs.Prelude.{◌≡◌, ◌≤◌, ◌<◌, ◌+◌, ◌&&◌, ℕ, Bool, true, List, length, map, nat_le, Option, Some, None}
use Rattle.std.specs.List.{list_all}
use Rattle.salt_value.specs.Spelling.{text, concatenation}
use Rattle.target_tree.specs.declared.target.Target.{Target}
use Rattle.salt_wire.specs.declared.fit.Budget.{Budget}
use Rattle.salt_wire.specs.Spelling.{id, tree_bytes}
use Rattle.salt_wire.specs.Limits.{most_leaf_ids, is_id, is_leaf_text, nodes, pattern_count, right}

-- what is left after a part that is right, of so many nodes, patterns and bytes; none exactly where it isn't right or there are too few. No public contract cites it.
abbrev pub LeavesOf : Bool → ℕ → ℕ → ℕ → Budget → Option Budget → Type 0
LeavesOf is_right n p b whole None = is_right ≡ true → n ≤ whole.nodes → p ≤ whole.patterns → b ≤ whole.bytes → ⊥
LeavesOf is_right n p b whole (Some left) =
    (is_right ≡ true) × (n + left.nodes ≡ whole.nodes) × (p + left.patterns ≡ whole.patterns) × (b + left.bytes ≡ whole.bytes)

-- what is left after a leaf with a text. No public contract cites it.
abbrev pub TextLeaves : List ℕ → ℕ → Budget → Option Budget → Type 0
TextLeaves leaf p whole left = LeavesOf (is_leaf_text leaf) 1 p (1 + length (text leaf)) whole left

-- how many of so many bytes are left after ids. No public contract cites it.
abbrev pub IdsLeave : List (List ℕ) → ℕ → Option ℕ → Type 0
IdsLeave ids whole None = whole < length (concatenation (map id ids))
IdsLeave ids whole (Some left) = (list_all is_id ids ≡ true) × (length (concatenation (map id ids)) + left ≡ whole)

-- what is left after a leaf with ids. No public contract cites it.
abbrev pub ListLeaves : List (List ℕ) → Budget → Option Budget → Type 0
ListLeaves ids whole left =
    LeavesOf (nat_le 1 (length ids) && (nat_le (length ids) most_leaf_ids && list_all is_id ids)) 1 0 (3 + length (concatenation (map id ids))) whole left

-- what is left after a tree. No public contract cites it.
abbrev pub TreeLeaves : Target → Budget → Option Budget → Type 0
TreeLeaves t whole left = LeavesOf (right t) (nodes t) (pattern_count t) (length (tree_bytes t)) whole left

-- what is left after a node and two trees below it. No public contract cites it.
abbrev pub BranchLeaves : Target → Target → Budget → Option Budget → Type 0
BranchLeaves x y whole left =
    LeavesOf (right x && right y) (1 + (nodes x + nodes y)) (pattern_count x + pattern_count y) (1 + (length (tree_bytes x) + length (tree_bytes y))) whole left
