-- What a node leaves of a budget, and what is below it.
use Rattle.std.proofs.Common.{◌≡◌, ◌+◌, ℕ, Bool, true, length, Option, Some, None, ap, ◌∙◌, arith, length-append}
use Rattle.target_tree.specs.declared.target.Target.{Target}
use Rattle.target_tree.specs.declared.target.Target.TheVariants as t
use Rattle.salt_wire.specs.declared.fit.Budget.{Budget}
use Rattle.salt_wire.specs.Spelling.{tree_bytes}
use Rattle.salt_wire.specs.Limits.{right, right_layer, nodes, nodes_layer, pattern_count, pattern_count_layer}
use Rattle.salt_wire.specs.Budget.{LeavesOf, TreeLeaves, BranchLeaves}
use Rattle.salt_wire.proofs.TreeLayers.{at-Not, at-And, at-Or, tree-Not, tree-And, tree-Or}

-- the same of a part that counts the same
same : (a b : Bool) (n m p q k l : ℕ) (whole : Budget) (left : Option Budget) → b ≡ a → m ≡ n → q ≡ p → l ≡ k → LeavesOf a n p k whole left → LeavesOf b m q l whole left
same a b n m p q k l whole left e f g h given = rw (e, f, g, h) given

pub not_leaves : (z x : Target) (whole mid : Budget) (left : Option Budget) → z ≡ t.Not x → LeavesOf true 1 0 1 whole (Some mid) → TreeLeaves x mid left → TreeLeaves z whole left
not_leaves z x whole mid left is node below =
    same (right x) _ (1 + nodes x) _ (pattern_count x) _ (1 + length (tree_bytes x)) _ whole left
    (ap right is ∙ at-Not right_layer x) (ap nodes is ∙ at-Not nodes_layer x) (ap pattern_count is ∙ at-Not pattern_count_layer x)
    (omega (arith, ap length (tree-Not z x is))) (by left below) where
      by : (left : Option Budget) → TreeLeaves x mid left → LeavesOf (right x) (1 + nodes x) (pattern_count x) (1 + length (tree_bytes x)) whole left
      by None h = λ r n p b. h r (omega (arith, node.1, n)) (omega (arith, node.2, p)) (omega (arith, node.3, b))
      by (Some rest) h = (h.0, omega (arith, node.1, h.1), omega (arith, node.2, h.2), omega (arith, node.3, h.3))

pub and_leaves : (z x y : Target) (whole : Budget) (left : Option Budget) → z ≡ t.And x y → BranchLeaves x y whole left → TreeLeaves z whole left
and_leaves z x y whole left is below =
    same _ _ _ _ _ _ _ _ whole left
    (ap right is ∙ at-And right_layer x y) (ap nodes is ∙ at-And nodes_layer x y) (ap pattern_count is ∙ at-And pattern_count_layer x y)
    (omega (arith, ap length (tree-And z x y is), length-append (tree_bytes x) (tree_bytes y))) below

pub or_leaves : (z x y : Target) (whole : Budget) (left : Option Budget) → z ≡ t.Or x y → BranchLeaves x y whole left → TreeLeaves z whole left
or_leaves z x y whole left is below =
    same _ _ _ _ _ _ _ _ whole left
    (ap right is ∙ at-Or right_layer x y) (ap nodes is ∙ at-Or nodes_layer x y) (ap pattern_count is ∙ at-Or pattern_count_layer x y)
    (omega (arith, ap length (tree-Or z x y is), length-append (tree_bytes x) (tree_bytes y))) below
