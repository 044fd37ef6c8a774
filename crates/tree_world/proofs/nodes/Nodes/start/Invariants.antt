use Rattle.tree_world.specs.Nodes.{AreStarted}
use Rattle.tree_world.proofs.nodes.Nodes.start.Given as goal

-- the nodes so far are as they start
abbrev pub invariant-loop-place : goal.invariant-loop-place
invariant-loop-place l = AreStarted l.fleet l.place l.nodes.items
