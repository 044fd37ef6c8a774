use Rattle.std.proofs.Common.{take}
use Rattle.journalled_node.specs.Starts.{IsNodeOf}
use Rattle.journalled_node.proofs.loading.add_payloads.Given as goal

-- the node has the records of the payloads so far
abbrev pub invariant-loop-i : goal.invariant-loop-i
invariant-loop-i l = IsNodeOf l.fn.node.fleet l.fn.node.me (take l.i l.fn.payloads) l.node
