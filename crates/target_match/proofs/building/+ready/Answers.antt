use Rattle.std.proofs.Common.{◌++◌, ap, ◌∙◌}
use Rattle.target_match.specs.Holds.{patterns}
use Rattle.target_match.specs.Ready.{target_of}
use Rattle.target_match.proofs.Leaves.{handed, fault_right, readable_both, both_counted}
use Rattle.target_match.proofs.building.+ready.Goals as goal

pub both-returns-in_err-ready-2-clause-fault : goal.both-returns-in_err-ready-2-clause-fault
both-returns-in_err-ready-2-clause-fault t c =
    let left = c.in_ok-ready.ensures.ok in
    handed c.from_residual-in_err-ready-2.result c.in_err-ready-2.field-0.0 (patterns c.args.left.now ++ patterns c.args.right.now) c.args.leaves.now c.from_residual-in_err-ready-2.ensures.1
    (fault_right (patterns c.args.left.now) (patterns c.args.right.now) c.args.leaves.now c.ready.new.leaves c.in_err-ready-2.field-0.0 left.readable left.counted c.in_err-ready-2.ensures.fault)

pub both-returns-clause-ok : goal.both-returns-clause-ok
both-returns-clause-ok t c =
    let left = c.in_ok-ready.ensures.ok in
    let right = c.in_ok-ready-2.ensures.ok in
    record {
      left_same = ap target_of c.in_ok-left.ensures ∙ left.same;
      right_same = ap target_of c.in_ok-right.ensures ∙ right.same;
      readable = readable_both _ _ left.readable right.readable;
      counted = both_counted (patterns c.args.left.now) (patterns c.args.right.now) _ _ _ left.counted right.counted;
    }
