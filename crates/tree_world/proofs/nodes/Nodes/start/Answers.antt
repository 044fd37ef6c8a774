use Rattle.std.proofs.Common.{◌<◌, length, arith}
use Rattle.tree_world.proofs.Placed.{one_more}
use Rattle.tree_world.proofs.nodes.Nodes.start.Goals as goal

pub invariant_of-result : goal.invariant_of-result
invariant_of-result c =
    let most = c.loop-place.auto.place-end in
    let least = c.loop-place-test.false in
    let all = c.count-place-end.ensures.value in
    let is = c.loop-place.invariant.is_count in
    record { count = omega arith; each = c.loop-place.invariant.each }

pub loop-place-preserved : goal.loop-place-preserved
loop-place-preserved c =
    let f = c.args.fleet.now in
    let place = c.loop-place.place in
    let test = c.loop-place-test.true in
    let all = c.count-place-end.ensures.value in
    let l : place < length f.tree = omega arith in
    rw c.in_ok-push.ensures.items (one_more f place c.loop-place.nodes.items _ l (rw c.new.ensures at c.in_ok-start.ensures.ok) c.loop-place.invariant)
