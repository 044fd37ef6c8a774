use Rattle.std.proofs.Common.{◌≡◌, drop}
use Rattle.target_tree.specs.Nodegroups.{is_among}
use Rattle.target_tree.specs.WaitingTexts.{names_of}
use Rattle.target_tree.proofs.run.is_waiting.Given as goal

abbrev pub invariant-loop-outer : goal.invariant-loop-outer
invariant-loop-outer l = is_among (names_of l.outers) l.name ≡ is_among (names_of (drop l.outer-index l.outer-items)) l.name
