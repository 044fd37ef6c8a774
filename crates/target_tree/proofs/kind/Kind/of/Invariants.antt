use Rattle.std.proofs.Common.{◌≡◌, drop}
use Rattle.target_tree.proofs.Table.{first_kind, coded, all_kinds}
use Rattle.target_tree.proofs.kind.Kind.of.Given as goal

abbrev pub invariant-loop-kind : goal.invariant-loop-kind
invariant-loop-kind l = first_kind (coded l.code) all_kinds ≡ first_kind (coded l.code) (drop l.kind-index l.kind-items)
