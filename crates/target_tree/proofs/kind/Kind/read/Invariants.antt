use Rattle.std.proofs.Common.{◌≡◌, drop}
use Rattle.target_tree.proofs.Table.{first_kind, named, all_kinds}
use Rattle.target_tree.proofs.kind.Kind.read.Given as goal

abbrev pub invariant-loop-kind : goal.invariant-loop-kind
invariant-loop-kind l = first_kind (named l.name) all_kinds ≡ first_kind (named l.name) (drop l.kind-index l.kind-items)
