use Rattle.std.proofs.Common.{sym, ◌∙◌}
use Rattle.target_tree.proofs.Table.{passed_over, all_kinds, named}
use Rattle.target_tree.proofs.kind.Kind.read.Goals as goal

pub loop-kind-preserved : goal.loop-kind-preserved
loop-kind-preserved c =
    c.loop-kind.invariant ∙ passed_over (named c.args.name.now) all_kinds c.loop-kind.kind-index c.loop-kind-test.true (sym c.has_name.ensures ∙ c.if-has_name.false)
