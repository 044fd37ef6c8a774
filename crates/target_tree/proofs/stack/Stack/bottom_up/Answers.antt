use Rattle.std.proofs.Common.{reverse, ap, sym, ◌∙◌}
use Rattle.target_tree.proofs.stack.Stack.bottom_up.Goals as goal

pub returns : goal.returns
returns t c = sym c.self.view_is ∙ ap reverse (sym c.as_slice.ensures.value)
