use Rattle.std.proofs.Common.{[], ◌∷◌, reverse, ap, ◌∙◌}
use Rattle.std.proofs.lemmas.List.{reverse-append}
use Rattle.target_tree.proofs.stack.Stack.push.Goals as goal

pub returns : goal.returns
returns t c = ap reverse c.in_ok-push.ensures.items ∙ reverse-append c.self.inside.items.items (c.args.item ∷ []) ∙ ap (λ s. c.args.item ∷ s) c.self.view_is
