use Rattle.std.proofs.Common.{sym, ◌∙◌, arith}
use Rattle.script_text.proofs.Drafts.{next_found, next_old}
use Rattle.script_text.proofs.draft.Draft.next_id.Goals as goal

pub returns-then-contains : goal.returns-then-contains
returns-then-contains c =
    λ x has e.
    next_old c.args.self.now c.args.line.now c.in-Some.id x c.requires (c.in-Some.ensures {u = tt}) (sym c.contains.ensures ∙ c.if-contains.true) has e

pub returns : goal.returns
returns c =
    next_found c.args.self.now c.args.line.now c.in-Some.id c.requires (c.in-Some.ensures {u = tt}) (sym c.contains.ensures ∙ c.if-contains.false)
    (omega (arith, c.len.ensures.len))
