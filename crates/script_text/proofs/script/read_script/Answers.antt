use Rattle.std.proofs.Common.{◌++◌, ap, sym, subst, ◌∙◌, ℕ, append-nil, arith}
use Rattle.script_text.specs.Lines.{lines_of}
use Rattle.script_text.specs.Draft.{draft_lines}
use Rattle.script_text.specs.Refusals.{IsRefusedAt}
use Rattle.script_text.proofs.Drafts.{draft_goes_on}
use Rattle.script_text.proofs.Refusals.{refused_line, refused_end, same_line, small_number}
use Rattle.script_text.proofs.script.read_script.Goals as goal

pub returns-then-not-branch-clause-not_yet : goal.returns-then-not-branch-clause-not_yet
returns-then-not-branch-clause-not_yet c = λ line is.
    let P : ℕ → Type 0 = λ n. IsRefusedAt n c.args.text.now in
    let before = draft_lines c.loop-line.draft in
    let whole = ap (λ l. before ++ l) (sym (c.in-Some.ensures {u = tt}).some) ∙ c.loop-line.invariant.lines in
    let at = refused_line c.args.text.now before c.in-Some.line.now (lines_of c.in-Some.more.now) c.loop-line.number whole c.loop-line.invariant.count
    (draft_goes_on c.loop-line.draft c.loop-line.invariant.draft) (rw c.if-not-branch.true at (c.in_ok-take.ensures {u = tt})) in
    subst P (same_line c.loop-line.number line is) at

pub overflow_add-number : goal.overflow_add-number
overflow_add-number c =
    let before = draft_lines c.loop-line.draft in
    let whole = ap (λ l. before ++ l) (sym (c.in-Some.ensures {u = tt}).some) ∙ c.loop-line.invariant.lines in
    let small = small_number c.args.text.now before c.in-Some.line.now (lines_of c.in-Some.more.now) c.loop-line.number whole c.loop-line.invariant.count c.requires in
    omega arith

pub returns-in-None-clause-not_yet : goal.returns-in-None-clause-not_yet
returns-in-None-clause-not_yet c = λ line is.
    let P : ℕ → Type 0 = λ n. IsRefusedAt n c.args.text.now in
    let before = draft_lines c.loop-line.draft in
    let whole = sym (append-nil before) ∙ ap (λ l. before ++ l) (sym (c.in_default.ensures {u = tt}).none) ∙ c.loop-line.invariant.lines in
    subst P (same_line c.loop-line.number line is)
    (refused_end c.args.text.now before c.loop-line.number whole c.loop-line.invariant.count
    (draft_goes_on c.loop-line.draft c.loop-line.invariant.draft) (rw c.in-None.is at (c.in_ok-script.ensures {u = tt})))
