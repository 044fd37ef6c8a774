use Rattle.script_text.proofs.Drafts.{role_taken, role_stops}
use Rattle.script_text.proofs.Compared.{is_word, is_other}
use Rattle.script_text.proofs.draft.Draft.take_role.Goals as goal

pub returns-then-eq : goal.returns-then-eq
returns-then-eq c =
    role_taken c.args.self.now c.args.line.now c.requires.draft c.requires.stage
    (is_word c.args.line.now c.as_slice.result.now _ c.eq.result c.eq.ensures c.as_slice.ensures c.if-eq.true)

pub returns-else-eq : goal.returns-else-eq
returns-else-eq c =
    role_stops c.args.self.now c.args.line.now c.requires.stage (is_other c.args.line.now c.as_slice.result.now _ c.eq.result c.eq.ensures c.as_slice.ensures c.if-eq.false)
