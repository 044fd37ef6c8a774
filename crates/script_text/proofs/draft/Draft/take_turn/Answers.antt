use Rattle.script_text.proofs.Drafts.{end_taken, turn_stops}
use Rattle.script_text.proofs.Compared.{is_word, is_other}
use Rattle.script_text.proofs.draft.Draft.take_turn.Goals as goal

pub returns-then-eq : goal.returns-then-eq
returns-then-eq c =
    end_taken c.args.self.now c.args.line.now c.requires.draft c.requires.stage
    (is_word c.args.line.now c.as_slice.result.now _ c.eq.result c.eq.ensures c.as_slice.ensures c.if-eq.true)

pub returns-in-None : goal.returns-in-None
returns-in-None c =
    turn_stops c.args.self.now c.args.line.now c.requires.draft c.requires.stage
    (is_other c.args.line.now c.as_slice.result.now _ c.eq.result c.eq.ensures c.as_slice.ensures c.if-eq.false)
    (rw c.in-None.is at (c.in_ok-turn.ensures {u = tt}))
