use Rattle.script_text.proofs.Drafts.{minion_stops}
use Rattle.script_text.proofs.Compared.{is_other}
use Rattle.script_text.proofs.draft.Draft.take_minion.Goals as goal

pub returns-in-None : goal.returns-in-None
returns-in-None c =
    minion_stops c.args.self.now c.args.line.now c.requires.stage
    (is_other c.args.line.now c.as_slice.result.now _ c.eq.result c.eq.ensures c.as_slice.ensures c.if-eq.false) (c.in-None.ensures {u = tt})
