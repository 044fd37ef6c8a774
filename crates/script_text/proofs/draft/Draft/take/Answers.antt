use Rattle.script_text.proofs.Drafts.{end_stops}
use Rattle.script_text.proofs.draft.Draft.take.Goals as goal

pub returns-in-End : goal.returns-in-End
returns-in-End c =
    end_stops c.args.self.now c.args.line.now c.requires c.in-End.is
