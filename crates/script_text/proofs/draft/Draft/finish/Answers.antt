use Rattle.script_text.proofs.Drafts.{finished, unfinished}
use Rattle.script_text.proofs.draft.Draft.finish.Goals as goal

pub returns-in_ok-minions-in-End : goal.returns-in_ok-minions-in-End
returns-in_ok-minions-in-End c =
    finished c.args.self c.in_ok-minions-in-End.minions c.requires c.in-End.is (c.in_ok-minions-in-End.ensures {u = tt})

pub returns-in_default : goal.returns-in_default
returns-in_default c =
    unfinished c.args.self c.requires c.in_default.not-End
