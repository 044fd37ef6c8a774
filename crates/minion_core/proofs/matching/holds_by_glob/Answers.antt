use Rattle.std.proofs.Common.{sym, ap, subst, ◌∙◌}
use Rattle.salt_glob.specs.Globs.{glob}
use Rattle.minion_core.specs.Globs.{IsAnswerById}
use Rattle.minion_core.proofs.Globs.{glob_answer}
use Rattle.minion_core.proofs.matching.holds_by_glob.Goals as goal

pub returns-in-IdGlob : goal.returns-in-IdGlob
returns-in-IdGlob c =
    let job = c.args.job.now in
    let id = c.args.id.now in
    let text = c.in-IdGlob.text in
    let is = c.glob.ensures.exact ∙ ap (λ t. glob t c.as_bytes-in-IdGlob.result.now) c.as_bytes.ensures ∙ ap (glob text) c.as_bytes-in-IdGlob.ensures.value in
    subst (IsAnswerById job id) (sym is) (glob_answer job id text (sym c.get.ensures ∙ c.in-IdGlob.is))
