use Rattle.std.proofs.Common.{ap, ◌∙◌}
use Rattle.salt_glob.specs.Globs.{pieces, glob}
use Rattle.salt_glob.specs.LowerCase.{lower_case}
use Rattle.salt_glob.proofs.Pieces.{told_held}
use Rattle.salt_glob.proofs.matching.glob_caseless.Goals as goal

pub returns-clause-exact : goal.returns-clause-exact
returns-clause-exact c =
    told_held c.holds.result (pieces c.caseless.result) c.caseless-2.result c.holds.ensures.0 c.holds.ensures.1
    ∙ ap (λ p. glob p c.caseless-2.result) c.caseless.ensures ∙ ap (glob (lower_case c.args.pattern.now)) c.caseless-2.ensures
