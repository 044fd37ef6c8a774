use Rattle.std.proofs.Common.{ap, ◌∙◌}
use Rattle.salt_glob.specs.Globs.{pieces, glob}
use Rattle.salt_glob.proofs.Pieces.{told_held}
use Rattle.salt_glob.proofs.matching.glob.Goals as goal

pub returns-clause-exact : goal.returns-clause-exact
returns-clause-exact c =
    told_held c.holds.result (pieces c.exact.result) c.exact-2.result c.holds.ensures.0 c.holds.ensures.1
    ∙ ap (λ p. glob p c.exact-2.result) c.exact.ensures ∙ ap (glob c.args.pattern.now) c.exact-2.ensures
