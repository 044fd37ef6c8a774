use Rattle.std.proofs.Common.{◌==◌, drop, sym, ap, ◌∙◌}
use Rattle.std.specs.Prelude.{position}
use Rattle.salt_glob.proofs.Folds.{seen, first-folded}
use Rattle.salt_glob.proofs.folded.Folded.first_close.Goals as goal

pub returns-clause-value : goal.returns-clause-value
returns-clause-value c =
    c.first_close.ensures ∙ ap (position (λ b. b == 93)) (seen c.args.from c.self.inside.bytes.now)
    ∙ sym (first-folded c.self.inside.is_caseless c.args.from c.self.inside.bytes.now) ∙ ap (λ l. position (λ b. b == 93) (drop c.args.from l)) c.self.view_is
