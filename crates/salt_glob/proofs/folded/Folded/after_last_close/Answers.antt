use Rattle.std.proofs.Common.{◌==◌, drop, sym, ap, ◌∙◌}
use Rattle.std.specs.List.{list_any}
use Rattle.salt_glob.proofs.Folds.{closes-folded}
use Rattle.salt_glob.proofs.folded.Folded.after_last_close.Goals as goal

pub returns-clause-closes : goal.returns-clause-closes
returns-clause-closes c = λ k.
    ap (λ l. list_any (λ b. b == 93) (drop k l)) (sym c.self.view_is) ∙ closes-folded c.self.inside.is_caseless k c.self.inside.bytes.now
    ∙ c.after_last_close.ensures.closes k
