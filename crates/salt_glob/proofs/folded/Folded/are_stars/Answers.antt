use Rattle.std.proofs.Common.{◌==◌, drop, sym, ap, ◌∙◌}
use Rattle.std.specs.List.{list_all}
use Rattle.salt_glob.proofs.Folds.{seen, stars-folded}
use Rattle.salt_glob.proofs.folded.Folded.are_stars.Goals as goal

pub returns : goal.returns
returns c =
    c.are_stars.ensures ∙ ap (list_all (λ b. b == 42)) (seen c.args.from c.self.inside.bytes.now)
    ∙ sym (stars-folded c.self.inside.is_caseless c.args.from c.self.inside.bytes.now) ∙ ap (λ l. list_all (λ b. b == 42) (drop c.args.from l)) c.self.view_is
