use Rattle.std.proofs.Common.{◌-◌, take, drop, sym, ap, ◌∙◌}
use Rattle.std.specs.Prelude.{slice_range}
use Rattle.salt_glob.proofs.Folds.{folded-take, folded-drop}
use Rattle.salt_glob.proofs.folded.Folded.part.Goals as goal

pub returns : goal.returns
returns c =
    let s = c.self.inside in
    sym (folded-take s.is_caseless (c.args.to - c.args.from) (drop c.args.from s.bytes.now))
    ∙ ap (take (c.args.to - c.args.from)) (sym (folded-drop s.is_caseless c.args.from s.bytes.now)) ∙ ap (λ l. slice_range l c.args.from c.args.to) c.self.view_is
