use Rattle.std.proofs.Common.{ap, ◌∙◌}
use Rattle.target_match.specs.Holds.{decision_by_id}
use Rattle.target_match.proofs.matcher.Matcher.holds_id.Goals as goal

pub returns : goal.returns
returns c = λ grains pillar.
    c.by_id.ensures grains pillar ∙ ap (λ t. decision_by_id t c.as_bytes.result.now grains pillar) c.self.view_is
    ∙ ap (λ i. decision_by_id c.args.self.now i grains pillar) c.as_bytes.ensures.value
