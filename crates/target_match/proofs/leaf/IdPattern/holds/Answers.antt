use Rattle.std.proofs.Common.{[], ◌∙◌}
use Rattle.std.proofs.lemmas.List.{get_or_default}
use Rattle.target_match.proofs.Asking as A
use Rattle.target_match.proofs.leaf.IdPattern.holds.Goals as goal

pub returns-clause-asked : goal.returns-clause-asked
returns-clause-asked c =
    A.there c.args.self.now c.made.new.searches.items c.in_ok-place.place c.starts.new.self c.index_mut-search.result.now c.in_ok-place.ensures.within c.starts.ensures.kept
    (c.index_mut-search.ensures.value ∙ get_or_default _ _ _ [] c.in_ok-place.ensures.within) (c.in_ok-place.ensures.same ∙ c.self.view_is)
