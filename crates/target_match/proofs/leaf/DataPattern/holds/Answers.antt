use Rattle.std.proofs.Common.{◌≡◌, [], sym, ap, ◌∙◌}
use Rattle.std.proofs.lemmas.List.{get_or_default}
use Rattle.target_match.specs.Paths.{parts, pattern_of}
use Rattle.target_match.specs.Patterns.{starts}
use Rattle.target_match.specs.Holds.{pattern_holds}
use Rattle.target_match.specs.Data.{map_reaches, reaches_pairs}
use Rattle.target_match.proofs.Meeting.{carried, pattern-holds}
use Rattle.target_match.proofs.Asking as A
use Rattle.target_match.proofs.leaf.DataPattern.holds.Goals as goal

pub returns-clause-ok : goal.returns-clause-ok
returns-clause-ok c =
    let fields = c.args.fields.now in
    let pattern = pattern_of (parts c.self.inside.text) in
    let source : c.index_mut-search.result.now ≡ pattern = c.index_mut-search.ensures.value ∙ get_or_default _ _ _ [] c.in_ok-place.ensures.within ∙ c.in_ok-place.ensures.same ∙ c.self.invariant.source in
    carried c.reaches.result _ _ c.reaches.ensures.ok
    (ap (λ p. map_reaches (starts p) (reaches_pairs (starts p) fields) c.as_slice.result.now) source
    ∙ ap (λ l. map_reaches (starts pattern) (reaches_pairs (starts pattern) fields) l) (c.as_slice.ensures.value ∙ c.self.invariant.path_is)
    ∙ sym (pattern-holds c.self.inside.text fields) ∙ ap (λ t. pattern_holds t fields) c.self.view_is)

pub returns-clause-asked : goal.returns-clause-asked
returns-clause-asked c =
    A.on_any c.reaches.result
    (A.there (pattern_of (parts c.args.self.now)) c.made.new.searches.items c.in_ok-place.place c.reaches.new.self c.index_mut-search.result.now c.in_ok-place.ensures.within c.reaches.ensures.kept
    (c.index_mut-search.ensures.value ∙ get_or_default _ _ _ [] c.in_ok-place.ensures.within)
    (c.in_ok-place.ensures.same ∙ c.self.invariant.source ∙ ap (λ t. pattern_of (parts t)) c.self.view_is))
