use Rattle.std.proofs.Common.{◌≡◌, false, [], ◌∷◌, ◌++◌, Some, bytes_eq, sym, ap, subst, ◌∙◌}
use Rattle.std.specs.Prelude.{slice_index_or}
use Rattle.std.specs.List.{list_any}
use Rattle.regex.specs.Strings.{regex_source}
use Rattle.target_match.specs.Searches.{Keeps}
use Rattle.target_match.proofs.Keeping as K
use Rattle.target_match.proofs.search.made.Goals as goal

pub returns-in-Some-clause-same : goal.returns-in-Some-clause-same
returns-in-Some-clause-same c =
    sym (ap (λ l. slice_index_or l c.in-Some.place []) c.as_slice.ensures.value)
    ∙ (K.found c.as_str.result.now c.as_slice.result.now c.in-Some.place (sym c.place_of.ensures ∙ c.in-Some.is)).1
    ∙ c.as_str.ensures

pub returns-in_err-push-in-None-clause-searches : goal.returns-in_err-push-in-None-clause-searches
returns-in_err-push-in-None-clause-searches c =
    let leaves = Some (regex_source c.args.regex.now) ∷ [] in
    let old = c.args.searches.now.items in
    subst (λ xs. Keeps leaves old xs) (sym c.in_err-push-in-None.ensures.items) (K.same leaves old)

pub returns-in_ok-push-in-None-clause-searches : goal.returns-in_ok-push-in-None-clause-searches
returns-in_ok-push-in-None-clause-searches c =
    let pattern = regex_source c.args.regex.now in
    let old = c.args.searches.now.items in
    let none : list_any (bytes_eq pattern) old ≡ false =
    sym (ap (λ l. list_any (bytes_eq pattern) l) c.as_slice.ensures.value)
    ∙ sym (ap (λ p. list_any (bytes_eq p) c.as_slice.result.now) c.as_str.ensures)
    ∙ K.none_found (bytes_eq c.as_str.result.now) c.as_slice.result.now (sym c.place_of.ensures ∙ c.in-None.is) in
    subst (λ xs. Keeps (Some pattern ∷ []) old xs)
    (sym (c.in_ok-push-in-None.ensures.items ∙ ap (λ s. old ++ s ∷ []) c.in_ok-new-in-None.ensures))
    (K.made pattern old none)
