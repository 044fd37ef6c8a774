use Rattle.std.proofs.Common.{◌≡◌, ◌∙◌, ap, sym, length}
use Rattle.std.proofs.lemmas.Bool.{eqb-true}
use Rattle.yaml_words.specs.declared.places.Delimiter.TheVariants.{Feed}
use Rattle.yaml_words.specs.Places.{place}
use Rattle.yaml_subset.proofs.Feeds.{last_cut, more_cut}
use Rattle.yaml_subset.proofs.lines.next_line.Goals as goal

pub returns-then-is_empty-clause-lines : goal.returns-then-is_empty-clause-lines
returns-then-is_empty-clause-lines c =
    let zero_left : length c.split_at.result.1.now ≡ 0 = eqb-true _ _ (sym c.is_empty.ensures ∙ c.if-is_empty.true) in
    last_cut c.args.text.now c.split_at.result.0.now c.split_at.result.1.now c.place-at.result c.requires
    (c.place-at.ensures.value ∙ ap (place Feed) c.as_bytes.ensures.value) c.split_at.ensures.front c.split_at.ensures.back zero_left

pub returns-clause-lines : goal.returns-clause-lines
returns-clause-lines c =
    more_cut c.args.text.now c.split_at.result.0.now c.split_at.result.1.now c.without_first.result.now c.place-at.result c.requires
    (c.place-at.ensures.value ∙ ap (place Feed) c.as_bytes.ensures.value) c.split_at.ensures.front c.split_at.ensures.back c.without_first.ensures
