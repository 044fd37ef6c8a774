use Rattle.std.proofs.Common.{◌∙◌, ap}
use Rattle.yaml_words.specs.declared.places.Delimiter.TheVariants.{Special}
use Rattle.yaml_words.specs.Places.{place}
use Rattle.yaml_words.proofs.PlaceLemmas.{place_cut}
use Rattle.yaml_words.proofs.QuoteLemmas.{parts_of}
use Rattle.yaml_words.proofs.quotes.piece.Goals as goal

pub returns-clause-parts : goal.returns-clause-parts
returns-clause-parts c =
    parts_of c.args.quote c.args.text.now _ _ c.place.result (c.place.ensures.value ∙ ap (place (Special c.args.quote)) c.as_bytes.ensures.value) c.split_at.ensures.front c.split_at.ensures.back

pub returns-clause-ends : goal.returns-clause-ends
returns-clause-ends c =
    place_cut (Special c.args.quote) c.args.text.now _ c.place.result (c.place.ensures.value ∙ ap (place (Special c.args.quote)) c.as_bytes.ensures.value) c.split_at.ensures.back
