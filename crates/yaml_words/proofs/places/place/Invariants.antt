use Rattle.std.proofs.Common.{◌≡◌, ◌+◌, drop}
use Rattle.yaml_words.specs.Places.{place}
use Rattle.yaml_words.proofs.places.place.Given as goal

abbrev pub invariant-loop-at : goal.invariant-loop-at
invariant-loop-at l = place l.delimiter l.text ≡ l.at + place l.delimiter (drop l.at l.text)
