use Rattle.std.proofs.Common.{◌≡◌, ◌≤◌, length}
use denote.Text.{Utf8}
use denote.Shadow.{shadow}
use Rattle.yaml_words.specs.Quotes.{after_quote}
use Rattle.yaml_words.proofs.quotes.after_quote.Given as goal

abbrev pub invariant-pieces : goal.invariant-pieces
invariant-pieces l = shadow (Utf8 l.rest) × (length l.rest ≤ length l.text) × (after_quote l.quote l.rest ≡ after_quote l.quote l.text)

abbrev pub decreases-pieces : goal.decreases-pieces
decreases-pieces l = length l.rest
