use Rattle.std.proofs.Common.{◌≡◌, length}
use Rattle.std.specs.Prelude.{string_bytes}
use denote.Text.{Utf8}
use denote.Shadow.{shadow}
use Rattle.yaml_words.specs.Quotes.{quoted, with_text}
use Rattle.yaml_words.proofs.quotes.unquoted.Given as goal

abbrev pub invariant-pieces : goal.invariant-pieces
invariant-pieces l = shadow (Utf8 l.rest) × (with_text (string_bytes l.out) (quoted l.quote l.rest) ≡ quoted l.quote l.text)

abbrev pub decreases-pieces : goal.decreases-pieces
decreases-pieces l = length l.rest
