use Rattle.yaml_words.proofs.QuoteLemmas.{piece_more}
use Rattle.std.proofs.Common.{◌∙◌, ap, ◌++◌, rules}
use Rattle.std.specs.Prelude.{string_bytes}
use Rattle.yaml_words.proofs.quotes.unquoted.Goals as goal

pub pieces-preserved : goal.pieces-preserved
pieces-preserved c = (
  search rules,
  piece_more _ _ _ _ _ _ _ _ _ c.pieces.invariant.1 c.piece.ensures.parts c.in-Some.ensures.parts c.in_ok-push_str.ensures.bytes
      (c.in_ok-push-in-Some.ensures.bytes ∙ ap (λ t. string_bytes c.push_str.new.self ++ t) (c.in_ok-push-in-Some.ensures.ascii c.in-Some.ensures.shorter.1)),
)
