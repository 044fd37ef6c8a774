use Rattle.std.proofs.Common.{rules, ◌≡◌, ◌∷◌, ◌++◌, [], true, sym, ap, ◌∙◌}
use Rattle.target_match.specs.Paths.{parts, is_key_name, path_of, after_path}
use Rattle.target_match.proofs.Splits.{path-more, after-more, after-stop, after-end, path-push, pattern-whole}
use Rattle.target_match.proofs.parts.path_and_pattern.Goals.{in-Some+then-not-is_name, in_default}
use Rattle.target_match.proofs.parts.path_and_pattern.Goals as goal

pub loop-part-preserved : goal.loop-part-preserved
loop-part-preserved c =
    let rest = c.loop-part.rest.now in
    let part = c.in-Some.part.now in
    let more = c.in-Some.more.now in
    let name : is_key_name part ≡ true = ap is_key_name (sym c.as_bytes.ensures.value) ∙ sym c.is_name.ensures ∙ c.if-not-is_name.false in
    let own = c.in_ok-owned.ensures in (
      search rules,
      path-push (path_of (parts c.args.text.now)) c.loop-part.path.items (path_of (parts more)) part
          (c.loop-part.invariant.1 ∙ ap (λ l. c.loop-part.path.items ++ l) (path-more rest part more c.in-Some.ensures.some name))
          ∙ ap (λ l. l ++ path_of (parts more)) (ap (λ t. c.loop-part.path.items ++ t ∷ []) (sym own) ∙ sym c.in_ok-push.ensures.items),
      c.loop-part.invariant.2 ∙ after-more rest part more c.in-Some.ensures.some name,
    )

pub returns-clause-pattern : goal.returns-clause-pattern
returns-clause-pattern c =
    let rest = c.loop-part.rest.now in
    let whole : after_path (parts rest) ≡ parts rest = elim c.match-split.branch [
      | in-Some+then-not-is_name w ↦ after-stop rest w.in-Some.part.now w.in-Some.more.now w.in-Some.ensures.some (ap is_key_name (sym w.as_bytes.ensures.value) ∙ sym w.is_name.ensures ∙ w.if-not-is_name.true)
      | in_default w ↦ after-end rest w.in_default.ensures.none
    ] in
    pattern-whole (parts c.args.text.now) rest c.loop-part.invariant.2 whole
