use Rattle.std.proofs.Common.{◌≡◌, ◌∙◌, true, false, sym, arith, drop, get_or, ◌<◌}
use Rattle.std.proofs.lemmas.List.{take_rest}
use Rattle.yaml_words.specs.Places.{is_at}
use Rattle.yaml_words.proofs.PlaceLemmas.{place_passes, place_met, ascii_here}
use Rattle.yaml_words.proofs.places.place.Goals as goal

pub loop-at-preserved : goal.loop-at-preserved
loop-at-preserved c =
    let here : is_at c.args.delimiter (drop c.loop-at.at c.args.text.now) ≡ false = rw (take_rest c.args.text.now c.loop-at.at) at (sym c.is_at.ensures ∙ c.if-is_at.false) in
    let step = place_passes c.args.delimiter c.args.text.now c.loop-at.at c.loop-at-test.true here in
    omega (arith, c.loop-at.invariant, step)

pub returns-then-is_at : goal.returns-then-is_at
returns-then-is_at c =
    let here : is_at c.args.delimiter (drop c.loop-at.at c.args.text.now) ≡ true = rw (take_rest c.args.text.now c.loop-at.at) at (sym c.is_at.ensures ∙ c.if-is_at.true) in
    let met = place_met c.args.delimiter c.args.text.now c.loop-at.at c.loop-at-test.true here in
    let ascii : get_or c.args.text.now c.loop-at.at 0 < 128 = ascii_here c.args.delimiter c.args.text.now c.loop-at.at c.loop-at-test.true here in
    record {
      value = omega (arith, c.loop-at.invariant, met);
      within = omega arith;
      boundary = (omega arith, λ h big. absurd (omega arith));
      ascii = λ h. ascii;
    }
