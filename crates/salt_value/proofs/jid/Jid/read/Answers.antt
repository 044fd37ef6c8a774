use Rattle.std.proofs.Common.{◌≡◌, ◌∙◌, true, false, Bool, sym, ap, arith}
use Rattle.std.proofs.lemmas.Slice.Eq.{slice_eq-Decides}
use Rattle.std.proofs.lemmas.Bool.Decides.{Decides-eqb}
use Rattle.jiff_core.proofs.SignedLemmas.{signed_arith}
use Rattle.salt_value.specs.Jid.{jid_text}
use Rattle.salt_value.proofs.JidLaws.{tells, told_day, told_same}
use Rattle.salt_value.proofs.jid.Jid.read.Goals as goal

pub returns-then-text-ne20 : goal.returns-then-text-ne20
returns-then-text-ne20 c = λ micros h e. c.if-text-ne20.true (tells micros c.args.text.now h e).long

pub returns-in-None : goal.returns-in-None
returns-in-None c = λ micros h e. let t = tells micros c.args.text.now h e in c.in-None.ensures.none t.date t.parts

pub returns-then-days-lt0 : goal.returns-then-days-lt0
returns-then-days-lt0 c = λ micros h e.
    let day = told_day micros c.args.text.now c.in-Some.date h e c.in-Some.ensures.some in
    absurd (omega (arith, signed_arith, c.to_unix_epoch_day-days.ensures.value ∙ day, c.if-days-lt0.true))

never : (b : Bool) → b ≡ false → b ≡ true → ⊥
never b e f = cc

pub returns-then-micros-gt-GREATEST : goal.returns-then-micros-gt-GREATEST
returns-then-micros-gt-GREATEST c = λ micros h e. absurd (omega (arith, told_same c.args.text.now c.in-Some.date c.to_unix_epoch_day-days.result c.clock_told.result c.in-Some.ensures.some c.to_unix_epoch_day-days.ensures.value c.clock_told.ensures.value micros h e, h, c.if-micros-gt-GREATEST.true))

pub returns-else-eq : goal.returns-else-eq
returns-else-eq c = λ micros h e.
    let told = slice_eq-Decides Decides-eqb c.as_slice.result.now c.args.text.now c.eq.result c.eq.ensures in
    never c.eq.result c.if-eq.false (told.1 (c.as_slice.ensures ∙ c.text.ensures.value ∙ ap jid_text (told_same c.args.text.now c.in-Some.date c.to_unix_epoch_day-days.result c.clock_told.result c.in-Some.ensures.some c.to_unix_epoch_day-days.ensures.value c.clock_told.ensures.value micros h e) ∙ e))

pub returns-then-eq : goal.returns-then-eq
returns-then-eq c =
    let told = slice_eq-Decides Decides-eqb c.as_slice.result.now c.args.text.now c.eq.result c.eq.ensures in
    (c.if-micros-gt-GREATEST.false, sym c.text.ensures.value ∙ sym c.as_slice.ensures ∙ told.0 c.if-eq.true, λ y h e. sym (told_same c.args.text.now c.in-Some.date c.to_unix_epoch_day-days.result c.clock_told.result c.in-Some.ensures.some c.to_unix_epoch_day-days.ensures.value c.clock_told.ensures.value y h e))
