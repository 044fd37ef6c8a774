use Rattle.std.proofs.Common.{arith, ◌≡◌, ◌≤◌, ◌+◌, ◌*◌, ℕ, ℤ, pos, true, is_ok, Result, Err, false, to_z, w16, w8, sym, ap, ◌∙◌}
use Rattle.std.proofs.lemmas.Int.{ints}
use Rattle.jiff_core.proofs.SignedLemmas.{signed_arith}
use Rattle.jiff_core.specs.declared.civil.date.Date.{Date}
use Rattle.jiff_core.specs.Calendar.{IsDate}
use Rattle.salt_value.specs.DateNumbers.{date_told}
use Rattle.salt_value.proofs.JidLaws.{day_high}
use Rattle.salt_value.proofs.jid.date_told.Goals as goal

-- a small number keeps its value as a signed one
same_16 : (n : ℕ) → n ≤ 9999 → to_z w16 n ≡ pos n
same_16 n h = grind (arith, ints)

same_8 : (n : ℕ) → n ≤ 31 → to_z w8 n ≡ pos n
same_8 n h = grind (arith, ints)

err_not_ok : {T E : Type 0} (r : Result T E) (e : E) → r ≡ Err e → is_ok r ≡ true → ⊥
err_not_ok r e h k = let both : false ≡ true = sym (ap is_ok h) ∙ k in cc

-- the calendar has each date's parts
is_date : (d : Date) (year month day : ℤ) → d.year ≡ year → pos d.month ≡ month → pos d.day ≡ day → IsDate year month day
is_date d year month day e f g =
    rw (← e, ← f, ← g)
    (d.year_in, (omega (arith, signed_arith, d.month_in.0), omega (arith, signed_arith, d.month_in.1)), (omega (arith, signed_arith, d.day_in.0), omega (arith, signed_arith, d.day_in.1)))

pub returns-then-year-gt9999-clause-none : goal.returns-then-year-gt9999-clause-none
unfolding date_told
returns-then-year-gt9999-clause-none c = λ d h. absurd (omega (arith, signed_arith, d.year_in.1, h.0))

pub returns-then-month-gt12-clause-none : goal.returns-then-month-gt12-clause-none
unfolding date_told
returns-then-month-gt12-clause-none c = λ d h. absurd (omega (arith, d.month_in.1, h.1))

pub returns-then-day-gt31-clause-none : goal.returns-then-day-gt31-clause-none
unfolding date_told
returns-then-day-gt31-clause-none c = λ d h. absurd (omega (arith, day_high d, h.2))

pub returns-in-Ok-clause-some : goal.returns-in-Ok-clause-some
unfolding date_told
returns-in-Ok-clause-some c =
    let is = c.in-Ok.ensures.value in
    let year = same_16 (100 * c.two_at.result + c.two_at-2.result) c.if-year-gt9999.false in
    let month = same_8 c.two_at-month.result (omega arith) in
    let day = same_8 c.two_at-day.result c.if-day-gt31.false in
    (omega (arith, signed_arith, is.0 ∙ year), omega (arith, signed_arith, is.1 ∙ month), omega (arith, signed_arith, is.2 ∙ day))

pub returns-in-Err-clause-none : goal.returns-in-Err-clause-none
unfolding date_told
returns-in-Err-clause-none c = λ d h.
    let year = same_16 (100 * c.two_at.result + c.two_at-2.result) c.if-year-gt9999.false in
    let month = same_8 c.two_at-month.result (omega arith) in
    let day = same_8 c.two_at-day.result c.if-day-gt31.false in
    let same_year : pos (100 * c.two_at.result + c.two_at-2.result) ≡ d.year = rw (c.two_at.ensures.value, c.two_at-2.ensures.value) (sym h.0) in
    let same_month : pos c.two_at-month.result ≡ pos d.month = rw c.two_at-month.ensures.value (ap pos (sym h.1)) in
    let same_day : pos c.two_at-day.result ≡ pos d.day = rw c.two_at-day.ensures.value (ap pos (sym h.2)) in
    let ok : is_ok c.new.result ≡ true = c.new.ensures.succeeds.1 (is_date d _ _ _ (sym (year ∙ same_year)) (sym (month ∙ same_month)) (sym (day ∙ same_day))) in
    err_not_ok c.new.result c.in-Err.field-0 c.in-Err.is ok
