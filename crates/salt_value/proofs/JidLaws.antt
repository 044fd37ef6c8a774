-- The date of a day in whole numbers is the calendar's date, and a text tells its own job id.
use Rattle.std.proofs.Common.{length, ◌≡◌, ℕ, suc, ◌+◌, ◌-◌, ◌*◌, ◌/◌, ◌%◌, ◌<◌, ◌≤◌, ◌++◌, List, Bool, true, false, refl, sym, ap, ◌∙◌, arith, ℤ, pos, unsigned_abs, to_z, of_z, w32}
use Rattle.std.specs.Prelude.{nat_le, if◌then◌else◌}
use Rattle.std.proofs.lemmas.Bool.Decides.{nat_tests}
use Rattle.jiff_core.specs.declared.civil.date.Date.{Date}
use Rattle.jiff_core.specs.Date.{epoch_day}
use Rattle.jiff_core.specs.March.{march_days, march_months}
use Rattle.jiff_core.specs.Calendar.{day_count, IsYear, IsCivilDate}
use Rattle.jiff_core.proofs.SignedLemmas.{signed_arith, back_small}
use Rattle.jiff_core.proofs.CalendarLemmas.{days_from_civil-day_count}
use Rattle.jiff_core.proofs.MarchLemmas.{leap_day, march_days-suc, day_count-late, day_count-early, month_and_day, day_in_month, day_in_early_month}
use Rattle.jiff_core.proofs.DateLemmas.{epoch_day_injective, epoch_day_same}
use Rattle.salt_value.specs.Jid.{Civil, year_month_day, clock_text, march_year, day_of_march_year, march_month, day_of_month, civil, jid_text, greatest_jid}
use Rattle.salt_value.specs.Calendar.{HasParts, date_text}
use Rattle.salt_value.specs.DateNumbers.{date_told, clock_told}

-- the years of the calculation, and their days
split : (day : ℕ) → march_days (march_year day) + day_of_march_year day ≡ day + 719468
split day = omega arith

within : (day : ℕ) → day + 719468 < march_days (march_year day + 1)
within day = omega arith

short : (day : ℕ) → day_of_march_year day < 366
short day = omega arith

ten_thousand_years : (y : ℕ) → march_days (y + 10000) ≡ march_days y + 3652425
ten_thousand_years y = omega arith

last_year : (y n day : ℕ) → march_days y + n ≡ day + 719468 → day ≤ 2932896 → y ≤ 9999
last_year y n day e h = omega arith

last_winter : (y n day : ℕ) → march_days y + n ≡ day + 719468 → day ≤ 2932896 → 306 ≤ n → y + 1 ≤ 9999
last_winter y n day e h k = omega arith

winter : (n : ℕ) → 12 < march_month n → 306 ≤ n
winter n h = omega arith

month_low : (n : ℕ) → 3 ≤ march_month n
month_low n = omega arith

month_high : (n : ℕ) → n < 366 → march_month n ≤ 14
month_high n h = omega arith

leap : (y n : ℕ) → march_days y + n < march_days (y + 1) → n < 365 + leap_day (pos (y + 1))
leap y n h = let next : y + 1 ≡ suc y = omega arith in rw next (omega (arith, march_days-suc y, rw next at h))

epoch_of : (d : Date) (day : ℕ) → day_count d.year d.month d.day ≡ day + 4371953 → epoch_day d ≡ pos day
epoch_of d day e = omega (arith, signed_arith, days_from_civil-day_count d.year d.month d.day)

late_count : (y n day : ℕ) → march_days y + n ≡ day + 719468 → n < 366 → march_month n ≤ 12
    → day_count (pos y) (march_month n) (day_of_month n) ≡ day + 4371953
late_count y n day e h k =
    omega (
      arith,
      ten_thousand_years y,
      month_and_day n h,
      month_low n,
      day_count-late (pos y) (y + 10000) (march_month n) (day_of_month n) (omega (arith, signed_arith)) (month_low n) k (omega arith),
    )

early_count : (y n day : ℕ) → march_days y + n ≡ day + 719468 → n < 366 → 12 < march_month n
    → day_count (pos (y + 1)) (march_month n - 12) (day_of_month n) ≡ day + 4371953
early_count y n day e h k =
    let month : march_month n - 12 + 12 ≡ march_month n = omega arith in
    omega (
      arith,
      ten_thousand_years y,
      month_and_day n h,
      ap march_months month,
      day_count-early (pos (y + 1)) (y + 10000) (march_month n - 12) (day_of_month n) (omega (arith, signed_arith)) (omega arith) (omega (arith, month_high n h)) (omega arith),
    )

-- a date of the calendar for a year of the calculation and a day of it
abbrev IsDated : ℕ → Civil → Type 0
IsDated day c = (d : Date) × (epoch_day d ≡ pos day) × HasParts d c

year_in : (y : ℕ) → y ≤ 9999 → IsYear (pos y)
year_in y h = (omega (arith, signed_arith), omega (arith, signed_arith))

dated : (year month of_month day : ℕ) → IsCivilDate (pos year) month of_month → day_count (pos year) month of_month ≡ day + 4371953
    → IsDated day (record { year = year; month = month; day = of_month })
dated year month of_month day h e =
    let d : Date = record { year = pos year; month = month; day = of_month; year_in = h.0; month_in = h.1; day_in = h.2 } in
    (d, epoch_of d day e, (refl, refl, refl))

dated_late : (y n day : ℕ) → march_days y + n ≡ day + 719468 → day ≤ 2932896 → n < 366 → march_month n ≤ 12
    → IsDated day (record { year = y; month = march_month n; day = day_of_month n })
dated_late y n day e h k late =
    dated y (march_month n) (day_of_month n) day
    (year_in y (last_year y n day e h), (omega (arith, month_low n), late), (omega arith, day_in_month (pos y) n late))
    (late_count y n day e k late)

dated_early : (y n day : ℕ) → march_days y + n ≡ day + 719468 → day + 719468 < march_days (y + 1) → day ≤ 2932896 → n < 366 → 12 < march_month n
    → IsDated day (record { year = y + 1; month = march_month n - 12; day = day_of_month n })
dated_early y n day e w h k early =
    dated (y + 1) (march_month n - 12) (day_of_month n) day (
      year_in (y + 1) (last_winter y n day e h (winter n early)),
      (omega arith, omega (arith, month_high n k)),
      (omega arith, day_in_early_month (pos (y + 1)) n early (leap y n (omega arith))),
    )
    (early_count y n day e k early)

dated_of : (y n day : ℕ) → march_days y + n ≡ day + 719468 → day + 719468 < march_days (y + 1) → day ≤ 2932896 → n < 366 → (late : Bool) → nat_le (march_month n) 12 ≡ late
    → IsDated day (if late then record { year = y; month = march_month n; day = day_of_month n } else record { year = y + 1; month = march_month n - 12; day = day_of_month n })
dated_of y n day e w h k true is = dated_late y n day e h k (grind (arith, nat_tests))
dated_of y n day e w h k false is = dated_early y n day e w h k (grind (arith, nat_tests))

-- the date in whole numbers is a date of the calendar
civil_date : (day : ℕ) → day ≤ 2932896 → IsDated day (civil day)
unfolding civil
civil_date day h = dated_of (march_year day) (day_of_march_year day) day (split day) (within day) h (short day) _ refl

-- and so the date that lies so many days after 1970-01-01 has those parts
pub parts_of : (d : Date) (day : ℕ) → day ≤ 2932896 → epoch_day d ≡ pos day → HasParts d (civil day)
parts_of d day h e =
    let made = civil_date day h in
    let same = epoch_day_injective d made.0 (e ∙ sym made.1) in
    (same.0 ∙ made.2.0, same.1 ∙ made.2.1, same.2 ∙ made.2.2)

same_text : (d : Date) (c : Civil) → HasParts d c → date_text d ≡ year_month_day c.year c.month c.day
same_text d c h = rw (h.0, h.1, h.2) refl

-- the text of a job id names that date and the time on it
pub jid_text_of : (d : Date) (micros : ℕ) → micros ≤ greatest_jid → epoch_day d ≡ pos (micros / 86400000000)
    → date_text d ++ clock_text (micros % 86400000000) ≡ jid_text micros
unfolding jid_text
jid_text_of d micros h e =
    let low : micros / 86400000000 ≤ 2932896 = omega arith in
    ap (λ (xs : List ℕ). xs ++ clock_text (micros % 86400000000)) (same_text d (civil (micros / 86400000000)) (parts_of d (micros / 86400000000) low e))

pair_of : (n : ℕ) → 10 * (48 + n / 10 % 10 - 48) + (48 + n % 10 - 48) ≡ n % 100
pair_of n = omega arith

year_of : (n : ℕ) → n < 10000 → 100 * (n / 100 % 100) + n % 100 ≡ n
year_of n h = omega arith

small : (n : ℕ) → n < 100 → n % 100 ≡ n
small n h = omega arith

time_of : (m : ℕ) → m < 86400000000 →
    m / 3600000000 % 100 * 3600000000 + m / 60000000 % 60 % 100 * 60000000 + m / 1000000 % 60 % 100 * 1000000
    + m % 1000000 / 10000 % 100 * 10000 + m % 1000000 / 100 % 100 * 100 + m % 1000000 % 100 ≡ m
time_of m h = omega arith

-- a text tells its date again
date_back : (c : Civil) (m : ℕ) → c.year < 10000 → c.month < 100 → c.day < 100
    → date_told (year_month_day c.year c.month c.day ++ clock_text m) ≡ c
unfolding date_told
date_back c m y o a =
    rw (pair_of (c.year / 100), pair_of c.year, year_of c.year y, pair_of c.month, small c.month o, pair_of c.day, small c.day a) refl

-- and its time
clock_back : (y o a m : ℕ) → m < 86400000000 → clock_told (year_month_day y o a ++ clock_text m) ≡ m
unfolding clock_told
clock_back y o a m h =
    rw (
      pair_of (m / 3600000000),
      pair_of (m / 60000000 % 60),
      pair_of (m / 1000000 % 60),
      pair_of (m % 1000000 / 10000),
      pair_of (m % 1000000 / 100),
      pair_of (m % 1000000),
    )
    (time_of m h)

-- what a job id's text tells: the calendar's date of its day, and the time on it
pub record Tells (micros : ℕ) (text : List ℕ) : Type 0 where
  pub date : Date
  pub epoch : epoch_day date ≡ pos (micros / 86400000000)
  pub parts : HasParts date (date_told text)
  pub clock : clock_told text ≡ micros % 86400000000
  pub long : length text ≡ 20

small_year : (d : Date) (y : ℕ) → d.year ≡ pos y → y < 10000
small_year d y e = omega (arith, signed_arith, d.year_in.0, d.year_in.1)

small_month : (d : Date) (m : ℕ) → d.month ≡ m → m < 100
small_month d m e = omega (arith, d.month_in.1)

pub day_high : (d : Date) → d.day ≤ 31
day_high d = grind (arith, nat_tests, d.day_in.1)

pub tells : (micros : ℕ) (text : List ℕ) → micros ≤ greatest_jid → jid_text micros ≡ text → Tells micros text
unfolding jid_text
tells micros text h e =
    let day = micros / 86400000000 in
    let c = civil day in
    let made = civil_date day (omega arith) in
    let y : c.year < 10000 = small_year made.0 c.year made.2.0 in
    let o : c.month < 100 = small_month made.0 c.month made.2.1 in
    let a : c.day < 100 = omega (arith, day_high made.0, made.2.2) in
    let told : c ≡ date_told text = sym (date_back c (micros % 86400000000) y o a) ∙ ap date_told e in
    record {
      date = made.0;
      epoch = made.1;
      parts = (made.2.0 ∙ ap (λ (x : Civil). pos x.year) told, made.2.1 ∙ ap (λ (x : Civil). x.month) told, made.2.2 ∙ ap (λ (x : Civil). x.day) told);
      clock = ap clock_told (sym e) ∙ clock_back c.year c.month c.day (micros % 86400000000) (omega arith);
      long = ap length (sym e);
    }

-- the date with the parts that a job id's text tells is its day, and the clock tells the rest
pub told_day : (micros : ℕ) (text : List ℕ) (d : Date) → micros ≤ greatest_jid → jid_text micros ≡ text → HasParts d (date_told text)
    → epoch_day d ≡ pos (micros / 86400000000)
told_day micros text d h e parts =
    let t = tells micros text h e in
    epoch_day_same d t.date (parts.0 ∙ sym t.parts.0) (parts.1 ∙ sym t.parts.1) (parts.2 ∙ sym t.parts.2) ∙ t.epoch

-- so the number that is read is the job id
pub joined : (days : ℤ) (clock micros : ℕ) → micros ≤ greatest_jid → days ≡ pos (micros / 86400000000) → clock ≡ micros % 86400000000
    → unsigned_abs (to_z w32 (of_z w32 days)) * 86400000000 + clock ≡ micros
joined days clock micros h e k =
    let low : micros / 86400000000 ≤ 2932896 = omega arith in
    let back : to_z w32 (of_z w32 (pos (micros / 86400000000))) ≡ pos (micros / 86400000000) = back_small w32 (pos (micros / 86400000000)) (omega arith) in
    rw (e, back, k) (omega arith)

pub told_same : (text : List ℕ) (d : Date) (days : ℤ) (clock : ℕ) → HasParts d (date_told text) → days ≡ epoch_day d → clock ≡ clock_told text
    → (micros : ℕ) → micros ≤ greatest_jid → jid_text micros ≡ text
    → unsigned_abs (to_z w32 (of_z w32 days)) * 86400000000 + clock ≡ micros
told_same text d days clock parts e k micros h spelled =
    joined days clock micros h (e ∙ told_day micros text d h spelled parts) (k ∙ (tells micros text h spelled).clock)
