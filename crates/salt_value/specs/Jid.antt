-- Job ids: microseconds since 1970-01-01 UTC, and their text of 20 digits.
use Rattle.std.specs.Prelude.{ℕ, ◌+◌, ◌-◌, ◌*◌, ◌/◌, ◌%◌, nat_le, max, List, [], ◌∷◌, ◌++◌, Option, None, Some, if◌then◌else◌}

-- the greatest one, 9999-12-31 23:59:59.999999
abbrev pub greatest_jid : ℕ
greatest_jid = 253402300799999999

-- the greater of the moment and the last one plus 1
abbrev pub jid_after : Option ℕ → ℕ → ℕ
jid_after None moment = moment
jid_after (Some last) moment = max moment (last + 1)

-- none where that passes the greatest
abbrev pub next_jid : Option ℕ → ℕ → Option ℕ
next_jid last moment = let next = jid_after last moment in if nat_le next greatest_jid then Some next else None

-- the last two decimal digits of a number
abbrev pub two_digits : ℕ → List ℕ
two_digits n = (48 + n / 10 % 10) ∷ (48 + n % 10) ∷ []

-- the last four
abbrev pub four_digits : ℕ → List ℕ
four_digits n = two_digits (n / 100) ++ two_digits n

-- the last six
abbrev pub six_digits : ℕ → List ℕ
six_digits n = two_digits (n / 10000) ++ four_digits n

-- YYYYMMDD
abbrev pub year_month_day : ℕ → ℕ → ℕ → List ℕ
year_month_day year month day = four_digits year ++ two_digits month ++ two_digits day

-- hhmmssffffff, of so many microseconds since midnight
abbrev pub clock_text : ℕ → List ℕ
clock_text micros =
    two_digits (micros / 3600000000) ++ two_digits (micros / 60000000 % 60)
    ++ two_digits (micros / 1000000 % 60) ++ six_digits (micros % 1000000)

-- a year, a month from 1 to 12 and a day of it from 1 to 31
pub record Civil : Type 0 where
  pub year : ℕ
  pub month : ℕ
  pub day : ℕ

-- ---- the civil date of a day, which is counted from 1970-01-01. Years begin on 1 March here, so that a leap day comes last

-- the quarters of days since 1 March of the year 0, and three: four centuries have 146097 days, so a century has as many quarters
abbrev pub quarters : ℕ → ℕ
quarters day = 4 * (day + 719468) + 3

-- the quarters of days since the century began, of whole days, and three: a year has 1461 quarters
abbrev pub century_quarters : ℕ → ℕ
century_quarters day = quarters day % 146097 / 4 * 4 + 3

-- the year that began on the last 1 March
abbrev pub march_year : ℕ → ℕ
march_year day = 100 * (quarters day / 146097) + century_quarters day / 1461

-- the days since that 1 March
abbrev pub day_of_march_year : ℕ → ℕ
day_of_march_year day = century_quarters day % 1461 / 4

-- the month of a day of such a year, from 3 for March to 14 for February
abbrev pub march_month : ℕ → ℕ
march_month n = (5 * n + 461) / 153

-- the day of that month, from 1
abbrev pub day_of_month : ℕ → ℕ
day_of_month n = (5 * n + 461) % 153 / 5 + 1

-- the date of a day of such a year; January and February are of the next civil year
abbrev pub civil_of : ℕ → ℕ → Civil
civil_of year n =
    if nat_le (march_month n) 12 then record { year = year; month = march_month n; day = day_of_month n }
    else record { year = year + 1; month = march_month n - 12; day = day_of_month n }

-- the date of a day
unfoldable pub civil : ℕ → Civil
civil day = civil_of (march_year day) (day_of_march_year day)

-- the text of a job id, whose meaning Calendar.antt tells
unfoldable pub jid_text : ℕ → List ℕ
jid_text micros =
    let date = civil (micros / 86400000000) in
    year_month_day date.year date.month date.day ++ clock_text (micros % 86400000000)
