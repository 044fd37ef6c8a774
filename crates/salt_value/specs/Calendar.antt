-- What the text of a job id means: a civil date and a time of the day, in UTC.
use Rattle.std.specs.Prelude.{◌≡◌, ℕ, ◌/◌, ◌%◌, List, ◌++◌, pos, unsigned_abs}
use Rattle.jiff_core.specs.Date.{epoch_day}
use Rattle.jiff_core.specs.declared.civil.date.Date.{Date}
use Rattle.salt_value.specs.Jid.{Civil, year_month_day, clock_text}

-- YYYYMMDD of a date of the Gregorian calendar
abbrev pub date_text : Date → List ℕ
date_text d = year_month_day (unsigned_abs d.year) d.month d.day

-- the text names the date that lies so many whole days after 1970-01-01, and the time on it
abbrev pub IsJidText : ℕ → List ℕ → Type 0
IsJidText micros text =
    (d : Date) × (epoch_day d ≡ pos (micros / 86400000000)) × (text ≡ date_text d ++ clock_text (micros % 86400000000))

-- the date has this year, month and day
abbrev pub HasParts : Date → Civil → Type 0
HasParts d c = (d.year ≡ pos c.year) × (d.month ≡ c.month) × (d.day ≡ c.day)
