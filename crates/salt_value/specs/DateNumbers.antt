-- The numbers that a text of 20 bytes tells at the places of a job id's text, be they digits or not. No public contract cites it.
use Rattle.std.specs.Prelude.{ℕ, ◌+◌, ◌-◌, ◌*◌, List, slice_index}
use Rattle.salt_value.specs.Jid.{Civil}

-- the number of the digit at a place
abbrev pub digit : List ℕ → ℕ → ℕ
digit text i = slice_index text i - 48

-- the number of the two digits from a place on
abbrev pub two_at : List ℕ → ℕ → ℕ
two_at text i = 10 * digit text i + digit text (i + 1)

-- the date that the first eight tell
unfoldable pub date_told : List ℕ → Civil
date_told text = record { year = 100 * two_at text 0 + two_at text 2; month = two_at text 4; day = two_at text 6 }

-- the microseconds since midnight that the other twelve tell
unfoldable pub clock_told : List ℕ → ℕ
clock_told text =
    two_at text 8 * 3600000000 + two_at text 10 * 60000000 + two_at text 12 * 1000000
    + two_at text 14 * 10000 + two_at text 16 * 100 + two_at text 18
