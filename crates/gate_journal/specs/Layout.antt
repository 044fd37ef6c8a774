-- The layout of a part: the name, the limits, the places and lengths in bytes, and the bytes of a gate.
use Rattle.std.specs.Prelude.{ℕ, List, codes}

-- the name of the format, with which each journal begins
abbrev pub journal_name : List ℕ
journal_name = codes "SALTJNL1"

-- the least limit of a journal
abbrev pub least_limit : ℕ
least_limit = 64

-- the greatest limit of a journal
abbrev pub greatest_limit : ℕ
greatest_limit = 1073741824

-- the place of the first gate, right behind the header
abbrev pub first_gate : ℕ
first_gate = 16

-- the length of a journal without payloads: its header and a closed gate
abbrev pub fresh_length : ℕ
fresh_length = 17

-- what a record has beside its payload: its gate and the payload's length
abbrev pub record_overhead : ℕ
record_overhead = 5

-- the byte of an open gate: a gate with any other byte is closed
abbrev pub open_gate : ℕ
open_gate = 1

-- the byte of a closed gate, as it is written
abbrev pub closed_gate : ℕ
closed_gate = 0
