-- What is written is read again, and bytes are those of one record at most.
use Rattle.std.specs.Prelude.{◌≡◌, ℕ, List, Option, Some, Result, IfOk}
use Rattle.std.specs.declared.alloc.AllocError.{AllocError}
use Rattle.salt_wire.specs.declared.deed.Deed.{Deed}
use Rattle.journal_records.specs.Spelling.{record_bytes}
use Rattle.journal_records.specs.Limits.{RecordFits}

-- the record within its limits that has these bytes is answered, unless memory runs out
abbrev pub AnswersRecord : List ℕ → Result (Option Deed) AllocError → Type 0
AnswersRecord bytes result = (deed : Deed) → RecordFits deed → bytes ≡ record_bytes deed → IfOk result (λ found. found ≡ Some deed)

-- two records within their limits that have the same bytes are the same
abbrev pub HasOneRecord : Type 0
HasOneRecord = (one other : Deed) → RecordFits one → RecordFits other → record_bytes one ≡ record_bytes other → one ≡ other
