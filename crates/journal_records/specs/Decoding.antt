-- Decoding from left to right, as a function: what stands at the front of some bytes, and the bytes after it. No public contract cites it.
use Rattle.std.specs.Prelude.{◌≡◌, ℕ, ◌==◌, if◌then◌else◌, List, length, drop, Option, Some, None, Result, Ok, Err}
use Rattle.std.specs.Borrow.{Bor}
use Rattle.std.specs.Int.{w8, w32}
use Rattle.salt_value.specs.Readers.{Reader, ◌>>=◌, option_reader, several, Gives}
use Rattle.salt_value.specs.Decoding.{IsBytes, number_or, read_at}
use Rattle.salt_value.specs.declared.event.Event.{Event}
use Rattle.salt_value.specs.declared.fault.ValueFault.{ValueFault}
use Rattle.salt_value.specs.declared.value.Value.{Value}
use Rattle.salt_wire.specs.Decoding.{id_field, word_field, entry_field, job_field, value_pairs}
use Rattle.salt_wire.specs.declared.fault.Misread.{Misread}
use Rattle.salt_wire.specs.declared.fault.WireFault.{WireFault}
use Rattle.salt_wire.specs.declared.fault.WireFault.TheVariants as faults
use Rattle.salt_wire.specs.declared.deed.Changed.{Changed}
use Rattle.salt_wire.specs.declared.deed.ReactDeed.{ReactDeed}
use Rattle.salt_wire.specs.declared.deed.ReactDeed.TheVariants as r
use Rattle.salt_wire.specs.declared.deed.Deed.{Deed}
use Rattle.salt_wire.specs.declared.deed.Deed.TheVariants as d
use Rattle.journal_records.specs.Codes as code
use Rattle.journal_records.specs.Codes.{record_code, react_code, change_code}
use Rattle.journal_records.specs.Spelling.{record_bytes}
use Rattle.journal_records.specs.Limits.{RecordFits}
use Rattle.journal_records.specs.declared.fault.RecordFault.{RecordFault}
use Rattle.journal_records.specs.declared.fault.RecordFault.TheVariants.{NoMemory, NoRecord}

-- a part, and the bytes after it, as this reader gives them. No public contract cites it.
abbrev pub GivesPart : {A : Type 0} → Result (A × Bor (List ℕ)) RecordFault → Result (A × List ℕ) RecordFault → Type 0
GivesPart result read = Gives NoMemory (λ x. (x.0, x.1.now)) result read

-- ---- parts of messages, numbers and values, with the one fault of records

-- a fault of a message's field as one of a record. No public contract cites it.
abbrev pub part_fault : WireFault → RecordFault
part_fault faults.NoMemory = NoMemory
part_fault other = NoRecord

-- what a reader of messages gave. No public contract cites it.
abbrev pub in_record : {A : Type 0} → Result A Misread → Result A RecordFault
in_record (Ok x) = Ok x
in_record (Err e) = Err NoRecord

-- a field of a message. No public contract cites it.
unfoldable pub part : {A : Type 0} → Reader Misread A → Reader RecordFault A
part read bytes = in_record (read bytes)

-- a byte. No public contract cites it.
abbrev pub byte_part : Reader RecordFault ℕ
byte_part bytes = number_or w8 NoRecord bytes

-- a number of 32 bits. No public contract cites it.
abbrev pub number_part : Reader RecordFault ℕ
number_part bytes = number_or w32 NoRecord bytes

-- the value that was read, and the bytes after it. No public contract cites it.
abbrev pub read_value : List ℕ → Result (Value × ℕ) ValueFault → Result (Value × List ℕ) RecordFault
read_value bytes (Ok x) = Ok (x.0, drop x.1 bytes)
read_value bytes (Err e) = Err NoRecord

-- a value. No public contract cites it.
unfoldable pub value_part : Reader RecordFault Value
value_part bytes = read_value bytes (read_at bytes)

-- a value that is a map. No public contract cites it.
unfoldable pub fields_part : Reader RecordFault (List (List ℕ × Value))
fields_part bytes = do
  value ← value_part bytes
  option_reader NoRecord (value_pairs value.0) value.1

-- ---- parts of records

-- things one after the other, after their number. No public contract cites it.
unfoldable pub counted_part : {A : Type 0} → Reader RecordFault A → Reader RecordFault (List A)
counted_part item bytes = do
  count ← number_part bytes
  several item count.0 count.1

-- an event. No public contract cites it.
unfoldable pub event_part : Reader RecordFault Event
event_part bytes = do
  tag ← part word_field bytes
  body ← value_part tag.1
  Ok (record { tag = tag.0; body = body.0 }, body.1)

-- a job that a reaction gave. No public contract cites it.
unfoldable pub react_job_part : Reader RecordFault ReactDeed
react_job_part bytes = do
  job ← part job_field bytes
  Ok (r.Job job.0, job.1)

-- a reaction that was refused. No public contract cites it.
unfoldable pub refused_part : Reader RecordFault ReactDeed
refused_part bytes = do
  sls ← part id_field bytes
  cause ← byte_part sls.1
  Ok (r.Refused sls.0 cause.0, cause.1)

-- what stands after the tag of what a reaction gave. No public contract cites it.
unfoldable pub react_after : ℕ → Reader RecordFault ReactDeed
react_after tag bytes =
    if tag == react_code code.Job then react_job_part bytes else if tag == react_code code.Refused then refused_part bytes else Err NoRecord

-- what a reaction gave. No public contract cites it.
unfoldable pub react_part : Reader RecordFault ReactDeed
react_part bytes = do
  tag ← byte_part bytes
  react_after tag.0 tag.1

-- what a minion holds after a change. No public contract cites it.
unfoldable pub holdings_part : Reader RecordFault Changed
holdings_part bytes = do
  grains ← fields_part bytes
  store ← fields_part grains.1
  mine ← fields_part store.1
  Ok (record { grains = grains.0; store = store.0; mine = mine.0 }, mine.1)

-- a change that there is. No public contract cites it.
unfoldable pub some_change : Reader RecordFault (Option Changed)
some_change bytes = do
  changed ← holdings_part bytes
  Ok (Some changed.0, changed.1)

-- what stands after the byte that tells whether there is a change. No public contract cites it.
unfoldable pub changed_after : ℕ → Reader RecordFault (Option Changed)
changed_after tag bytes =
    if tag == change_code code.Same then Ok (None, bytes) else if tag == change_code code.Other then some_change bytes else Err NoRecord

-- what a minion holds after a change, if there is one. No public contract cites it.
unfoldable pub changed_part : Reader RecordFault (Option Changed)
changed_part bytes = do
  tag ← byte_part bytes
  changed_after tag.0 tag.1

-- ---- records

-- the job that the top published. No public contract cites it.
unfoldable pub publish_fields : Reader RecordFault Deed
publish_fields bytes = do
  job ← part job_field bytes
  Ok (d.Publish job.0, job.1)

-- an entry of a minion. No public contract cites it.
unfoldable pub entry_up_fields : Reader RecordFault Deed
entry_up_fields bytes = do
  minion ← part id_field bytes
  entry ← part entry_field minion.1
  Ok (d.Up minion.0 entry.0, entry.1)

-- the event that was fired. No public contract cites it.
unfoldable pub fire_fields : Reader RecordFault Deed
fire_fields bytes = do
  event ← event_part bytes
  Ok (d.Fire event.0, event.1)

-- what the reactions to an event gave. No public contract cites it.
unfoldable pub react_fields : Reader RecordFault Deed
react_fields bytes = do
  items ← counted_part react_part bytes
  Ok (d.React items.0, items.1)

-- the job that a syndic took in. No public contract cites it.
unfoldable pub intake_fields : Reader RecordFault Deed
intake_fields bytes = do
  job ← part job_field bytes
  Ok (d.Intake job.0, job.1)

-- what a minion did of a job. No public contract cites it.
unfoldable pub done_fields : Reader RecordFault Deed
done_fields bytes = do
  seq ← number_part bytes
  changed ← changed_part seq.1
  entries ← counted_part (part entry_field) changed.1
  Ok (d.Done seq.0 changed.0 entries.0, entries.1)

-- what stands after the tag of a record. No public contract cites it.
unfoldable pub record_after : ℕ → Reader RecordFault Deed
record_after tag bytes =
    if tag == record_code code.Publish then publish_fields bytes else if tag == record_code code.Up then entry_up_fields bytes
    else if tag == record_code code.Fire then fire_fields bytes else if tag == record_code code.React then react_fields bytes
    else if tag == record_code code.Intake then intake_fields bytes else if tag == record_code code.Boot then Ok (d.Boot, bytes)
    else if tag == record_code code.Done then done_fields bytes else Err NoRecord

-- a record, and the bytes after it. No public contract cites it.
unfoldable pub record_part : Reader RecordFault Deed
record_part bytes = do
  tag ← byte_part bytes
  record_after tag.0 tag.1

-- nothing stands after a record. No public contract cites it.
abbrev pub alone : Deed × List ℕ → Result Deed RecordFault
alone x = if length x.1 == 0 then Ok x.0 else Err NoRecord

-- a record and nothing else. No public contract cites it.
unfoldable pub whole_record : List ℕ → Result Deed RecordFault
whole_record bytes = record_part bytes >>= alone

-- ---- what is written is read again, and what is read was written so

-- a record within its limits that is written is read again. No public contract cites it.
abbrev pub AreRecordsRead : Type 0
AreRecordsRead = (deed : Deed) → RecordFits deed → whole_record (record_bytes deed) ≡ Ok deed

-- a record that is read is within its limits, and was written so. No public contract cites it.
abbrev pub AreRecordsWritten : Type 0
AreRecordsWritten = (bytes : List ℕ) (deed : Deed) → IsBytes bytes → whole_record bytes ≡ Ok deed → RecordFits deed × (bytes ≡ record_bytes deed)
