-- The codes of records, of what reactions gave and of changes, by one table for each.
use Rattle.std.specs.Prelude.{ℕ}

-- what a record tells
pub data RecordKind : Type 0 where
  Publish : RecordKind
  Up : RecordKind
  Fire : RecordKind
  React : RecordKind
  Intake : RecordKind
  Boot : RecordKind
  Done : RecordKind

-- the codes of records
abbrev pub record_code : RecordKind → ℕ
record_code Publish = 0x01
record_code Up = 0x02
record_code Fire = 0x03
record_code React = 0x04
record_code Intake = 0x05
record_code Boot = 0x06
record_code Done = 0x07

-- what a reaction gave
pub data ReactKind : Type 0 where
  Job : ReactKind
  Refused : ReactKind

-- the codes of what reactions gave
abbrev pub react_code : ReactKind → ℕ
react_code Job = 0x01
react_code Refused = 0x02

-- whether a job changed what a minion holds
pub data ChangeKind : Type 0 where
  Same : ChangeKind
  Other : ChangeKind

-- the codes of changes
abbrev pub change_code : ChangeKind → ℕ
change_code Same = 0x00
change_code Other = 0x01
