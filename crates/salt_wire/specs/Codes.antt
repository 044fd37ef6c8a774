-- The codes of messages, of entries and of the nodes of trees, by one table for each.
use Rattle.std.specs.Prelude.{ℕ, List, [], ◌∷◌}

-- what a message is
pub data MessageKind : Type 0 where
  Pub : MessageKind
  Have : MessageKind
  Up : MessageKind
  UpHave : MessageKind
  Hello : MessageKind
  End : MessageKind
  AskPublish : MessageKind
  AskReport : MessageKind
  AskJobs : MessageKind
  AskMine : MessageKind
  Answer : MessageKind

-- the codes of messages
abbrev pub message_code : MessageKind → ℕ
message_code Pub = 0x01
message_code Have = 0x02
message_code Up = 0x03
message_code UpHave = 0x04
message_code Hello = 0x05
message_code End = 0x06
message_code AskPublish = 0x10
message_code AskReport = 0x11
message_code AskJobs = 0x12
message_code AskMine = 0x13
message_code Answer = 0x14

-- each of them
abbrev pub message_kinds : List MessageKind
message_kinds = Pub ∷ Have ∷ Up ∷ UpHave ∷ Hello ∷ End ∷ AskPublish ∷ AskReport ∷ AskJobs ∷ AskMine ∷ Answer ∷ []

-- what an entry is
pub data EntryKind : Type 0 where
  Return : EntryKind
  Fired : EntryKind
  Start : EntryKind
  Mine : EntryKind

-- the codes of entries
abbrev pub entry_code : EntryKind → ℕ
entry_code Return = 0x01
entry_code Fired = 0x02
entry_code Start = 0x03
entry_code Mine = 0x04

-- each of them
abbrev pub entry_kinds : List EntryKind
entry_kinds = Return ∷ Fired ∷ Start ∷ Mine ∷ []

-- what a node of a tree is
pub data NodeKind : Type 0 where
  IdGlob : NodeKind
  IdPcre : NodeKind
  IdList : NodeKind
  GrainGlob : NodeKind
  GrainPcre : NodeKind
  PillarGlob : NodeKind
  PillarPcre : NodeKind
  Not : NodeKind
  And : NodeKind
  Or : NodeKind

-- the codes of nodes
abbrev pub node_code : NodeKind → ℕ
node_code IdGlob = 0x01
node_code IdPcre = 0x02
node_code IdList = 0x03
node_code GrainGlob = 0x04
node_code GrainPcre = 0x05
node_code PillarGlob = 0x06
node_code PillarPcre = 0x07
node_code Not = 0x08
node_code And = 0x09
node_code Or = 0x0a
