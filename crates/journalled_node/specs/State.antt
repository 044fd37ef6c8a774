-- A node over its log, and what a disk or an image of one has of it.
use Rattle.std.specs.Prelude.{◌≡◌, ◌⊎◌, ℕ, ◌||◌, Bool, false, List, map, Option, None}
use Rattle.salt_disk.specs.declared.disk.Disk.{Ghosts}
use Rattle.salt_disk.specs.Disk.{DiskState}
use Rattle.salt_disk.specs.Crash.{Image}
use Rattle.gate_journal.specs.Journal.{JournalState}
use Rattle.checkpoint_log.specs.Content.{LogContent, IsLog, HoldsContent}
use Rattle.salt_wire.specs.declared.deed.Deed.{Deed}
use Rattle.journal_records.specs.Spelling.{record_bytes}
use Rattle.node_core.specs.Node.{PlacedNode}
use Rattle.node_core.specs.NextRecords.{with_if_any}

-- A node over its log: the node in memory, its loaded log, and whether memory ran out once a record was in the log, so that the node
-- lacks it.
pub record JournalledState : Type 0 where
  pub node : PlacedNode
  pub log : JournalState
  pub lost : Bool

-- it takes no call until it is loaded again
abbrev pub is_lost_or_down : JournalledState → Bool
is_lost_or_down n = n.log.is_down || n.lost

-- the content of a log that has these records
abbrev pub records_content : List Deed → LogContent
records_content records = record { base = None; rest = map record_bytes records }

-- the disk has the records of this node in its log, and nothing is pending there
abbrev pub StandsOnDisk : JournalledState → DiskState → Type 0
StandsOnDisk n disk = HoldsContent n.log (records_content n.node.state.records) disk

-- a disk that tells what it holds has the records of this node in this log
abbrev pub HasRecordsOf : {D : Type 0} → Ghosts D → D → PlacedNode → JournalState → Type 0
HasRecordsOf disk now node log = disk.is_told → HoldsContent log (records_content node.state.records) (disk.state now)

-- the same of a node over its log, as long as it is up
abbrev pub StandsIfUp : {D : Type 0} → Ghosts D → D → JournalledState → Type 0
StandsIfUp disk now n = disk.is_told → is_lost_or_down n ≡ false → StandsOnDisk n (disk.state now)

-- this image is a log of this limit that has these records
abbrev pub HasRecords : ℕ → List Deed → Image → Type 0
HasRecords limit records image = IsLog limit (records_content records) image

-- it has these records, with this one more or without
abbrev pub HasRecordsOrMore : ℕ → List Deed → Option Deed → Image → Type 0
HasRecordsOrMore limit records deed image = HasRecords limit records image ⊎ HasRecords limit (with_if_any deed records) image
