-- What a log holds, and which images of a disk are a log.
-- So far there is generation 0 alone: the root has no record, the payloads stand on `Even`, and `Odd` is not used.
use Rattle.std.specs.Prelude.{◌≡◌, ℕ, List, [], ◌∷◌, ◌++◌, Option, None}
use Rattle.salt_disk.specs.declared.disk.Part.TheVariants.{Root, Even}
use Rattle.salt_disk.specs.Disk.{DiskState, part_of}
use Rattle.salt_disk.specs.Crash.{Image}
use Rattle.gate_journal.specs.Layout.{fresh_length}
use Rattle.gate_journal.specs.Journal.{JournalState, IsJournal, Rests, HoldsPayloads, journal_length}

-- What a log holds: the base that its generation begins with, none in generation 0, and the payloads after it.
pub record LogContent : Type 0 where
  pub base : Option (List ℕ)
  pub rest : List (List ℕ)

-- what a log holds that was just made
abbrev pub first_content : LogContent
first_content = record { base = None; rest = [] }

-- the same with a payload more
abbrev pub content_after : LogContent → List ℕ → LogContent
content_after content payload = record { base = content.base; rest = content.rest ++ payload ∷ [] }

-- the length in bytes of the journal that has this content
abbrev pub content_length : LogContent → ℕ
content_length content = journal_length content.rest

-- This image is a log of this limit, and has this content: the root names generation 0, and its journal has the payloads.
pub record IsLog (limit : ℕ) (content : LogContent) (image : Image) : Type 0 where
  pub root_limit : ℕ
  pub root : IsJournal root_limit [] (image Root)
  pub first : content.base ≡ None
  pub rest : IsJournal limit content.rest (image Even)

-- This loaded log stands on the disk and has this content. Nothing is pending on its parts.
pub record HoldsContent (log : JournalState) (content : LogContent) (disk : DiskState) : Type 0 where
  pub root_limit : ℕ
  pub root : Rests root_limit fresh_length [] (part_of disk Root)
  pub first : content.base ≡ None
  pub is_even : log.part ≡ Even
  pub rest : HoldsPayloads log content.rest disk

-- this loaded log stands on the disk and has some content
abbrev pub StandsAsLog : JournalState → DiskState → Type 0
StandsAsLog log disk = (content : LogContent) × HoldsContent log content disk

-- the bytes that a read of each part gives
abbrev pub bytes_in : DiskState → Image
bytes_in disk part = (part_of disk part).bytes
