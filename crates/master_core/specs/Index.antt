-- What a master keeps beside its state: the place of each minion.
use Rattle.std.specs.Prelude.{ℕ, ◌≡◌, List, length, bytes_eq}
use Rattle.std.specs.List.{IsDistinct}
use Rattle.indexmap.specs.IndexMap.{IndexMap, get}
use Rattle.salt_wire.specs.declared.message.Entry.{Entry}
use Rattle.master_core.specs.Master.{place_in}

-- Each id is found at its place, and no other one is found. No public contract cites it.
abbrev pub IsIndexOf : {S : Type 0} → List (List ℕ) → IndexMap (List ℕ) ℕ S → Type 0
IsIndexOf ids places = (id : List ℕ) → get bytes_eq places id ≡ place_in ids id

-- Each id is found at its place, the ids are distinct, and each has a log. No public contract cites it.
pub record AreIndexedLogs {S : Type 0} (ids : List (List ℕ)) (places : IndexMap (List ℕ) ℕ S) (logs : List (List Entry)) : Type 0 where
  pub found : IsIndexOf ids places
  pub distinct : IsDistinct bytes_eq ids
  pub paired : length logs ≡ length ids
