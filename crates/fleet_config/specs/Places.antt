-- What a fleet keeps beside its nodes.
use Rattle.std.specs.Prelude.{ℕ, ◌≡◌, ◌<◌, List, Some, cond, length, position, bytes_eq}
use Rattle.indexmap.specs.IndexMap.{IndexMap, get}
use Rattle.fleet_config.specs.Tree.{Tree, IsTree, minion_count, syndic_count}

-- Each id is found at its place. No public contract cites it.
abbrev pub HasPlaces : {S : Type 0} → Tree → IndexMap (List ℕ) ℕ S → Type 0
HasPlaces t places = (id : List ℕ) → get bytes_eq places id ≡ position (λ m. bytes_eq m.id id) t

-- The nodes are none or a tree, and the index and the counts are theirs. No public contract cites it.
pub record IsIndexed {S : Type 0} (t : Tree) (places : IndexMap (List ℕ) ℕ S) (workers middles : ℕ) : Type 0 where
  pub tree : 0 < length t → IsTree t
  pub found : HasPlaces t places
  pub minions : workers ≡ minion_count t
  pub syndics : middles ≡ syndic_count t

-- The new index finds one id at this place, and every other one where the old index does. No public contract cites it.
abbrev pub HasOneMore : {S : Type 0} → IndexMap (List ℕ) ℕ S → IndexMap (List ℕ) ℕ S → List ℕ → ℕ → Type 0
HasOneMore old new added place = (id : List ℕ) → get bytes_eq new id ≡ cond (bytes_eq added id) (Some place) (get bytes_eq old id)

-- The new index finds each id where the old one does. No public contract cites it.
abbrev pub FindAlike : {S : Type 0} → IndexMap (List ℕ) ℕ S → IndexMap (List ℕ) ℕ S → Type 0
FindAlike old new = (id : List ℕ) → get bytes_eq new id ≡ get bytes_eq old id
