-- Which minions a target holds for, by cases on its tree.
use Rattle.std.specs.Prelude.{◌≡◌, ◌<◌, min, ℕ, Bool, true, false, not, ◌&&◌, ◌||◌, List, [], ◌∷◌, ◌++◌, length, Option, None, Some, slice_index_or, bytes_eq, if◌then◌else◌}
use Rattle.std.specs.List.{list_any}
use Rattle.salt_glob.specs.Globs.{glob}
use Rattle.salt_value.specs.declared.value.Value.{Value}
use Rattle.salt_value.specs.declared.value.Value.TheVariants.{Map}
use Rattle.target_tree.specs.declared.target.Target.{Target, fold-Target}
use Rattle.target_tree.specs.declared.target.Target.TheOpen.{Target-F}
use Rattle.target_match.specs.Patterns.{IsReadable, starts}
use Rattle.target_match.specs.Paths.{parts, path_of, pattern_of}
use Rattle.target_match.specs.Data.{meets, reaches}

-- the grains or the pillar of a minion
abbrev pub Data : Type 0
Data = List (List ℕ × Value)

-- a glob of a path into the data
abbrev pub glob_holds : List ℕ → Data → Bool
glob_holds text fields = meets (Map fields) (parts text)

-- a path into the data, and a pattern of what stands at its end
abbrev pub pattern_holds : List ℕ → Data → Bool
pattern_holds text fields =
    reaches (starts (pattern_of (parts text))) (Map fields) (path_of (parts text))

-- a leaf holds by its kind, and an operator by its operands
abbrev pub holds_layer : List ℕ → Data → Data → Target-F Bool → Bool
holds_layer id grains pillar (Target-F.IdGlob text) = glob text id
holds_layer id grains pillar (Target-F.IdPcre text) = starts text id
holds_layer id grains pillar (Target-F.IdList ids) = list_any (λ other. bytes_eq other id) ids
holds_layer id grains pillar (Target-F.GrainGlob text) = glob_holds text grains
holds_layer id grains pillar (Target-F.GrainPcre text) = pattern_holds text grains
holds_layer id grains pillar (Target-F.PillarGlob text) = glob_holds text pillar
holds_layer id grains pillar (Target-F.PillarPcre text) = pattern_holds text pillar
holds_layer id grains pillar (Target-F.Not one) = not one
holds_layer id grains pillar (Target-F.And left right) = left && right
holds_layer id grains pillar (Target-F.Or left right) = left || right

-- the target holds for a minion with this id, these grains and this pillar
abbrev pub holds : Target → List ℕ → Data → Data → Bool
holds tree id grains pillar = fold-Target Bool (holds_layer id grains pillar) tree

-- the same of one layer of a target: each leaf is a glob of the id or a list of ids
abbrev pub by_id_layer : Target-F Bool → Bool
by_id_layer (Target-F.IdGlob text) = true
by_id_layer (Target-F.IdPcre text) = false
by_id_layer (Target-F.IdList ids) = true
by_id_layer (Target-F.GrainGlob text) = false
by_id_layer (Target-F.GrainPcre text) = false
by_id_layer (Target-F.PillarGlob text) = false
by_id_layer (Target-F.PillarPcre text) = false
by_id_layer (Target-F.Not one) = one
by_id_layer (Target-F.And left right) = left && right
by_id_layer (Target-F.Or left right) = left && right

-- each leaf of the target is a glob of the id or a list of ids
abbrev pub is_by_id : Target → Bool
is_by_id = fold-Target Bool by_id_layer

-- what `holds` says, where the id alone decides it
abbrev pub decision_by_id : Target → List ℕ → Data → Data → Option Bool
decision_by_id tree id grains pillar = if is_by_id tree then Some (holds tree id grains pillar) else None

-- the patterns of one layer of a target, in its order
abbrev pub patterns_layer : Target-F (List (Option (List ℕ))) → List (Option (List ℕ))
patterns_layer (Target-F.IdGlob text) = None ∷ []
patterns_layer (Target-F.IdPcre text) = Some text ∷ []
patterns_layer (Target-F.IdList ids) = None ∷ []
patterns_layer (Target-F.GrainGlob text) = None ∷ []
patterns_layer (Target-F.GrainPcre text) = Some (pattern_of (parts text)) ∷ []
patterns_layer (Target-F.PillarGlob text) = None ∷ []
patterns_layer (Target-F.PillarPcre text) = Some (pattern_of (parts text)) ∷ []
patterns_layer (Target-F.Not one) = one
patterns_layer (Target-F.And left right) = left ++ right
patterns_layer (Target-F.Or left right) = left ++ right

-- of each leaf of a target from left to right its pattern, and none of other leaves
abbrev pub patterns : Target → List (Option (List ℕ))
patterns = fold-Target (List (Option (List ℕ))) patterns_layer

-- the leaf has no pattern, or a readable one
abbrev pub IsReadableLeaf : Option (List ℕ) → Type 0
IsReadableLeaf None = Unit {0}
IsReadableLeaf (Some pattern) = IsReadable pattern

-- the leaf has a readable pattern
abbrev pub IsReadablePattern : Option (List ℕ) → Type 0
IsReadablePattern None = ⊥
IsReadablePattern (Some pattern) = IsReadable pattern

-- each pattern is readable
abbrev pub AreReadable : List (Option (List ℕ)) → Type 0
AreReadable leaves = (k : ℕ) → k < length leaves → IsReadableLeaf (slice_index_or leaves k None)

-- the pattern of this leaf is not readable, and each one before it is
pub record IsBadAt (leaves : List (Option (List ℕ))) (leaf : ℕ) : Type 0 where
  pub within : leaf < length leaves
  pub bad : IsReadableLeaf (slice_index_or leaves leaf None) → ⊥
  pub before : (k : ℕ) → k < leaf → IsReadableLeaf (slice_index_or leaves k None)

-- this leaf has a pattern, which is readable, as each one before it is
pub record IsBigAt (leaves : List (Option (List ℕ))) (leaf : ℕ) : Type 0 where
  pub within : leaf < length leaves
  pub big : IsReadablePattern (slice_index_or leaves leaf None)
  pub before : (k : ℕ) → k < leaf → IsReadableLeaf (slice_index_or leaves k None)

-- the count of leaves, which stands still at 4,294,967,295
abbrev pub leaf_count : ℕ → ℕ
leaf_count n = min n 4294967295

-- the number that a leaf is told by: its count
abbrev pub IsToldAs : ℕ → (ℕ → Type 0) → Type 0
IsToldAs told is = (leaf : ℕ) × (told ≡ leaf_count leaf) × is leaf

-- this is the number of the first leaf whose pattern is not readable
abbrev pub NamesBadPattern : Target → ℕ → Type 0
NamesBadPattern target told = IsToldAs told (IsBadAt (patterns target))

-- this is the number of a leaf with a readable pattern before which each pattern is readable
abbrev pub NamesBigPattern : Target → ℕ → Type 0
NamesBigPattern target told = IsToldAs told (IsBigAt (patterns target))
