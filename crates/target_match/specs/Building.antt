-- What the building of a tree says of its leaves, counted on from those before it. The public clauses say it of whole targets.
use Rattle.std.specs.Prelude.{◌≡◌, ℕ, ◌+◌, List, ◌++◌, length, Option}
use Rattle.target_tree.specs.declared.target.Target.{Target}
use Rattle.target_match.specs.declared.fault.BuildFault.{BuildFault}
use Rattle.target_match.specs.declared.fault.BuildFault.TheVariants.{NoMemory, BadPattern, TooBig}
use Rattle.target_match.specs.declared.ready.Ready.{Ready}
use Rattle.target_match.specs.Patterns.{IsReadable}
use Rattle.target_match.specs.Holds.{patterns, AreReadable, IsBadAt, IsBigAt, leaf_count}
use Rattle.target_match.specs.Ready.{target_of}

-- The pattern of this leaf is not readable, or too big, or memory ran out. No public contract cites it.
abbrev pub IsRefusalOf : List ℕ → ℕ → BuildFault → Type 0
IsRefusalOf pattern leaf NoMemory = Unit {0}
IsRefusalOf pattern leaf (BadPattern at) = (at ≡ leaf) × (IsReadable pattern → ⊥)
IsRefusalOf pattern leaf (TooBig at) = (at ≡ leaf) × IsReadable pattern

-- A bad or big leaf among these, before which so many others were counted, or memory ran out. No public contract cites it.
abbrev pub IsFaultOf : List (Option (List ℕ)) → ℕ → BuildFault → Type 0
IsFaultOf leaves first NoMemory = Unit {0}
IsFaultOf leaves first (BadPattern leaf) = (at : ℕ) × (leaf ≡ leaf_count (first + at)) × IsBadAt leaves at
IsFaultOf leaves first (TooBig leaf) = (at : ℕ) × (leaf ≡ leaf_count (first + at)) × IsBigAt leaves at

-- What one tree is made into. No public contract cites it.
pub record IsMadeOf (tree : Target) (first next : ℕ) (ready : Ready) : Type 0 where
  pub same : target_of ready ≡ tree
  pub readable : AreReadable (patterns tree)
  pub counted : next ≡ leaf_count (first + length (patterns tree))

-- What two are made into, the left one first. No public contract cites it.
pub record AreMadeOf (left right : Target) (first next : ℕ) (one two : Ready) : Type 0 where
  pub left_same : target_of one ≡ left
  pub right_same : target_of two ≡ right
  pub readable : AreReadable (patterns left ++ patterns right)
  pub counted : next ≡ leaf_count (first + length (patterns left ++ patterns right))
