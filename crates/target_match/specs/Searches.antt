-- Searches for patterns that are kept from one minion to the next.
use Rattle.std.specs.Prelude.{◌≡◌, ℕ, Bool, true, false, List, [], ◌∷◌, ◌++◌, length, Option, None, Some, Result, OnOk, bytes_eq, slice_index_or, IsTrue}
use Rattle.std.specs.List.{list_any, list_all, IsDistinct}
use Rattle.target_tree.specs.declared.target.Target.{Target}
use Rattle.target_tree.specs.declared.target.Target.TheVariants.{Not, And, Or}
use Rattle.target_match.specs.Holds.{Data, holds, patterns}
use Rattle.target_match.specs.declared.ready.Ready.{Ready}
use Rattle.target_match.specs.Ready.{target_of}

-- the leaf has no pattern, or one with a search
abbrev pub is_searched : List (List ℕ) → Option (List ℕ) → Bool
is_searched searches None = true
is_searched searches (Some pattern) = list_any (bytes_eq pattern) searches

-- the leaf has this pattern
abbrev pub has_pattern : List ℕ → Option (List ℕ) → Bool
has_pattern pattern None = false
has_pattern pattern (Some own) = bytes_eq own pattern

-- the searches before come first still, those after them are of patterns of these leaves, no pattern gets a second one, and where each
-- pattern has one there are no more
pub record Keeps (leaves : List (Option (List ℕ))) (before after : List (List ℕ)) : Type 0 where
  pub more : List (List ℕ)
  pub first : after ≡ before ++ more
  pub only : IsTrue (list_all (λ pattern. list_any (has_pattern pattern) leaves) more)
  pub distinct : IsDistinct bytes_eq before → IsDistinct bytes_eq after
  pub enough : IsTrue (list_all (is_searched before) leaves) → after ≡ before

-- These leaves are asked for a minion, in this order: the right one of two operands is asked only where the left one doesn't decide.
pub data Asks (id : List ℕ) (grains pillar : Data) : Target → List (Option (List ℕ)) → Type 0 where
  -- a target of one leaf asks that leaf
  one_leaf : {tree : Target} → length (patterns tree) ≡ 1 → Asks id grains pillar tree (patterns tree)
  negated : {one : Target} {leaves : List (Option (List ℕ))} → Asks id grains pillar one leaves → Asks id grains pillar (Not one) leaves
  left_fails : {left : Target} (right : Target) {leaves : List (Option (List ℕ))} → holds left id grains pillar ≡ false → Asks id grains pillar left leaves → Asks id grains pillar (And left right) leaves
  and_then : {left right : Target} {first others : List (Option (List ℕ))} → holds left id grains pillar ≡ true → Asks id grains pillar left first → Asks id grains pillar right others
      → Asks id grains pillar (And left right) (first ++ others)
  left_holds : {left : Target} (right : Target) {leaves : List (Option (List ℕ))} → holds left id grains pillar ≡ true → Asks id grains pillar left leaves → Asks id grains pillar (Or left right) leaves
  or_else : {left right : Target} {first others : List (Option (List ℕ))} → holds left id grains pillar ≡ false → Asks id grains pillar left first → Asks id grains pillar right others
      → Asks id grains pillar (Or left right) (first ++ others)

-- Each pattern that is asked for this minion has a search, and for no other one was a search made.
pub record HasSearches (id : List ℕ) (grains pillar : Data) (tree : Target) (before after : List (List ℕ)) : Type 0 where
  pub leaves : List (Option (List ℕ))
  pub asked : Asks id grains pillar tree leaves
  pub searched : IsTrue (list_all (is_searched after) leaves)
  pub keeps : Keeps leaves before after

-- After an answer the searches have grown by those that the target asked for this minion.
abbrev pub AddsAsked : {A E : Type 0} → Result A E → List ℕ → Data → Data → Target → List (List ℕ) → List (List ℕ) → Type 0
AddsAsked result id grains pillar tree before after = OnOk result (HasSearches id grains pillar tree before after)

-- The same of a ready tree. No public contract cites it.
abbrev pub AddsOfReady : {A E : Type 0} → Result A E → List ℕ → Data → Data → Ready → List (List ℕ) → List (List ℕ) → Type 0
AddsOfReady result id grains pillar tree before after = AddsAsked result id grains pillar (target_of tree) before after

-- The searches before are kept, and those after them are at most one of this pattern. No public contract cites it.
abbrev pub KeepsFor : List ℕ → List (List ℕ) → List (List ℕ) → Type 0
KeepsFor pattern = Keeps (Some pattern ∷ [])

-- The pattern has a search. No public contract cites it.
abbrev pub HasSearch : List ℕ → List (List ℕ) → Type 0
HasSearch pattern searches = IsTrue (list_any (bytes_eq pattern) searches)

-- The search of the pattern stands at this place. No public contract cites it.
abbrev pub IsPlaceOf : List ℕ → List (List ℕ) → ℕ → Type 0
IsPlaceOf pattern searches place = slice_index_or searches place [] ≡ pattern
