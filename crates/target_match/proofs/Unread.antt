-- The first leaf whose pattern cannot be read, from what is said of each leaf.
use Rattle.std.proofs.Common.{◌≡◌, ℕ, zero, suc, ◌+◌, ◌<◌, ◌≤◌, Bool, true, false, List, [], ◌∷◌, length, Option, None, Some, slice_index_or, refl, sym, ap, ◌∙◌, arith}
use Rattle.std.specs.Prelude.{not, nat_lt, position, option_map, chars, IsSomeAnd, Result, Ok, Err, IfErr}
use Rattle.std.specs.List.{position_or_len}
use Rattle.std.proofs.lemmas.Bool.{lt-ltb, ltb-true, le-leb, leb-true}
use Rattle.regex.specs.Patterns.{Re, default_config}
use Rattle.regex_syntax.specs.Brackets.{Nested}
use Rattle.regex_syntax.specs.Grammar.{Names, read}
use Rattle.target_tree.specs.declared.target.Target.{Target}
use Rattle.target_match.specs.Patterns.{IsReadable}
use Rattle.target_match.specs.Holds.{patterns, IsReadableLeaf, AreReadable, IsBadAt, NamesBadPattern, leaf_count}
use Rattle.target_match.specs.Building.{IsFaultOf}
use Rattle.target_match.specs.declared.fault.BuildFault.{BuildFault}
use Rattle.target_match.specs.declared.fault.BuildFault.TheVariants.{NoMemory, BadPattern, TooBig}
use Rattle.target_match.proofs.Leaves.{bad_whole, big_whole}
use Rattle.target_match.specs.Readability.{is_within_nesting, is_readable, is_readable_leaf, first_unread, unread_leaf, IsBuildFault}

-- ---- places of the first that passes

module _ {X : Type 0} (p : X → Bool) (d : X) where
  first_place : (xs : List X) (k : ℕ) → k < length xs → p (slice_index_or xs k d) ≡ true → ((j : ℕ) → j < k → p (slice_index_or xs j d) ≡ false) → position_or_len p xs ≡ k
  first_place [] k lt h b = absurd (omega (arith, lt))
  first_place (x ∷ xs) zero lt h b = rw h refl
  first_place (x ∷ xs) (suc k) lt h b =
      let one : 1 + k ≡ suc k = omega arith in
      rw (b zero (omega arith)) (ap (λ n. 1 + n) (first_place xs k (omega (arith, lt)) h (λ j l. b (suc j) (omega (arith, l)))) ∙ one)

  no_place : (xs : List X) → ((j : ℕ) → j < length xs → p (slice_index_or xs j d) ≡ false) → position_or_len p xs ≡ length xs
  no_place [] b = refl
  no_place (x ∷ xs) b =
      let one : 1 + length xs ≡ suc (length xs) = omega arith in
      rw (b zero (omega arith)) (ap (λ n. 1 + n) (no_place xs (λ j l. b (suc j) (omega (arith, l)))) ∙ one)

  position_at : (xs : List X) (k : ℕ) → k < length xs → p (slice_index_or xs k d) ≡ true → ((j : ℕ) → j < k → p (slice_index_or xs j d) ≡ false) → position p xs ≡ Some k
  position_at xs k lt h b = rw (first_place xs k lt h b, lt-ltb k (length xs) lt) refl

  not_below : (n : ℕ) → nat_lt n n ≡ false
  not_below n = by (nat_lt n n) refl where
    by : (t : Bool) → nat_lt n n ≡ t → nat_lt n n ≡ false
    by true e = absurd (let h = ltb-true n n e in omega (arith, h))
    by false e = e

  position_no : (xs : List X) → ((j : ℕ) → j < length xs → p (slice_index_or xs j d) ≡ false) → position p xs ≡ None
  position_no xs b = rw (no_place xs b, not_below (length xs)) refl

-- ---- a readable pattern as a relation and as a test

nested_is : (o : Option (Nested Re × Names)) → IsSomeAnd o (λ (re, _). re.depth ≤ default_config.nest_limit) → is_within_nesting o ≡ true
nested_is None h = absurd h
nested_is (Some x) h = le-leb _ _ h

nested_so : (o : Option (Nested Re × Names)) → is_within_nesting o ≡ true → IsSomeAnd o (λ (re, _). re.depth ≤ default_config.nest_limit)
nested_so None h = absurd cc
nested_so (Some x) h = leb-true _ _ h

readable_is : (pattern : List ℕ) → IsReadable pattern → is_readable pattern ≡ true
unfolding is_readable
readable_is pattern h = nested_is (read default_config (chars pattern)) h

readable_so : (pattern : List ℕ) → is_readable pattern ≡ true → IsReadable pattern
unfolding is_readable
readable_so pattern h = nested_so (read default_config (chars pattern)) h

leaf_is : (leaf : Option (List ℕ)) → IsReadableLeaf leaf → not (is_readable_leaf leaf) ≡ false
leaf_is None h = refl
leaf_is (Some pattern) h = ap not (readable_is pattern h)

leaf_not : (leaf : Option (List ℕ)) → (IsReadableLeaf leaf → ⊥) → not (is_readable_leaf leaf) ≡ true
leaf_not None h = absurd (h tt)
leaf_not (Some pattern) h = by (is_readable pattern) refl where
  by : (t : Bool) → is_readable pattern ≡ t → not (is_readable pattern) ≡ true
  by true e = absurd (h (readable_so pattern e))
  by false e = ap not e

-- ---- the first leaf

pub none_unread : (target : Target) → AreReadable (patterns target) → unread_leaf target ≡ None
unfolding unread_leaf
none_unread target h = ap (option_map leaf_count) (position_no (λ leaf. not (is_readable_leaf leaf)) None (patterns target) (λ j lt. leaf_is _ (h j lt)))

bad_unread : (leaves : List (Option (List ℕ))) (leaf : ℕ) → IsBadAt leaves leaf → first_unread leaves ≡ Some (leaf_count leaf)
bad_unread leaves leaf b =
    ap (option_map leaf_count) (position_at (λ l. not (is_readable_leaf l)) None leaves leaf b.within (leaf_not _ b.bad) (λ j lt. leaf_is _ (b.before j lt)))

pub names_unread : (target : Target) (told : ℕ) → NamesBadPattern target told → unread_leaf target ≡ Some told
unfolding unread_leaf
names_unread target told h = bad_unread (patterns target) h.0 h.2 ∙ ap Some (sym h.1)

fault_is : (target : Target) (fault : BuildFault) → IsFaultOf (patterns target) 0 fault → IsBuildFault target fault
fault_is target NoMemory h = tt
fault_is target (BadPattern leaf) h = let named = bad_whole (patterns target) leaf h in (names_unread target leaf named, named)
fault_is target (TooBig leaf) h = big_whole (patterns target) leaf h

pub fault_told : {A : Type 0} (r : Result A BuildFault) (target : Target) → IfErr r (IsFaultOf (patterns target) 0) → IfErr r (IsBuildFault target)
fault_told (Ok x) target h = tt
fault_told (Err fault) target h = fault_is target fault h
