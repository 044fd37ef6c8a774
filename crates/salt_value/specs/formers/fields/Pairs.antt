-- `Pairs` as a type that may hold the type that holds it, by its values.
use Rattle.std.specs.Prelude.{◌≡◌, ℕ, max, List, [], ◌∷◌, map}
use mathlib.Core.Path.{refl, sym, ap, ◌∙◌}
use mathlib.Core.Former.{Former, Count, Row, this, const, pair, list, list_count, list_put, via, children}
use base.Stored.{code_map, coded×, coded_list, coded_ℕ, gcons, coded_bool, Coded-set}
use denote.RattleType.{RattleType}
use denote.HoleLaws.{Alike}
use denote.HolePlaces.{Recodes, struct_places, laid, stays}
use denote.Hole.Carrier.{listed}
use denote.Hole.Fix.{over}
use denote.Param.Nested.{deepest}
use denote.Param.Weighed.{Weighed, most, none_max, List-puts, w_pair, w_const}
use denote.Model.Placed.{view_places}
use denote.Struct.Tuple.{Tuple, tuple_type}
use Rattle.std.specs.formers.vec.Vec as vec
use Rattle.std.specs.declared.alloc.Global.{Global}
use Rattle.std.specs.contracts.alloc.Global as heap
use Rattle.std.specs.contracts.impls.GlobalAllocator.TheImpl.{ghosts}
use Rattle.salt_value.specs.declared.fields.Pairs.TheInside.{Inside}
use Rattle.salt_value.specs.declared.fields.Pairs.TheView.{view, invariant}
use Rattle.salt_value.specs.contracts.fields.Pairs as C
use Rattle.salt_value.specs.contracts.fields.Pairs.TheInside as I
use Rattle.salt_value.specs.contracts.text.Text as text
use Rattle.salt_value.specs.Keys.{keys_of, ascends}

-- a key beside one of g's values
abbrev entry : Former {0} → Former {0}
entry g = pair (const (List ℕ)) g

-- the key, and this of the value
abbrev on_value : {X Y : Type 0} → (X → Y) → List ℕ × X → List ℕ × Y
on_value h p = (p.0, h p.1)

-- the values of the pairs
abbrev values_of : {X : Type 0} → List (List ℕ × X) → List X
values_of es = map (λ p. p.1) es

-- the most of the pairs is the most of their values
most_values : {Y : Type 0} (f : Y → ℕ) (es : List (List ℕ × Y)) → most (λ p. max 0 (f p.1)) es ≡ most f (values_of es)
most_values f [] = refl
most_values f (e ∷ es) = λ i. max (sym (none_max (f e.1)) i) (most_values f es i)

-- pairs put into rows count as their values do
pub entries_puts : {g : Former {0}} (w : Weighed g) (X : Type 0) (μ : X → ℕ) (es : List (List ℕ × g.Of X)) (n : Count) (t : Row X n)
    → deepest μ (list_count (entry g) (map ((entry g).shape X) es) n) (list_put (entry g) X es n t) ≡ max (most (w.weight X μ) (values_of es)) (deepest μ n t)
entries_puts w X μ es n t = List-puts (w_pair (w_const (List ℕ)) w) X μ es n t ∙ ap (λ a. max a (deepest μ n t)) (most_values (w.weight X μ) es)

-- a list of pairs
abbrev pub the_former : Former {0} → Former {0}
the_former g = list (entry g)

-- the weight of pairs is the most of their values
abbrev pub the_weighed : {g : Former {0}} → Weighed g → Weighed (the_former g)
the_weighed w = record { weight = λ X μ m. most (w.weight X μ) (values_of m); puts = λ X μ m. entries_puts w X μ m }

-- no pairs
pub the_empty : List (List ℕ × ⊥)
the_empty = []

-- the values that stand in pairs
abbrev pub the_items : (X : Type 0) → List (List ℕ × X) → List X
the_items X d = values_of d

-- they are the children of the pairs, in their order
pub the_items_listed : (X : Type 0) (d : List (List ℕ × X)) → listed _ (children (the_former this) X d) ≡ the_items X d
the_items_listed X [] = refl
the_items_listed X (e ∷ es) = ap (λ l. e.1 ∷ l) (the_items_listed X es)

-- what is done to the values leaves the keys
keys_on_values : {X Y : Type 0} (h : X → Y) (es : List (List ℕ × X)) → keys_of (map (on_value h) es) ≡ keys_of es
keys_on_values h [] = refl
keys_on_values h (e ∷ es) = ap (λ l. e.0 ∷ l) (keys_on_values h es)

-- the private fields: a vector of pairs
abbrev fields : Former {0}
fields = via (vec.the_former (entry this) Global) Inside (λ X a. a.pairs) (λ X v. record { pairs = v }) (λ X a. refl) (λ X v. refl)

-- of two types of values, one laid out as the other
module _ (R S : RattleType) (h : R.Denot → S.Denot) where
  -- the type of a pair with such a value
  abbrev pair_of : RattleType → RattleType
  pair_of T = Tuple (text.the_row ∷ T ∷ [])

  -- pairs are laid out alike
  pair_places : Alike R S h → Alike (pair_of R) (pair_of S) (on_value h)
  pair_places a = struct_places (tuple_type (text.the_row ∷ R ∷ [])) (tuple_type (text.the_row ∷ S ∷ [])) ((λ k. k), (h, tt)) (on_value h) (λ d. refl) refl
      (stays text.the_row, (laid _ _ _ a, tt))

  -- maps are laid out alike
  pub the_places : Alike R S h → Alike (C.the_row R) (C.the_row S) ((the_former this).map R.Denot S.Denot h)
  the_places a = view_places fields (list (entry this)) view (λ X Y k u. refl) (λ X u. refl) R.Denot S.Denot h (C.the_row R).coded (C.the_row S).coded
      (invariant R.Denot) (invariant S.Denot) (λ u. Coded-set coded_bool _ _) (λ u. Coded-set coded_bool _ _)
      (λ u e. ap ascends (keys_on_values h u.pairs.items) ∙ e) (λ u e. sym (ap ascends (keys_on_values h u.pairs.items)) ∙ e)
      (over (I.the_row R)) (over (I.the_row S))
      (struct_places (I.the_type R) (I.the_type S) (vec.mapped (on_value h), tt) _ (λ d. refl) refl
      (laid _ _ _ (vec.the_places heap.the_row ghosts (pair_of R) (pair_of S) (on_value h) (pair_places a)), tt))

  -- and their codes agree
  pub the_codes_placed : Recodes R S h → Recodes (C.the_row R) (C.the_row S) ((the_former this).map R.Denot S.Denot h)
  the_codes_placed e d = sym (code_map (coded× (coded_list coded_ℕ) R.coded).code (coded× (coded_list coded_ℕ) S.coded).code (on_value h) (λ x i. gcons ((coded_list coded_ℕ).code x.0) (sym (e x.1) i)) d)
