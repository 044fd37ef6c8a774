-- The test of two values answers true exactly where they are equal.
use Rattle.std.proofs.Common.{◌≡◌, ℕ, Bool, true, false, ◌&&◌, List, [], ◌∷◌, map, refl, sym, ap, ap₂, subst, ◌∙◌}
use Rattle.std.specs.Prelude.{IsTrue, ◌↔◌, bytes_eq}
use Rattle.std.proofs.lemmas.Bool.Decides.{Decides-int_eq}
use Rattle.std.proofs.lemmas.Slice.Eq.{bytes_eq-Decides}
use Rattle.salt_value.specs.declared.value.Value.{Value, roll-Value, out-Value, roll-out-Value, out-roll-Value, fold-roll-Value}
use Rattle.salt_value.specs.declared.value.Value.TheFolds.{ind-Value, map-Value}
use Rattle.salt_value.specs.declared.value.Value.TheOpen.{Value-F}
use Rattle.salt_value.specs.Equality.{same, same_flag, same_items, same_pairs, same_layer, pair_tests}
use Rattle.salt_value.proofs.WriteLemmas.{both_true}
use Rattle.salt_value.proofs.FitTests.{both}

-- what is shown of a value by induction: it passes the test at itself, and at no other value
record IsItself (w : Value) : Type 0 where
  itself : same w w ≡ true
  alone : (u : Value) → same w u ≡ true → w ≡ u

-- a value of which that is shown
abbrev Member : Type 0
Member = (w : Value) × IsItself w

-- a key and such a value
abbrev Entry : Type 0
Entry = List ℕ × Member

-- the values alone
abbrev values : List Member → List Value
values es = map (λ e. e.0) es

-- the pairs of the values alone
abbrev pairs : List Entry → List (List ℕ × Value)
pairs es = map (λ e. (e.0, e.1.0)) es

-- the layer of the values alone
abbrev layer : Value-F Member → Value-F Value
layer y = map-Value _ _ (λ e. e.0) y

-- ---- each layer passes the test at itself

flag_itself : (a : Bool) → same_flag a a ≡ true
flag_itself true = refl
flag_itself false = refl

items_itself : (es : List Member) → same_items (map same (values es)) (values es) ≡ true
items_itself [] = refl
items_itself (e ∷ es) = both _ _ e.1.itself (items_itself es)

pairs_itself : (es : List Entry) → same_pairs (pair_tests (pairs es)) (pairs es) ≡ true
pairs_itself [] = refl
pairs_itself (e ∷ es) = both _ _ (both _ _ ((bytes_eq-Decides e.0 e.0).1 refl) e.1.1.itself) (pairs_itself es)

layer_itself : (y : Value-F Member) → same_layer (map-Value _ _ same (layer y)) (layer y) ≡ true
layer_itself Value-F.Null = refl
layer_itself (Value-F.Flag b) = flag_itself b
layer_itself (Value-F.Int z) = (Decides-int_eq z z).1 refl
layer_itself (Value-F.Str t) = (bytes_eq-Decides t t).1 refl
layer_itself (Value-F.List es) = items_itself es
layer_itself (Value-F.Map es) = pairs_itself es

-- ---- and at no other one

flag_alone : (a b : Bool) → same_flag a b ≡ true → a ≡ b
flag_alone true b h = sym h
flag_alone false true h = absurd cc
flag_alone false false h = refl

items_alone : (es : List Member) (vs : List Value) → same_items (map same (values es)) vs ≡ true → values es ≡ vs
items_alone [] [] h = refl
items_alone [] (v ∷ vs) h = absurd cc
items_alone (e ∷ es) [] h = absurd cc
items_alone (e ∷ es) (v ∷ vs) h =
    let s = both_true (same e.0 v) (same_items (map same (values es)) vs) h in
    ap₂ (λ x xs. x ∷ xs) (e.1.alone v s.0) (items_alone es vs s.1)

pairs_alone : (es : List Entry) (ps : List (List ℕ × Value)) → same_pairs (pair_tests (pairs es)) ps ≡ true → pairs es ≡ ps
pairs_alone [] [] h = refl
pairs_alone [] (p ∷ ps) h = absurd cc
pairs_alone (e ∷ es) [] h = absurd cc
pairs_alone (e ∷ es) (p ∷ ps) h =
    let s = both_true (bytes_eq e.0 p.0 && same e.1.0 p.1) (same_pairs (pair_tests (pairs es)) ps) h in
    let t = both_true (bytes_eq e.0 p.0) (same e.1.0 p.1) s.0 in
    ap₂ (λ (x : List ℕ × Value) (xs : List (List ℕ × Value)). x ∷ xs)
    (ap₂ (λ (k : List ℕ) (v : Value). (k, v)) ((bytes_eq-Decides e.0 p.0).0 t.0) (e.1.1.alone p.1 t.1)) (pairs_alone es ps s.1)

layer_alone : (y : Value-F Member) (z : Value-F Value) → same_layer (map-Value _ _ same (layer y)) z ≡ true → layer y ≡ z
layer_alone Value-F.Null Value-F.Null h = refl
layer_alone (Value-F.Flag a) (Value-F.Flag b) h = ap Value-F.Flag (flag_alone a b h)
layer_alone (Value-F.Int a) (Value-F.Int b) h = ap Value-F.Int ((Decides-int_eq a b).0 h)
layer_alone (Value-F.Str a) (Value-F.Str b) h = ap Value-F.Str ((bytes_eq-Decides a b).0 h)
layer_alone (Value-F.List es) (Value-F.List vs) h = ap Value-F.List (items_alone es vs h)
layer_alone (Value-F.Map es) (Value-F.Map ps) h = ap Value-F.Map (pairs_alone es ps h)
layer_alone other another h = absurd cc

-- ---- so each value

same-roll : (x : Value-F Value) (u : Value) → same (roll-Value x) u ≡ same_layer (map-Value _ _ same x) (out-Value u)
same-roll x u = ap (λ test. test u) (fold-roll-Value (Value → Bool) (λ l w. same_layer l (out-Value w)) x)

layer_is_itself : (y : Value-F Member) → IsItself (roll-Value (layer y))
layer_is_itself y = record {
  itself = same-roll (layer y) _ ∙ ap (same_layer (map-Value _ _ same (layer y))) (out-roll-Value (layer y)) ∙ layer_itself y;
  alone = λ u h. ap roll-Value (layer_alone y (out-Value u) (sym (same-roll (layer y) u) ∙ h)) ∙ roll-out-Value u;
}

is_itself : (w : Value) → IsItself w
is_itself = ind-Value IsItself (λ x y is. subst (λ z. IsItself (roll-Value z)) is (layer_is_itself y))

-- the test decides equality
pub same_decides : (v w : Value) → IsTrue (same v w) ↔ (v ≡ w)
same_decides v w = ((is_itself v).alone w, λ e. subst (λ u. same v u ≡ true) e (is_itself v).itself)
