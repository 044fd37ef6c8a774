-- The place of an id, one node after the other.
use Rattle.std.proofs.Common.{◌≡◌, ℕ, zero, suc, ◌+◌, ◌∙◌, sym, ap, refl, subst, Bool, true, false, cond, List, [], ◌∷◌, ◌++◌, ◌<◌, length, map, take, Option, None, Some, unwrap_or, slice_get, bytes_eq, arith}
use Rattle.std.specs.List.{AllByRecursion, IsDistinct, position_from, position}
use Rattle.std.proofs.lemmas.Map.Keys.{IsDistinct-head, IsDistinct-tail}
use Rattle.std.proofs.lemmas.Slice.Eq.{bytes_eq-Decides}
use Rattle.std.proofs.lemmas.Iterator.Adapters.{position_from-zero}
use Rattle.fleet_config.specs.declared.fleet.Member.{Member}
use Rattle.std.specs.Prelude.{is_none}
use Rattle.fleet_config.specs.Tree.{Tree, id_of}

pub same_some : {X : Type 0} (a b : X) → Some a ≡ Some b → a ≡ b
same_some {X} a b e = ap (λ (o : Option X). unwrap_or o a) e

-- a fact of all ids holds of each
pub at_each : (P : List ℕ → Type 0) (ms : Tree) (i : ℕ) (x : Member) → slice_get ms i ≡ Some x → AllByRecursion P (map (λ (m : Member). m.id) ms) → P x.id
at_each P [] i x e h = absurd (cc)
at_each P (m ∷ ms) zero x e h = subst (λ (y : Member). P y.id) (same_some m x e) h.0
at_each P (m ∷ ms) (suc i) x e h = at_each P ms i x e h.1

back_case : (a b : List ℕ) → bytes_eq a b ≡ false → (t : Bool) → bytes_eq b a ≡ t → bytes_eq b a ≡ false
back_case a b h false e = e
back_case a b h true e =
    let same : a ≡ b = sym ((bytes_eq-Decides b a).0 e) in
    let yes : bytes_eq a b ≡ true = (bytes_eq-Decides a b).1 same in
    let wrong : true ≡ false = sym yes ∙ h in
    absurd (cc)

-- two texts differ both ways
pub differ_back : (a b : List ℕ) → bytes_eq a b ≡ false → bytes_eq b a ≡ false
differ_back a b h = back_case a b h (bytes_eq b a) refl

place_case : (k n : ℕ) (m x : Member) (q : List ℕ) (long short : Option ℕ) → long ≡ cond (bytes_eq x.id q) (Some n) short
    → bytes_eq m.id x.id ≡ false → (t : Bool) → bytes_eq m.id q ≡ t
    → cond (bytes_eq m.id q) (Some k) long ≡ cond (bytes_eq x.id q) (Some n) (cond (bytes_eq m.id q) (Some k) short)
place_case k n m x q long short rest apart false e = rw e rest
place_case k n m x q long short rest apart true e =
    let here : m.id ≡ q = (bytes_eq-Decides m.id q).0 e in
    let other : bytes_eq x.id q ≡ false = subst (λ y. bytes_eq x.id y ≡ false) here (differ_back m.id x.id apart) in
    rw (e, other) refl

-- the place in a list with one node more
pub place_from : (k : ℕ) (ms : Tree) (i : ℕ) (q : List ℕ) (x : Member) → slice_get ms i ≡ Some x
    → IsDistinct bytes_eq (map (λ (m : Member). m.id) ms)
    → position_from (λ (m : Member). bytes_eq m.id q) k (take (suc i) ms) ≡ cond (bytes_eq x.id q) (Some (k + i)) (position_from (λ (m : Member). bytes_eq m.id q) k (take i ms))
place_from k [] i q x e d = absurd (cc)
place_from k (m ∷ ms) zero q x e d =
    let n : k + 0 ≡ k = omega arith in
    subst (λ (y : Member). cond (bytes_eq m.id q) (Some k) None ≡ cond (bytes_eq y.id q) (Some (k + 0)) None) (same_some m x e) (rw n refl)
place_from k (m ∷ ms) (suc i) q x e d =
    let rest = place_from (k + 1) ms i q x e (IsDistinct-tail bytes_eq m.id _ d) in
    let apart = at_each (λ y. bytes_eq m.id y ≡ false) ms i x e (IsDistinct-head bytes_eq m.id _ d) in
    let n : k + 1 + i ≡ k + suc i = omega arith in
    let told : position_from (λ (y : Member). bytes_eq y.id q) (k + 1) (take (suc i) ms) ≡ cond (bytes_eq x.id q) (Some (k + suc i)) (position_from (λ (y : Member). bytes_eq y.id q) (k + 1) (take i ms)) =
    subst (λ j. position_from (λ (y : Member). bytes_eq y.id q) (k + 1) (take (suc i) ms) ≡ cond (bytes_eq x.id q) (Some j) (position_from (λ (y : Member). bytes_eq y.id q) (k + 1) (take i ms))) n rest in
    place_case k (k + suc i) m x q (position_from (λ (y : Member). bytes_eq y.id q) (k + 1) (take (suc i) ms)) (position_from (λ (y : Member). bytes_eq y.id q) (k + 1) (take i ms)) told apart (bytes_eq m.id q) refl

-- the same from the first place on
pub place_more : (ms : Tree) (i : ℕ) (q : List ℕ) (x : Member) → slice_get ms i ≡ Some x
    → IsDistinct bytes_eq (map (λ (m : Member). m.id) ms)
    → position (λ (m : Member). bytes_eq m.id q) (take (i + 1) ms) ≡ cond (bytes_eq x.id q) (Some i) (position (λ (m : Member). bytes_eq m.id q) (take i ms))
place_more ms i q x e d =
    let more : i + 1 ≡ suc i = omega arith in
    let zero_on : 0 + i ≡ i = omega arith in
    let test : Member → Bool = λ m. bytes_eq m.id q in
    let told : position_from test 0 (take (suc i) ms) ≡ cond (bytes_eq x.id q) (Some i) (position_from test 0 (take i ms)) =
    subst (λ j. position_from test 0 (take (suc i) ms) ≡ cond (bytes_eq x.id q) (Some j) (position_from test 0 (take i ms))) zero_on (place_from 0 ms i q x e d) in
    subst (λ n. position test (take n ms) ≡ cond (bytes_eq x.id q) (Some i) (position test (take i ms))) (sym more)
    (position_from-zero test (take (suc i) ms) ∙ told ∙ ap (λ (o : Option ℕ). cond (bytes_eq x.id q) (Some i) o) (sym (position_from-zero test (take i ms))))

-- no node has an id that is not found
none_case : (b : Bool) (k : ℕ) (o : Option ℕ) → cond b (Some k) o ≡ None → (b ≡ false) × (o ≡ None)
none_case true k o h = absurd (cc)
none_case false k o h = (refl, h)

pub none_of : (o : Option ℕ) → is_none o ≡ true → o ≡ None
none_of None h = refl
none_of (Some k) h = absurd (cc)

none_from : (k : ℕ) (t : Tree) (q : List ℕ) → position_from (λ (m : Member). bytes_eq m.id q) k t ≡ None → (i : ℕ) → i < length t → bytes_eq (id_of t i) q ≡ false
none_from k [] q h i l = absurd (omega arith)
none_from k (m ∷ ms) q h zero l = (none_case (bytes_eq m.id q) k _ h).0
none_from k (m ∷ ms) q h (suc i) l = none_from (k + 1) ms q (none_case (bytes_eq m.id q) k _ h).1 i (omega arith)

pub none_differs : (t : Tree) (q : List ℕ) → position (λ (m : Member). bytes_eq m.id q) t ≡ None → (i : ℕ) → i < length t → bytes_eq (id_of t i) q ≡ false
none_differs t q h = none_from 0 t q (sym (position_from-zero (λ (m : Member). bytes_eq m.id q) t) ∙ h)

push_from : (k : ℕ) (ms : Tree) (x : Member) (q : List ℕ) → position_from (λ (m : Member). bytes_eq m.id x.id) k ms ≡ None
    → position_from (λ (m : Member). bytes_eq m.id q) k (ms ++ x ∷ []) ≡ cond (bytes_eq x.id q) (Some (k + length ms)) (position_from (λ (m : Member). bytes_eq m.id q) k ms)
push_from k [] x q h = let n : k + length {A = Member} [] ≡ k = omega arith in rw n refl
push_from k (m ∷ ms) x q h =
    let none = none_case (bytes_eq m.id x.id) k _ h in
    let n : k + 1 + length ms ≡ k + length (m ∷ ms) = omega arith in
    let rest = push_from (k + 1) ms x q none.1 in
    let told : position_from (λ (y : Member). bytes_eq y.id q) (k + 1) (ms ++ x ∷ []) ≡ cond (bytes_eq x.id q) (Some (k + length (m ∷ ms))) (position_from (λ (y : Member). bytes_eq y.id q) (k + 1) ms) =
    subst (λ j. position_from (λ (y : Member). bytes_eq y.id q) (k + 1) (ms ++ x ∷ []) ≡ cond (bytes_eq x.id q) (Some j) (position_from (λ (y : Member). bytes_eq y.id q) (k + 1) ms)) n rest in
    place_case k (k + length (m ∷ ms)) m x q (position_from (λ (y : Member). bytes_eq y.id q) (k + 1) (ms ++ x ∷ [])) (position_from (λ (y : Member). bytes_eq y.id q) (k + 1) ms) told none.0 (bytes_eq m.id q) refl

-- the places with a node more, whose id is not there
pub place_push : (t : Tree) (x : Member) (q : List ℕ) → position (λ (m : Member). bytes_eq m.id x.id) t ≡ None
    → position (λ (m : Member). bytes_eq m.id q) (t ++ x ∷ []) ≡ cond (bytes_eq x.id q) (Some (length t)) (position (λ (m : Member). bytes_eq m.id q) t)
place_push t x q h =
    let test : Member → Bool = λ m. bytes_eq m.id q in
    let n : 0 + length t ≡ length t = omega arith in
    let none : position_from (λ (m : Member). bytes_eq m.id x.id) 0 t ≡ None = sym (position_from-zero (λ (m : Member). bytes_eq m.id x.id) t) ∙ h in
    let told : position_from test 0 (t ++ x ∷ []) ≡ cond (bytes_eq x.id q) (Some (length t)) (position_from test 0 t) =
    subst (λ j. position_from test 0 (t ++ x ∷ []) ≡ cond (bytes_eq x.id q) (Some j) (position_from test 0 t)) n (push_from 0 t x q none) in
    position_from-zero test (t ++ x ∷ []) ∙ told ∙ ap (λ (o : Option ℕ). cond (bytes_eq x.id q) (Some (length t)) o) (sym (position_from-zero test t))
