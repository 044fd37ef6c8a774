-- The place of an id, one id after the other.
use Rattle.std.proofs.Common.{◌≡◌, ℕ, zero, suc, ◌+◌, ◌∙◌, sym, ap, refl, subst, Bool, true, false, cond, List, [], ◌∷◌, take, Option, None, Some, unwrap_or, slice_get, bytes_eq, arith}
use Rattle.std.specs.List.{AllByRecursion, IsDistinct, position_from, position}
use Rattle.std.proofs.lemmas.Map.Keys.{IsDistinct-head, IsDistinct-tail}
use Rattle.std.proofs.lemmas.Slice.Eq.{bytes_eq-Decides}
use Rattle.std.proofs.lemmas.Iterator.Adapters.{position_from-zero}
use Rattle.master_core.specs.Master.{place_in}

same_some : {X : Type 0} (a b : X) → Some a ≡ Some b → a ≡ b
same_some {X} a b e = ap (λ (o : Option X). unwrap_or o a) e

-- what holds of all ids holds of each
at_each : (P : List ℕ → Type 0) (ids : List (List ℕ)) (i : ℕ) (x : List ℕ) → slice_get ids i ≡ Some x → AllByRecursion P ids → P x
at_each P [] i x e h = absurd (cc)
at_each P (id ∷ ids) zero x e h = subst P (same_some id x e) h.0
at_each P (id ∷ ids) (suc i) x e h = at_each P ids i x e h.1

back_case : (a b : List ℕ) → bytes_eq a b ≡ false → (t : Bool) → bytes_eq b a ≡ t → bytes_eq b a ≡ false
back_case a b h false e = e
back_case a b h true e =
    let same : a ≡ b = sym ((bytes_eq-Decides b a).0 e) in
    let yes : bytes_eq a b ≡ true = (bytes_eq-Decides a b).1 same in
    let wrong : true ≡ false = sym yes ∙ h in
    absurd (cc)

-- two texts differ both ways
differ_back : (a b : List ℕ) → bytes_eq a b ≡ false → bytes_eq b a ≡ false
differ_back a b h = back_case a b h (bytes_eq b a) refl

place_case : (k n : ℕ) (id x q : List ℕ) (long short : Option ℕ) → long ≡ cond (bytes_eq x q) (Some n) short
    → bytes_eq id x ≡ false → (t : Bool) → bytes_eq id q ≡ t
    → cond (bytes_eq id q) (Some k) long ≡ cond (bytes_eq x q) (Some n) (cond (bytes_eq id q) (Some k) short)
place_case k n id x q long short rest apart false e = rw e rest
place_case k n id x q long short rest apart true e =
    let here : id ≡ q = (bytes_eq-Decides id q).0 e in
    let other : bytes_eq x q ≡ false = subst (λ y. bytes_eq x y ≡ false) here (differ_back id x apart) in
    rw (e, other) refl

place_from : (k : ℕ) (ids : List (List ℕ)) (i : ℕ) (q x : List ℕ) → slice_get ids i ≡ Some x → IsDistinct bytes_eq ids
    → position_from (λ id. bytes_eq id q) k (take (suc i) ids) ≡ cond (bytes_eq x q) (Some (k + i)) (position_from (λ id. bytes_eq id q) k (take i ids))
place_from k [] i q x e d = absurd (cc)
place_from k (id ∷ ids) zero q x e d =
    let n : k + 0 ≡ k = omega arith in
    subst (λ y. cond (bytes_eq id q) (Some k) None ≡ cond (bytes_eq y q) (Some (k + 0)) None) (same_some id x e) (rw n refl)
place_from k (id ∷ ids) (suc i) q x e d =
    let test : List ℕ → Bool = λ y. bytes_eq y q in
    let rest = place_from (k + 1) ids i q x e (IsDistinct-tail bytes_eq id _ d) in
    let apart = at_each (λ y. bytes_eq id y ≡ false) ids i x e (IsDistinct-head bytes_eq id _ d) in
    let n : k + 1 + i ≡ k + suc i = omega arith in
    let told : position_from test (k + 1) (take (suc i) ids) ≡ cond (bytes_eq x q) (Some (k + suc i)) (position_from test (k + 1) (take i ids)) =
    subst (λ j. position_from test (k + 1) (take (suc i) ids) ≡ cond (bytes_eq x q) (Some j) (position_from test (k + 1) (take i ids))) n rest in
    place_case k (k + suc i) id x q (position_from test (k + 1) (take (suc i) ids)) (position_from test (k + 1) (take i ids)) told apart (bytes_eq id q) refl

-- where an id is found among one distinct id more
pub place_more : (ids : List (List ℕ)) (i : ℕ) (q x : List ℕ) → slice_get ids i ≡ Some x → IsDistinct bytes_eq ids
    → place_in (take (i + 1) ids) q ≡ cond (bytes_eq x q) (Some i) (place_in (take i ids) q)
place_more ids i q x e d =
    let more : i + 1 ≡ suc i = omega arith in
    let zero_on : 0 + i ≡ i = omega arith in
    let test : List ℕ → Bool = λ id. bytes_eq id q in
    let told : position_from test 0 (take (suc i) ids) ≡ cond (bytes_eq x q) (Some i) (position_from test 0 (take i ids)) =
    subst (λ j. position_from test 0 (take (suc i) ids) ≡ cond (bytes_eq x q) (Some j) (position_from test 0 (take i ids))) zero_on (place_from 0 ids i q x e d) in
    subst (λ n. position test (take n ids) ≡ cond (bytes_eq x q) (Some i) (position test (take i ids))) (sym more)
    (position_from-zero test (take (suc i) ids) ∙ told ∙ ap (λ (o : Option ℕ). cond (bytes_eq x q) (Some i) o) (sym (position_from-zero test (take i ids))))
