-- Nodes by their ids: all are there, and each stands before those with greater ids.
use Rattle.std.proofs.Common.{◌≡◌, ℕ, zero, suc, ◌<◌, ◌≤◌, ◌⊎◌, ⊎_elim, inl, inr, sym, refl, subst, Bool, true, false, ◌==◌, List, [], ◌∷◌, ◌++◌, length, get_or, filter, flat_map, arith, if◌then◌else◌}
use Rattle.std.specs.Prelude.{All, Contains, Option, None, Some, filter_map}
use Rattle.std.specs.List.{AllByRecursion, cons_option}
use Rattle.std.specs.Cmp.{IsStrictWeakOrder}
use Rattle.std.proofs.lemmas.Bool.{cases_lt, eqb-true, eq-eqb}
use Rattle.std.proofs.lemmas.List.Elements.{All-contains_itself, recursion_from_All, All-append, All-nil, All-cons, All-filter, filter_passes, Contains-append_left, Contains-append_right}
use Rattle.fleet_config.specs.Tree.{up_to}
use Rattle.tree_world.proofs.Orders.{part, parts, parts_next, before, before_le, before_lt, before_few, bool_true, bool_false, ordered}

-- ---- what a list has

here : {X : Type 0} (x : X) (xs : List X) → Contains (x ∷ xs) x
here x xs = (0, omega arith, refl)

there : {X : Type 0} (x y : X) (xs : List X) → Contains xs y → Contains (x ∷ xs) y
there x y xs h = (suc h.0, omega (arith, h.1), h.2)

kept : {X : Type 0} (p : X → Bool) (x : X) (xs : List X) (b : Bool) (y : X) → ((x ≡ y) × (b ≡ true)) ⊎ Contains (filter p xs) y
    → Contains (if b then x ∷ filter p xs else filter p xs) y
kept p x xs true y (inl e) = subst (Contains (x ∷ filter p xs)) e.0 (here x (filter p xs))
kept p x xs false y (inl e) = absurd (let f = e.1 in cc)
kept p x xs true y (inr h) = there x y (filter p xs) h
kept p x xs false y (inr h) = h

front_or_rest : {X : Type 0} (x y : X) (xs : List X) (k : ℕ) → k < length (x ∷ xs) → get_or (x ∷ xs) k y ≡ y → (x ≡ y) ⊎ Contains xs y
front_or_rest x y xs zero l e = inl e
front_or_rest x y xs (suc k) l e = inr (k, omega arith, e)

pub filter_has : {X : Type 0} (p : X → Bool) (xs : List X) (y : X) → Contains xs y → p y ≡ true → Contains (filter p xs) y
filter_has p [] y h e = absurd (omega (arith, h.1))
filter_has p (x ∷ xs) y h e =
    kept p x xs (p x) y (⊎_elim (λ same. inl (same, subst (λ z. p z ≡ true) (sym same) e)) (λ rest. inr (filter_has p xs y rest e)) (front_or_rest x y xs h.0 h.1 h.2))

pub flat_has : {X Y : Type 0} (g : Y → List X) (ys : List Y) (y : Y) (x : X) → Contains ys y → Contains (g y) x → Contains (flat_map g ys) x
flat_has g [] y x h e = absurd (omega (arith, h.1))
flat_has g (z ∷ ys) y x h e =
    ⊎_elim
    (λ same. Contains-append_left (g z) (flat_map g ys) x (subst (λ w. Contains (g w) x) (sym same) e))
    (λ rest. Contains-append_right (g z) (flat_map g ys) x (flat_has g ys y x rest e))
    (front_or_rest z y ys h.0 h.1 h.2)

cons_has : {Y : Type 0} (o : Option Y) (ys : List Y) (y : Y) → (o ≡ Some y) ⊎ Contains ys y → Contains (cons_option o ys) y
cons_has None ys y (inl e) = absurd cc
cons_has None ys y (inr e) = e
cons_has (Some z) ys y (inl e) = let same : z ≡ y = cc in subst (Contains (z ∷ ys)) same (here z ys)
cons_has (Some z) ys y (inr e) = there z y ys e

pub map_has : {X Y : Type 0} (h : X → Option Y) (xs : List X) (x : X) (y : Y) → Contains xs x → h x ≡ Some y → Contains (filter_map h xs) y
map_has h [] x y c e = absurd (omega (arith, c.1))
map_has h (z ∷ xs) x y c e =
    cons_has (h z) (filter_map h xs) y
    (⊎_elim (λ same. inl (subst (λ w. h w ≡ Some y) (sym same) e)) (λ rest. inr (map_has h xs x y rest e)) (front_or_rest z x xs c.0 c.1 c.2))

cons_all : {Y : Type 0} (P : Y → Type 0) (o : Option Y) (ys : List Y) → ((y : Y) → o ≡ Some y → P y) → All P ys → All P (cons_option o ys)
cons_all P None ys f h = h
cons_all P (Some y) ys f h = All-cons P y ys (f y refl) h

pub map_all : {X Y : Type 0} (h : X → Option Y) (P : Y → Type 0) (xs : List X) → AllByRecursion (λ x. (y : Y) → h x ≡ Some y → P y) xs → All P (filter_map h xs)
map_all h P [] g = All-nil P
map_all h P (x ∷ xs) g = cons_all P (h x) (filter_map h xs) g.0 (map_all h P xs g.1)

pub flat_all : {X Y : Type 0} (P : X → Type 0) (g : Y → List X) → ((y : Y) → All P (g y)) → (ys : List Y) → All P (flat_map g ys)
flat_all P g h [] = All-nil P
flat_all P g h (y ∷ ys) = All-append P (g y) (flat_map g ys) (h y) (flat_all P g h ys)

pub up_to_has : (n k : ℕ) → k < n → Contains (up_to n) k
up_to_has zero k l = absurd (omega arith)
up_to_has (suc n) k l =
    ⊎_elim
    (λ below. Contains-append_left (up_to n) (n ∷ []) k (up_to_has n k below))
    (λ above. let e : n ≡ k = omega arith in Contains-append_right (up_to n) (n ∷ []) k (subst (Contains (n ∷ [])) e (here n [])))
    (cases_lt k n)

-- ---- each element and each later one

module _ {X : Type 0} where
  abbrev pub Pairs : (X → X → Type 0) → List X → Type 0
  Pairs R [] = Unit {0}
  Pairs R (x ∷ xs) = AllByRecursion (R x) xs × Pairs R xs

  all_both : (P : X → Type 0) (xs ys : List X) → AllByRecursion P xs → AllByRecursion P ys → AllByRecursion P (xs ++ ys)
  all_both P [] ys a b = b
  all_both P (x ∷ xs) ys a b = (a.0, all_both P xs ys a.1 b)

  pairs_join : (R : X → X → Type 0) (xs ys : List X) → Pairs R xs → Pairs R ys → AllByRecursion (λ x. AllByRecursion (R x) ys) xs → Pairs R (xs ++ ys)
  pairs_join R [] ys a b c = b
  pairs_join R (x ∷ xs) ys a b c = (all_both (R x) xs ys a.0 c.0, pairs_join R xs ys a.1 b c.1)

  kept_pairs : (R : X → X → Type 0) (x : X) (xs : List X) (b : Bool) → AllByRecursion (R x) xs → Pairs R xs → Pairs R (if b then x ∷ xs else xs)
  kept_pairs R x xs true h g = (h, g)
  kept_pairs R x xs false h g = g

  kept_all : (P : X → Type 0) (x : X) (xs : List X) (b : Bool) → P x → AllByRecursion P xs → AllByRecursion P (if b then x ∷ xs else xs)
  kept_all P x xs true h g = (h, g)
  kept_all P x xs false h g = g

  filter_all : (P : X → Type 0) (p : X → Bool) (xs : List X) → AllByRecursion P xs → AllByRecursion P (filter p xs)
  filter_all P p [] h = h
  filter_all P p (x ∷ xs) h = kept_all P x (filter p xs) (p x) h.0 (filter_all P p xs h.1)

  pub pairs_filter : (R : X → X → Type 0) (p : X → Bool) (xs : List X) → Pairs R xs → Pairs R (filter p xs)
  pairs_filter R p [] h = h
  pairs_filter R p (x ∷ xs) h = kept_pairs R x (filter p xs) (p x) (filter_all (R x) p xs h.0) (pairs_filter R p xs h.1)

  pub all_imply_in : (P Q R : X → Type 0) → ((x : X) → P x → Q x → R x) → (xs : List X) → AllByRecursion P xs → AllByRecursion Q xs → AllByRecursion R xs
  all_imply_in P Q R f [] h g = tt
  all_imply_in P Q R f (x ∷ xs) h g = (f x h.0 g.0, all_imply_in P Q R f xs h.1 g.1)

  pub pairs_imply : (Q : X → Type 0) (R S : X → X → Type 0) → ((x y : X) → Q x → Q y → R x y → S x y) → (xs : List X) → AllByRecursion Q xs → Pairs R xs → Pairs S xs
  pairs_imply Q R S f [] h g = tt
  pairs_imply Q R S f (x ∷ xs) h g = (all_imply_in Q (R x) (S x) (λ y qy r. f x y h.0 qy r) xs h.1 g.0, pairs_imply Q R S f xs h.1 g.1)

up_to_below : (n k : ℕ) → n ≤ k → AllByRecursion (λ x. x < k) (up_to n)
up_to_below zero k l = tt
up_to_below (suc n) k l = all_both (λ x. x < k) (up_to n) (n ∷ []) (up_to_below n k (omega arith)) (omega arith, tt)

pub up_to_rises : (n : ℕ) → Pairs (λ x y. x < y) (up_to n)
up_to_rises zero = tt
up_to_rises (suc n) =
    pairs_join (λ x y. x < y) (up_to n) (n ∷ []) (up_to_rises n) (tt, tt)
    (all_imply_in (λ x. x < n) (λ x. x < n) (λ x. AllByRecursion (λ y. x < y) (n ∷ [])) (λ x l m. (l, tt)) (up_to n) (up_to_below n n (omega arith)) (up_to_below n n (omega arith)))

-- ---- the order by how many are before ascends strictly where no two tie

module _ {X : Type 0} (lt : X → X → Bool) (o : IsStrictWeakOrder lt) (ms : List X) (N : X → X → Type 0)
    (apart : (x y : X) → Contains ms x → Contains ms y → N x y → lt x y ≡ false → lt y x ≡ false → ⊥) where
  abbrev count : X → ℕ
  count m = before lt o ms m

  InPart : ℕ → X → Type 0
  InPart n x = Contains ms x × (count x ≡ n)

  in_part : (n : ℕ) → AllByRecursion (λ x. Contains ms x × (count x ≡ n)) (part count ms n)
  in_part n =
      let p : X → Bool = λ m. count m == n in
      recursion_from_All (λ x. Contains ms x × (count x ≡ n)) (filter p ms)
      (both_all (Contains ms) (λ x. p x ≡ true) (λ x. Contains ms x × (count x ≡ n)) (λ x a b. (a, eqb-true (count x) n b)) (filter p ms)
      (All-filter p (Contains ms) ms (All-contains_itself ms)) (filter_passes p ms))
    where
      both_all : (P Q R : X → Type 0) → ((x : X) → P x → Q x → R x) → (xs : List X) → All P xs → All Q xs → All R xs
      both_all P Q R f xs a b = λ k d l. f (get_or xs k d) (a k d l) (b k d l)

  part_pairs : (n : ℕ) → Pairs N ms → Pairs (λ x y. lt x y ≡ true) (part count ms n)
  part_pairs n up =
      pairs_imply (λ x. Contains ms x × (count x ≡ n)) N (λ x y. lt x y ≡ true)
      (λ x y a b r. absurd (apart x y a.0 b.0 r
      (bool_false lt o (lt x y) (λ e. let l = before_lt lt o ms x y a.0 e in let p = a.1 in let q = b.1 in omega arith))
      (bool_false lt o (lt y x) (λ e. let l = before_lt lt o ms y x b.0 e in let p = a.1 in let q = b.1 in omega arith))))
      (part count ms n) (in_part n) (pairs_filter N (λ m. count m == n) ms up)

  less : (x y : X) → count x < count y → lt x y ≡ true
  less x y l = bool_true lt o (lt x y) (λ e. let g = before_le lt o ms y x e in omega arith)

  all_under : (x : X) (n : ℕ) (ys : List X) → count x < n → AllByRecursion (λ y. Contains ms y × (count y ≡ n)) ys → AllByRecursion (λ y. lt x y ≡ true) ys
  all_under x n [] l h = tt
  all_under x n (y ∷ ys) l h = (let e = h.0.1 in less x y (omega arith), all_under x n ys l h.1)

  abbrev AreParts : ℕ → List X → Type 0
  AreParts n xs = Pairs (λ x y. lt x y ≡ true) xs × AllByRecursion (λ x. count x < n) xs

  parts_pairs : (n : ℕ) → Pairs N ms → AreParts n (parts count ms n)
  parts_pairs zero up = (tt, tt)
  parts_pairs (suc n) up =
      let h = parts_pairs n up in
      let xs : List X = parts count ms n in
      let ys : List X = part count ms n in
      subst (AreParts (suc n)) (sym (parts_next count ms n)) (
        pairs_join (λ x y. lt x y ≡ true) xs ys h.0 (part_pairs n up)
            (all_imply_in (λ x. count x < n) (λ x. count x < n) (λ x. AllByRecursion (λ y. lt x y ≡ true) ys) (λ x l m. all_under x n ys l (in_part n)) xs h.1 h.1),
        all_both (λ x. count x < suc n) xs ys (all_imply_in (λ x. count x < n) (λ x. count x < n) (λ x. count x < suc n) (λ x l m. omega arith) xs h.1 h.1)
            (all_imply_in (λ x. Contains ms x × (count x ≡ n)) (λ x. Contains ms x × (count x ≡ n)) (λ x. count x < suc n) (λ x a b. let e = a.1 in omega arith) ys (in_part n) (in_part n)),
      )

  pub ordered_ascends : Pairs N ms → Pairs (λ x y. lt x y ≡ true) (ordered lt o ms)
  ordered_ascends up = (parts_pairs (length ms) up).0

  pub ordered_has : (x : X) → Contains ms x → Contains (ordered lt o ms) x
  ordered_has x h = flat_has (part count ms) (up_to (length ms)) (count x) x (up_to_has (length ms) (count x) (before_few lt o ms x h))
      (filter_has (λ m. count m == count x) ms x h (eq-eqb (count x) (count x) refl))
