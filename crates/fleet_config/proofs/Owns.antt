-- The minions at or below a minion are itself.
use Rattle.std.proofs.Common.{◌≡◌, ℕ, zero, suc, ◌+◌, ◌<◌, ◌≤◌, ◌∙◌, sym, ap, refl, subst, inl, inr, Bool, true, false, ◌&&◌, ◌==◌, [], ◌∷◌, ◌++◌, length, filter, All, arith, if◌then◌else◌}
use Rattle.std.proofs.lemmas.Bool.Decides.{eqb_tells}
use Rattle.std.proofs.lemmas.Bool.{cases_lt}
use Rattle.std.proofs.lemmas.List.Elements.{filter-append, All-filter, All-push}
use Rattle.std.proofs.lemmas.List.{get_or_past}
use Rattle.fleet_config.specs.declared.fleet.Member.{Member}
use Rattle.fleet_config.specs.Tree.{Tree, IsTree, branch, branch_by, is_minion, is_within, minions, parent_of, runs_jobs, up_to}
use Rattle.fleet_config.proofs.Walk.{branch_cases, branch_none}

-- no node lies below a minion
none_below : (t : Tree) → IsTree t → (a : ℕ) → is_minion t a ≡ true → (k m : ℕ) → m < length t → branch_by t k a m ≡ 0
none_below t h a is zero m l = branch_none t a m
none_below t h a is (suc k) m l = elim (branch_cases t k a m) [
  | inl x ↦ x.1
  | inr d ↦ elim d [
    | inl x ↦ absurd (let wrong : true ≡ false = sym is ∙ subst (λ p. is_minion t p ≡ false) x.1 (h.master m x.0 l) in (cc))
    | inr x ↦ x.2 ∙ none_below t h a is k (parent_of t m) (let b = h.before m x.0 l in omega arith)
  ]
]

test_same : (t : Tree) (a : ℕ) → is_minion t a ≡ true → (is_minion t a && is_within t a a) ≡ true
test_same t a is = elim (eqb_tells a a) [
  | inl y ↦ rw (is, y.0) refl
  | inr y ↦ absurd (y.1 refl)
]

other_case : (t : Tree) (a m : ℕ) (b : Bool) → (a == m) ≡ false → branch t a m ≡ 0 → (b && is_within t a m) ≡ false
other_case t a m false e none = refl
other_case t a m true e none = rw (e, none) refl

test_other : (t : Tree) → IsTree t → (a : ℕ) → is_minion t a ≡ true → (m : ℕ) → m < length t → (a ≡ m → ⊥) → (is_minion t m && is_within t a m) ≡ false
test_other t h a is m l other = elim (eqb_tells a m) [
  | inl y ↦ absurd (other y.1)
  | inr y ↦ let none : branch t a m ≡ 0 = none_below t h a is m m l in other_case t a m (is_minion t m) y.0 none
]

-- among the first n nodes
own_up : (t : Tree) → IsTree t → (a : ℕ) → is_minion t a ≡ true → (n : ℕ) → n ≤ length t
    → ((a < n → filter (λ m. is_minion t m && is_within t a m) (up_to n) ≡ a ∷ []) × (n ≤ a → filter (λ m. is_minion t m && is_within t a m) (up_to n) ≡ []))
own_up t h a is zero l = ((λ b. absurd (omega arith)), (λ b. refl))
own_up t h a is (suc n) l =
    let before = own_up t h a is n (omega arith) in
    let split = filter-append (λ m. is_minion t m && is_within t a m) (up_to n) (n ∷ []) in
    elim (eqb_tells a n) [
      | inl y ↦
          let here = subst (λ m. (is_minion t m && is_within t a m) ≡ true) y.1 (test_same t a is) in
          ((λ b. split ∙ rw (before.1 (let e = y.1 in omega arith), here) (ap (λ m. m ∷ []) (sym y.1))), (λ b. absurd (let e = y.1 in omega arith)))
      | inr y ↦
          let other = test_other t h a is n (omega arith) y.1 in
          ((λ b. split ∙ rw (before.0 (let e = y.1 in omega arith), other) refl), (λ b. split ∙ rw (before.1 (omega arith), other) refl))
    ]

-- a minion is a node of the fleet
pub minion_within : (t : Tree) (a : ℕ) → is_minion t a ≡ true → a < length t
minion_within t a is = elim (cases_lt a (length t)) [
  | inl l ↦ l
  | inr l ↦ absurd (let e : is_minion t a ≡ false = ap (λ (m : Member). runs_jobs m.role) (get_or_past t a _ l) in let wrong : true ≡ false = sym is ∙ e in (cc))
]

pub own_minions : (t : Tree) → (0 < length t → IsTree t) → (a : ℕ) → is_minion t a ≡ true → a ∷ [] ≡ minions t a
own_minions t h a is =
    let l : a < length t = minion_within t a is in
    sym ((own_up t (h (omega arith)) a is (length t) (omega arith)).0 l)

-- the minions among one node more
pub filter_more : (p : ℕ → Bool) (n : ℕ) → filter p (up_to (n + 1)) ≡ filter p (up_to n) ++ (if p n then n ∷ [] else [])
filter_more p n =
    let more : n + 1 ≡ suc n = omega arith in
    rw more (filter-append p (up_to n) (n ∷ []))

below_all : (n k : ℕ) → n ≤ k → All (λ m. m < k) (up_to n)
below_all zero k h = λ i d l. absurd (let z : length {A = ℕ} [] ≡ 0 = refl in omega arith)
below_all (suc n) k h = All-push (λ m. m < k) (up_to n) n (below_all n k (omega arith)) (omega arith)

pub filter_within : (t : Tree) (a n : ℕ) → n ≤ length t → All (λ m. m < length t) (filter (λ m. is_minion t m && is_within t a m) (up_to n))
filter_within t a n h = All-filter (λ m. is_minion t m && is_within t a m) (λ m. m < length t) (up_to n) (below_all n (length t) h)
