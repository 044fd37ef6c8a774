-- Steps of the walk up from a node.
use Rattle.std.proofs.Common.{◌≡◌, ℕ, suc, ◌+◌, ◌-◌, ◌<◌, ◌≤◌, ◌⊎◌, ◌∙◌, sym, refl, subst, inl, inr, arith}
use Rattle.std.proofs.lemmas.Bool.Decides.{eqb_tells, leb_tells}
use Rattle.fleet_config.specs.Tree.{Tree, branch_by, parent_of}

-- the three cases of one step
pub branch_cases : (t : Tree) (k p m : ℕ) →
    ((m ≡ 0) × (branch_by t (suc k) p m ≡ 0))
    ⊎ (((0 < m) × (parent_of t m ≡ p) × (branch_by t (suc k) p m ≡ m))
    ⊎ ((0 < m) × (parent_of t m ≡ p → ⊥) × (branch_by t (suc k) p m ≡ branch_by t k p (parent_of t m))))
unfolding branch_by
branch_cases t k p m = elim (leb_tells 1 m) [
  | inl y ↦ elim (eqb_tells (parent_of t m) p) [
    | inl z ↦ inr (inl (y.1, z.1, rw (y.0, z.0) refl))
    | inr z ↦ inr (inr (y.1, z.1, rw (y.0, z.0) refl))
  ]
  | inr y ↦ inl (omega arith, rw y.0 refl)
]

pub branch_none : (t : Tree) (p m : ℕ) → branch_by t 0 p m ≡ 0
unfolding branch_by
branch_none t p m = refl

-- a walk of n steps of which so many are done
left_steps : (n step : ℕ) → step < n → n - step ≡ suc (n - (step + 1))
left_steps n step h = omega arith

pub walk_on : (t : Tree) (n step p m b : ℕ) → step < n → (m ≡ 0 → ⊥) → (parent_of t m ≡ p → ⊥)
    → branch_by t (n - step) p m ≡ b → branch_by t (n - (step + 1)) p (parent_of t m) ≡ b
walk_on t n step p m b h some other e =
    let e' : branch_by t (suc (n - (step + 1))) p m ≡ b = subst (λ k. branch_by t k p m ≡ b) (left_steps n step h) e in
    elim (branch_cases t (n - (step + 1)) p m) [
      | inl a ↦ absurd (some a.0)
      | inr d ↦ elim d [ inl a ↦ absurd (other a.1) | inr a ↦ sym a.2 ∙ e' ]
    ]

pub walk_here : (t : Tree) (n step p m b : ℕ) → step < n → (m ≡ 0 → ⊥) → parent_of t m ≡ p
    → branch_by t (n - step) p m ≡ b → m ≡ b
walk_here t n step p m b h some here e =
    let e' : branch_by t (suc (n - (step + 1))) p m ≡ b = subst (λ k. branch_by t k p m ≡ b) (left_steps n step h) e in
    elim (branch_cases t (n - (step + 1)) p m) [
      | inl a ↦ absurd (some a.0)
      | inr d ↦ elim d [ inl a ↦ sym a.2 ∙ e' | inr a ↦ absurd (a.1 here) ]
    ]

pub walk_top : (t : Tree) (n step p m b : ℕ) → step < n → m ≡ 0 → branch_by t (n - step) p m ≡ b → 0 ≡ b
walk_top t n step p m b h top e =
    let e' : branch_by t (suc (n - (step + 1))) p m ≡ b = subst (λ k. branch_by t k p m ≡ b) (left_steps n step h) e in
    elim (branch_cases t (n - (step + 1)) p m) [
      | inl a ↦ sym a.1 ∙ e'
      | inr d ↦ elim d [ inl a ↦ absurd (let x = a.0 in omega arith) | inr a ↦ absurd (let x = a.0 in omega arith) ]
    ]

pub walk_end : (t : Tree) (n step p m b : ℕ) → n ≤ step → branch_by t (n - step) p m ≡ b → 0 ≡ b
walk_end t n step p m b h e =
    let none : n - step ≡ 0 = omega arith in
    sym (branch_none t p m) ∙ subst (λ k. branch_by t k p m ≡ b) none e
