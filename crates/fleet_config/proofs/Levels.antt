-- Steps of the walk that counts the levels above a node.
use Rattle.std.proofs.Common.{◌≡◌, ℕ, suc, ◌+◌, ◌-◌, ◌<◌, ◌≤◌, ◌∙◌, ap, arith}
use Rattle.fleet_config.specs.Tree.{Tree, level, level_by, parent_of}
use Rattle.fleet_config.proofs.Trees.{level_top, level_on, level_none}

pub level_first : (t : Tree) (m : ℕ) → level_by t (m - 0) m + 1 ≡ level t m + 1
level_first t m = let z : m - 0 ≡ m = omega arith in ap (λ k. level_by t k m + 1) z

pub level_next : (t : Tree) (n step m at_level all : ℕ) → step < n → (m ≡ 0 → ⊥) → level_by t (n - step) m + at_level ≡ all + 1
    → level_by t (n - (step + 1)) (parent_of t m) + (at_level + 1) ≡ all + 1
level_next t n step m at_level all h some e =
    let z : n - step ≡ suc (n - (step + 1)) = omega arith in
    let p : 0 < m = omega arith in
    let on : level_by t (n - step) m ≡ level_by t (n - (step + 1)) (parent_of t m) + 1 = ap (λ k. level_by t k m) z ∙ level_on t (n - (step + 1)) m p in
    omega arith

pub level_here : (t : Tree) (k m at_level all : ℕ) → m ≡ 0 → level_by t k m + at_level ≡ all + 1 → at_level ≡ all
level_here t k m at_level all z e = let one : level_by t k m ≡ 1 = ap (λ i. level_by t k i) z ∙ level_top t k in omega arith

pub level_end : (t : Tree) (n step m at_level all : ℕ) → n ≤ step → level_by t (n - step) m + at_level ≡ all + 1 → at_level ≡ all
level_end t n step m at_level all h e =
    let z : n - step ≡ 0 = omega arith in
    let one : level_by t (n - step) m ≡ 1 = ap (λ k. level_by t k m) z ∙ level_none t m in
    omega arith
