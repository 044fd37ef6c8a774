-- What a tree says of its nodes, and of how many there are.
use Rattle.std.proofs.Common.{◌≡◌, ℕ, zero, suc, ◌+◌, ◌<◌, ◌≤◌, refl, inl, inr, [], ◌∷◌, length, arith}
use Rattle.std.proofs.lemmas.Bool.Decides.{leb_tells}
use Rattle.fleet_config.specs.declared.fleet.Member.{Member}
use Rattle.fleet_config.specs.declared.fleet.Role.{Role}
use Rattle.fleet_config.specs.declared.fleet.Role.TheVariants as role
use Rattle.fleet_config.specs.Limits.{most_nodes, most_minions, most_syndics}
use Rattle.fleet_config.specs.Tree.{Tree, IsTree, member, parent_of, minion_count, syndic_count, level_by}

pub parent_within : (t : Tree) (i : ℕ) → (0 < length t → IsTree t) → i < length t → parent_of t i < length t
parent_within t zero h l = let r : parent_of t 0 ≡ 0 = (h (omega arith)).root in omega arith
parent_within t (suc i) h l = let b : parent_of t (suc i) < suc i = (h (omega arith)).before (suc i) (omega arith) l in omega arith

counted : (m : Member) (ms : Tree) (r : Role) → m.role ≡ r → (r ≡ role.Top → ⊥) → length ms ≡ minion_count ms + syndic_count ms
    → suc (length ms) ≡ minion_count (m ∷ ms) + syndic_count (m ∷ ms)
counted m ms role.Top e other h = absurd (other refl)
counted m ms role.Syndic e other h = rw e (omega arith)
counted m ms role.Minion e other h = rw e (omega arith)

-- nodes of which none is a top are minions and syndics
no_top : (ms : Tree) → ((i : ℕ) → i < length ms → (member ms i).role ≡ role.Top → ⊥) → length ms ≡ minion_count ms + syndic_count ms
no_top [] h = refl
no_top (m ∷ ms) h = counted m ms m.role refl (h 0 (omega arith)) (no_top ms (λ i l. h (suc i) (omega arith)))

pub minions_under : (m : Member) (ms : Tree) → m.role ≡ role.Top → minion_count (m ∷ ms) ≡ minion_count ms
minions_under m ms e = rw e refl

pub syndics_under : (m : Member) (ms : Tree) → m.role ≡ role.Top → syndic_count (m ∷ ms) ≡ syndic_count ms
syndics_under m ms e = rw e refl

-- a top, 4,096 minions and 256 syndics
pub few_nodes : (t : Tree) → (0 < length t → IsTree t) → length t ≤ most_nodes
few_nodes [] h = omega arith
few_nodes (m ∷ ms) h =
    let tree = h (omega arith) in
    let all : length ms ≡ minion_count ms + syndic_count ms = no_top ms (λ i l. tree.others (suc i) (omega arith) (omega arith)) in
    let minions : minion_count (m ∷ ms) ≡ minion_count ms = minions_under m ms tree.top in
    let syndics : syndic_count (m ∷ ms) ≡ syndic_count ms = syndics_under m ms tree.top in
    let few_minions : minion_count (m ∷ ms) ≤ most_minions = tree.few_minions in
    let few_syndics : syndic_count (m ∷ ms) ≤ most_syndics = tree.few_syndics in
    omega arith

-- the top is on the first level, and every other node one level below its parent
pub level_top : (t : Tree) (k : ℕ) → level_by t k 0 ≡ 1
unfolding level_by
level_top t zero = refl
level_top t (suc k) = refl

pub level_on : (t : Tree) (k m : ℕ) → 0 < m → level_by t (suc k) m ≡ level_by t k (parent_of t m) + 1
unfolding level_by
level_on t k m h = elim (leb_tells 1 m) [
  | inl y ↦ rw (y.0) refl
  | inr y ↦ absurd (let x = y.1 in omega arith)
]

pub level_none : (t : Tree) (m : ℕ) → level_by t 0 m ≡ 1
unfolding level_by
level_none t m = refl
