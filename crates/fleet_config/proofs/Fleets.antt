-- A top with minions under it is a tree.
use Rattle.std.proofs.Common.{◌≡◌, ℕ, zero, suc, ◌<◌, ◌≤◌, ◌∙◌, sym, ap, refl, true, false, List, [], ◌∷◌, length, map, bytes_eq, arith}
use Rattle.std.specs.Prelude.{All}
use Rattle.std.specs.List.{AllByRecursion, IsDistinct, slice_index_or}
use Rattle.std.proofs.lemmas.Map.Keys.{IsDistinct-head, IsDistinct-tail}
use Rattle.std.proofs.lemmas.Slice.Eq.{bytes_eq-Decides}
use Rattle.std.proofs.lemmas.List.{length-map}
use Rattle.std.proofs.lemmas.List.Elements.{All-nil, All-cons}
use Rattle.exec_functions.specs.Limits.{AreWithin, no_holdings}
use Rattle.salt_value.proofs.MemberFits.{empty_map_fits}
use Rattle.fleet_config.specs.declared.fleet.Member.{Member}
use Rattle.fleet_config.specs.declared.fleet.Role.TheVariants as role
use Rattle.fleet_config.specs.Limits.{most_minions, most_levels}
use Rattle.fleet_config.specs.Tree.{IsTree, flat_tree, plain_member, id_of, member, parent_of, minion_count, syndic_count, level, level_by}
use Rattle.fleet_config.proofs.Trees.{level_top, level_on}

ids_in : (xs : List (List ℕ)) → map (λ (m : Member). m.id) (map (plain_member role.Minion) xs) ≡ xs
ids_in [] = refl
ids_in (x ∷ xs) = ap (λ l. x ∷ l) (ids_in xs)

pub ids_of : (top : List ℕ) (ids : List (List ℕ)) → map (λ (m : Member). m.id) (flat_tree top ids) ≡ top ∷ ids
ids_of top ids = ap (λ l. top ∷ l) (ids_in ids)

-- a node after the top is a minion with its id
under : (ids : List (List ℕ)) (i : ℕ) (d : Member) → i < length ids → slice_index_or (map (plain_member role.Minion) ids) i d ≡ plain_member role.Minion (slice_index_or ids i [])
under [] i d h = absurd (omega arith)
under (x ∷ xs) zero d h = refl
under (x ∷ xs) (suc i) d h = under xs i d (omega arith)

-- a fact of all texts holds of each
at_text : (P : List ℕ → Type 0) (xs : List (List ℕ)) (i : ℕ) → i < length xs → AllByRecursion P xs → P (slice_index_or xs i [])
at_text P [] i h a = absurd (omega arith)
at_text P (x ∷ xs) zero h a = a.0
at_text P (x ∷ xs) (suc i) h a = at_text P xs i (omega arith) a.1

apart : (a b : List ℕ) → bytes_eq a b ≡ false → a ≡ b → ⊥
apart a b h e =
    let yes : bytes_eq a b ≡ true = (bytes_eq-Decides a b).1 e in
    let wrong : true ≡ false = sym yes ∙ h in
    absurd (cc)

-- equal texts of a list of distinct ones stand at one place
one_place : (xs : List (List ℕ)) → IsDistinct bytes_eq xs → (i j : ℕ) → i < length xs → j < length xs → slice_index_or xs i [] ≡ slice_index_or xs j [] → i ≡ j
one_place [] d i j a b e = absurd (omega arith)
one_place (x ∷ xs) d zero zero a b e = refl
one_place (x ∷ xs) d zero (suc j) a b e = absurd (apart x _ (at_text (λ y. bytes_eq x y ≡ false) xs j (omega arith) (IsDistinct-head bytes_eq x xs d)) e)
one_place (x ∷ xs) d (suc i) zero a b e = absurd (apart x _ (at_text (λ y. bytes_eq x y ≡ false) xs i (omega arith) (IsDistinct-head bytes_eq x xs d)) (sym e))
one_place (x ∷ xs) d (suc i) (suc j) a b e = ap (λ n. suc n) (one_place xs (IsDistinct-tail bytes_eq x xs d) i j (omega arith) (omega arith) e)

flat_id : (top : List ℕ) (ids : List (List ℕ)) (i : ℕ) → i < length (flat_tree top ids) → id_of (flat_tree top ids) i ≡ slice_index_or (top ∷ ids) i []
flat_id top ids zero h = refl
flat_id top ids (suc i) h = ap (λ (m : Member). m.id) (under ids i _ (let n : length (map (plain_member role.Minion) ids) ≡ length ids = length-map ids (plain_member role.Minion) in omega arith))

-- a node after the top
flat_member : (top : List ℕ) (ids : List (List ℕ)) (i : ℕ) → 0 < i → i < length (flat_tree top ids) → (id : List ℕ) × (member (flat_tree top ids) i ≡ plain_member role.Minion id)
flat_member top ids zero p h = absurd (omega arith)
flat_member top ids (suc i) p h = (_, under ids i _ (let n : length (map (plain_member role.Minion) ids) ≡ length ids = length-map ids (plain_member role.Minion) in omega arith))

all_minions : (ids : List (List ℕ)) → minion_count (map (plain_member role.Minion) ids) ≡ length ids
all_minions [] = refl
all_minions (id ∷ ids) = ap (λ n. suc n) (all_minions ids)

no_syndic : (ids : List (List ℕ)) → syndic_count (map (plain_member role.Minion) ids) ≡ 0
no_syndic [] = refl
no_syndic (id ∷ ids) = no_syndic ids

pub flat_minions : (top : List ℕ) (ids : List (List ℕ)) → minion_count (flat_tree top ids) ≡ length ids
flat_minions top ids = all_minions ids

pub flat_syndics : (top : List ℕ) (ids : List (List ℕ)) → syndic_count (flat_tree top ids) ≡ 0
flat_syndics top ids = no_syndic ids

two_levels : (top : List ℕ) (ids : List (List ℕ)) (i : ℕ) → i < length (flat_tree top ids) → level (flat_tree top ids) i ≤ most_levels
two_levels top ids zero h = let one : level (flat_tree top ids) 0 ≡ 1 = level_top (flat_tree top ids) 0 in omega arith
two_levels top ids (suc i) h =
    let m = flat_member top ids (suc i) (omega arith) h in
    let z : parent_of (flat_tree top ids) (suc i) ≡ 0 = ap (λ (x : Member). x.parent) m.1 in
    let one : level_by (flat_tree top ids) i 0 ≡ 1 = level_top (flat_tree top ids) i in
    let two : level (flat_tree top ids) (suc i) ≡ 2 = level_on (flat_tree top ids) i (suc i) (omega arith) ∙ rw (z, one) refl in
    omega arith

none_fits : AreWithin no_holdings
none_fits = record { grains = empty_map_fits; pillar = empty_map_fits; store = empty_map_fits; mine = empty_map_fits }

all_fit : (ids : List (List ℕ)) → All (λ (m : Member). AreWithin m.held) (map (plain_member role.Minion) ids)
all_fit [] = All-nil (λ (m : Member). AreWithin m.held)
all_fit (id ∷ ids) = All-cons (λ (m : Member). AreWithin m.held) (plain_member role.Minion id) _ none_fits (all_fit ids)

pub flat_is_tree : (top : List ℕ) (ids : List (List ℕ)) → IsDistinct bytes_eq (top ∷ ids) → length ids ≤ most_minions → IsTree (flat_tree top ids)
flat_is_tree top ids d few = record {
  some = omega arith;
  few_minions = let n : minion_count (flat_tree top ids) ≡ length ids = flat_minions top ids in omega arith;
  few_syndics = let n : syndic_count (flat_tree top ids) ≡ 0 = flat_syndics top ids in omega arith;
  few_levels = two_levels top ids;
  top = refl;
  root = refl;
  others = λ i p h. let m = flat_member top ids i p h in λ e. let wrong : role.Minion ≡ role.Top = sym (ap (λ (x : Member). x.role) m.1) ∙ e in absurd (cc);
  before = λ i p h. let m = flat_member top ids i p h in let z : parent_of (flat_tree top ids) i ≡ 0 = ap (λ (x : Member). x.parent) m.1 in omega arith;
  master = λ i p h. let m = flat_member top ids i p h in let z : parent_of (flat_tree top ids) i ≡ 0 = ap (λ (x : Member). x.parent) m.1 in rw z refl;
  distinct = λ i j a b e. one_place (top ∷ ids) d i j
      (let n : length (map (plain_member role.Minion) ids) ≡ length ids = length-map ids (plain_member role.Minion) in omega arith)
      (let n : length (map (plain_member role.Minion) ids) ≡ length ids = length-map ids (plain_member role.Minion) in omega arith)
      (sym (flat_id top ids i a) ∙ e ∙ flat_id top ids j b);
  held_fits = All-cons (λ (m : Member). AreWithin m.held) (plain_member role.Top top) _ none_fits (all_fit ids);
}
