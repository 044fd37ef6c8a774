-- The ids of a fleet, and where each stands.
use Rattle.std.proofs.Common.{◌≡◌, ℕ, zero, suc, ◌+◌, ◌<◌, ◌≤◌, Bool, true, false, not, List, [], ◌∷◌, ◌++◌, length, map, get_or, refl, sym, ap, subst, ◌∙◌, arith}
use Rattle.std.specs.Prelude.{None, Some, position, ◌==◌, nat_lt, ◌&&◌, ◌||◌, bytes_eq, ◌⊎◌}
use Rattle.std.specs.List.{IsDistinct, AllByRecursion, list_any, list_all}
use Rattle.std.proofs.Common.{inl, inr}
use Rattle.std.proofs.lemmas.Bool.{both_ways}
use Rattle.std.proofs.lemmas.Slice.Eq.{bytes_eq-Decides}
use Rattle.std.proofs.lemmas.List.Quantifiers.{position-Some}
use Rattle.std.proofs.lemmas.List.Sums.{prefix_len_passes}
use Rattle.std.proofs.lemmas.Map.Keys.{IsDistinct-push}
use Rattle.std.specs.Cmp.Lexicographic.{nat_list_eq_equiv}
use Rattle.salt_value.specs.Id.{IsId, is_id_byte}
use Rattle.fleet_config.specs.declared.fleet.Role.TheVariants as role
use Rattle.fleet_config.specs.Tree.{plain_member, id_of, parent_of, is_parent}
use Rattle.script_text.specs.Lines.{Lacks}
use Rattle.script_text.specs.Script.{IsName, HasIds}
use Rattle.script_text.specs.Fleet.{tree_by, AreFleetIds}
use Rattle.script_text.specs.Turns.{are_neighbours}
use Rattle.script_text.proofs.Words.{no_place}

-- the nodes of a fleet are as many as its ids
map_len : (ids : List (List ℕ)) → length (map (plain_member role.Minion) ids) ≡ length ids
map_len [] = refl
map_len (x ∷ xs) = ap suc (map_len xs)

pub count_by : (ids : List (List ℕ)) → length (tree_by ids) ≡ length ids
count_by [] = refl
count_by (top ∷ minions) = ap suc (map_len minions)

minion_at : (ids : List (List ℕ)) (i : ℕ) → id_of (map (plain_member role.Minion) ids) i ≡ get_or ids i []
minion_at [] i = refl
minion_at (x ∷ xs) zero = refl
minion_at (x ∷ xs) (suc i) = minion_at xs i

-- each node's id is the one at its place
pub id_at : (ids : List (List ℕ)) (i : ℕ) → id_of (tree_by ids) i ≡ get_or ids i []
id_at [] i = refl
id_at (top ∷ minions) zero = refl
id_at (top ∷ minions) (suc i) = minion_at minions i

minion_parent : (ids : List (List ℕ)) (i : ℕ) → parent_of (map (plain_member role.Minion) ids) i ≡ 0
minion_parent [] i = refl
minion_parent (x ∷ xs) zero = refl
minion_parent (x ∷ xs) (suc i) = minion_parent xs i

parent_at : (ids : List (List ℕ)) (i : ℕ) → parent_of (tree_by ids) i ≡ 0
parent_at [] i = refl
parent_at (top ∷ minions) zero = refl
parent_at (top ∷ minions) (suc i) = minion_parent minions i

top_parent : (b n p : ℕ) (a : ℕ) → b < n → p ≡ 0 → (nat_lt 0 b && nat_lt b n && (p == a)) ≡ (a == 0 && nat_lt 0 b)
top_parent b n p a h e = grind arith

is_parent_at : (ids : List (List ℕ)) (a b : ℕ) → b < length (tree_by ids) → is_parent (tree_by ids) a b ≡ (a == 0 && nat_lt 0 b)
is_parent_at ids a b h = top_parent b (length (tree_by ids)) (parent_of (tree_by ids) b) a h (parent_at ids b)

or_cases : (x y : Bool) → (x || y) ≡ true → (x ≡ true) ⊎ (y ≡ true)
or_cases true y e = inl refl
or_cases false y e = inr e

or_either : (x y : Bool) → (x ≡ true) ⊎ (y ≡ true) → (x || y) ≡ true
or_either true y e = refl
or_either false y (inl e) = cc
or_either false y (inr e) = e

-- the two nodes of a message in this fleet
pub neighbours_are : (ids : List (List ℕ)) (a b : ℕ) → a < length (tree_by ids) → b < length (tree_by ids) → are_neighbours a b ≡ true
    → (is_parent (tree_by ids) a b ≡ true) ⊎ (is_parent (tree_by ids) b a ≡ true)
neighbours_are ids a b h k e = rw (is_parent_at ids a b k, is_parent_at ids b a h) (or_cases (a == 0 && nat_lt 0 b) (b == 0 && nat_lt 0 a) e)

pub are_neighbours_of : (ids : List (List ℕ)) (a b : ℕ) → a < length (tree_by ids) → b < length (tree_by ids)
    → (is_parent (tree_by ids) a b ≡ true) ⊎ (is_parent (tree_by ids) b a ≡ true) → are_neighbours a b ≡ true
are_neighbours_of ids a b h k e =
    or_either (a == 0 && nat_lt 0 b) (b == 0 && nat_lt 0 a) (rw (← is_parent_at ids a b k, ← is_parent_at ids b a h) e)

-- what holds of each of a list, at a place
pub all_at : (P : List ℕ → Type 0) (xs : List (List ℕ)) (i : ℕ) → AllByRecursion P xs → i < length xs → P (get_or xs i [])
all_at P [] i all h = absurd (omega arith)
all_at P (x ∷ xs) zero all h = all.0
all_at P (x ∷ xs) (suc i) all h = all_at P xs i all.1 (omega arith)

name_at : (ids : List (List ℕ)) (i : ℕ) → AreFleetIds ids → i < length ids → IsName (get_or ids i [])
name_at [] i are h = absurd are
name_at (top ∷ minions) i are h = all_at IsName (top ∷ minions) i are.names h

-- the id of each node is one
pub name_of_node : (ids : List (List ℕ)) (i : ℕ) → AreFleetIds ids → i < length (tree_by ids) → IsId (id_of (tree_by ids) i)
name_of_node ids i are h =
    let P : List ℕ → Type 0 = IsId in
    subst P (sym (id_at ids i)) (name_at ids i are (omega (arith, count_by ids))).0

pub few_ids : (ids : List (List ℕ)) → AreFleetIds ids → length ids ≤ 4097
few_ids [] are = absurd are
few_ids (top ∷ minions) are = let h = are.few in omega arith

apart : (x : List ℕ) (xs : List (List ℕ)) (j : ℕ) → AllByRecursion (λ y. bytes_eq x y ≡ false) xs → j < length xs → x ≡ get_or xs j [] → ⊥
apart x [] j all h e = absurd (omega arith)
apart x (y ∷ ys) zero all h e = both_ways (bytes_eq x y) all.0 ((bytes_eq-Decides x y).1 e)
apart x (y ∷ ys) (suc j) all h e = apart x ys j all.1 (omega arith) e

-- of distinct ids each has one place
one_place : (xs : List (List ℕ)) (i j : ℕ) → IsDistinct bytes_eq xs → i < length xs → j < length xs → get_or xs i [] ≡ get_or xs j [] → i ≡ j
unfolding IsDistinct
one_place [] i j d h k e = absurd (omega arith)
one_place (x ∷ xs) zero zero d h k e = refl
one_place (x ∷ xs) zero (suc j) d h k e = absurd (apart x xs j d.0 (omega arith) e)
one_place (x ∷ xs) (suc i) zero d h k e = absurd (apart x xs i d.0 (omega arith) (sym e))
one_place (x ∷ xs) (suc i) (suc j) d h k e = ap suc (one_place xs i j d.1 (omega arith) (omega arith) e)

distinct_by : (ids : List (List ℕ)) → AreFleetIds ids → IsDistinct bytes_eq ids
distinct_by [] are = absurd are
distinct_by (top ∷ minions) are = are.distinct

pub same_node : (ids : List (List ℕ)) (i j : ℕ) → AreFleetIds ids → i < length (tree_by ids) → j < length (tree_by ids)
    → id_of (tree_by ids) i ≡ id_of (tree_by ids) j → i ≡ j
same_node ids i j are h k e =
    one_place ids i j (distinct_by ids are) (omega (arith, count_by ids)) (omega (arith, count_by ids)) (sym (id_at ids i) ∙ e ∙ id_at ids j)

-- where an id was found
pub found_at : (ids : List (List ℕ)) (id : List ℕ) (i : ℕ) → position (bytes_eq id) ids ≡ Some i
    → (i < length (tree_by ids)) × (id_of (tree_by ids) i ≡ id)
found_at ids id i e =
    let p = position-Some (bytes_eq id) ids i [] e in
    (omega (arith, p.0, count_by ids), id_at ids i ∙ sym ((bytes_eq-Decides id (get_or ids i [])).0 p.1))

not_true : (b : Bool) → not b ≡ true → b ≡ false
not_true true e = cc
not_true false e = refl

-- and where none was
pub not_found : (ids : List (List ℕ)) (id : List ℕ) (i : ℕ) → position (bytes_eq id) ids ≡ None → i < length (tree_by ids) → id_of (tree_by ids) i ≡ id → ⊥
not_found ids id i e h same =
    let low = no_place _ (length ids) e in
    let pass = prefix_len_passes (λ y. not (bytes_eq id y)) ids i [] (omega (arith, count_by ids)) in
    both_ways (bytes_eq id (get_or ids i [])) (not_true _ pass) ((bytes_eq-Decides id (get_or ids i [])).1 (sym same ∙ id_at ids i))

and_both : (x y : Bool) → (x && y) ≡ true → (x ≡ true) × (y ≡ true)
and_both true y e = (refl, e)
and_both false y e = cc

no_blank : (b : ℕ) → is_id_byte b ≡ true → (b == 32) ≡ false
no_blank b e = grind arith

solid_bytes : (bytes : List ℕ) → list_all is_id_byte bytes ≡ true → Lacks 32 bytes
solid_bytes [] e = tt
solid_bytes (b ∷ bytes) e = let p = and_both _ _ e in (no_blank b p.0, solid_bytes bytes p.1)

-- no id has a space
pub solid_id : (id : List ℕ) → IsId id → Lacks 32 id
solid_id id h = solid_bytes id h.2

-- one more minion
all_more : (P : List ℕ → Type 0) (xs : List (List ℕ)) (x : List ℕ) → AllByRecursion P xs → P x → AllByRecursion P (xs ++ x ∷ [])
all_more P [] x all h = (h, tt)
all_more P (y ∷ ys) x all h = (all.0, all_more P ys x all.1 h)

len_more : (xs : List (List ℕ)) (x : List ℕ) → length (xs ++ x ∷ []) ≡ length xs + 1
len_more [] x = refl
len_more (y ∷ ys) x = let h = len_more ys x in omega arith

pub one_more : (top : List ℕ) (minions : List (List ℕ)) (id : List ℕ) → HasIds top minions → IsName id → list_any (bytes_eq id) (top ∷ minions) ≡ false
    → length minions < 4096 → HasIds top (minions ++ id ∷ [])
one_more top minions id has name new few = record {
  names = all_more IsName (top ∷ minions) id has.names name;
  distinct = IsDistinct-push nat_list_eq_equiv (top ∷ minions) id has.distinct new;
  few = omega (arith, len_more minions id);
}

-- the front of a fleet
all_front : (P : List ℕ → Type 0) (xs ys : List (List ℕ)) → AllByRecursion P (xs ++ ys) → AllByRecursion P xs
all_front P [] ys all = tt
all_front P (x ∷ xs) ys all = (all.0, all_front P xs ys all.1)

distinct_front : (xs ys : List (List ℕ)) → IsDistinct bytes_eq (xs ++ ys) → IsDistinct bytes_eq xs
unfolding IsDistinct
distinct_front [] ys d = tt
distinct_front (x ∷ xs) ys d = (all_front (λ y. bytes_eq x y ≡ false) xs ys d.0, distinct_front xs ys d.1)

len_front : (xs ys : List (List ℕ)) → length xs ≤ length (xs ++ ys)
len_front [] ys = omega arith
len_front (x ∷ xs) ys = let h = len_front xs ys in omega arith

pub front_ids : (top : List ℕ) (xs ys : List (List ℕ)) → HasIds top (xs ++ ys) → HasIds top xs
front_ids top xs ys has = record {
  names = all_front IsName (top ∷ xs) ys has.names;
  distinct = distinct_front (top ∷ xs) ys has.distinct;
  few = let h = has.few in let k = len_front xs ys in omega arith;
}

-- the other way: of distinct ids the last is new
none_equal : (x : List ℕ) (b : Bool) (id : List ℕ) → bytes_eq x id ≡ false → bytes_eq id x ≡ b → b ≡ false
none_equal x true id e f = absurd (both_ways (bytes_eq x id) e ((bytes_eq-Decides x id).1 (sym ((bytes_eq-Decides id x).0 f))))
none_equal x false id e f = refl

all_last : (P : List ℕ → Type 0) (xs : List (List ℕ)) (x : List ℕ) → AllByRecursion P (xs ++ x ∷ []) → P x
all_last P [] x all = all.0
all_last P (y ∷ ys) x all = all_last P ys x all.1

last_new : (xs : List (List ℕ)) (id : List ℕ) → IsDistinct bytes_eq (xs ++ id ∷ []) → list_any (bytes_eq id) xs ≡ false
unfolding IsDistinct
last_new [] id d = refl
last_new (x ∷ xs) id d = rw (none_equal x _ id (all_last (λ y. bytes_eq x y ≡ false) xs id d.0) refl) (last_new xs id d.1)

pub new_id : (top : List ℕ) (minions : List (List ℕ)) (id : List ℕ) → HasIds top (minions ++ id ∷ []) → list_any (bytes_eq id) (top ∷ minions) ≡ false
new_id top minions id has = last_new (top ∷ minions) id has.distinct

pub name_of_last : (top : List ℕ) (minions : List (List ℕ)) (id : List ℕ) → HasIds top (minions ++ id ∷ []) → IsName id
name_of_last top minions id has = all_last IsName (top ∷ minions) id has.names

pub room_for : (top : List ℕ) (minions : List (List ℕ)) (id : List ℕ) → HasIds top (minions ++ id ∷ []) → length minions < 4096
room_for top minions id has = let h = has.few in omega (arith, len_more minions id)

pub one_name : (top : List ℕ) → IsName top → HasIds top []
unfolding IsDistinct
one_name top name = record { names = (name, tt); distinct = (tt, tt); few = omega arith }
