-- The rows of a report: for which minions there is one, and that their ids ascend.
use Rattle.std.proofs.Common.{◌≡◌, ℕ, zero, suc, ◌<◌, ◌≤◌, inl, inr, ◌∙◌, sym, ap, refl, Bool, true, false, ◌&&◌, List, [], ◌∷◌, length, arith}
use Rattle.std.specs.Prelude.{All, Contains, Option, None, Some, map, filter_map}
use Rattle.std.specs.List.{AllByRecursion, cons_option}
use Rattle.std.specs.declared.cmp.Ordering.{Ordering}
use Rattle.std.specs.declared.cmp.Ordering.TheVariants.{Less, Equal, Greater}
use Rattle.std.specs.Ordering.{is_lt, is_eq, nat_cmp}
use Rattle.std.specs.Cmp.Lexicographic.{slice_cmp}
use Rattle.std.specs.List.Sorted.{IsStrictlySortedBy}
use Rattle.std.proofs.lemmas.Bool.{cases_lt}
use Rattle.std.proofs.lemmas.Map.Text.{is_eq-slice_cmp}
use Rattle.std.proofs.lemmas.Slice.Eq.{bytes_eq-Decides}
use Rattle.std.proofs.lemmas.List.Elements.{All-contains, recursion_from_All, All-filter, All-weaker, filter_passes}
use Rattle.fleet_config.specs.Tree.{Tree, up_to, id_of, held_of, place_of, is_minion, is_within, parent_of, branch_by, minions, IsTree}
use Rattle.salt_wire.specs.declared.message.Job.{Job}
use Rattle.salt_value.specs.declared.outcome.Outcome.{Outcome}
use Rattle.salt_value.specs.declared.outcome.Row.{Row}
use Rattle.minion_core.specs.Flat.{row_of, flat_up, return_of}
use Rattle.tree_world.specs.Report.{is_before, by_id, rows, flat_report}
use Rattle.tree_laws.specs.Laws.{flat_outcome, IsFlatRow, HasFlatRows, AscendById}
use Rattle.tree_world.proofs.Orders.{is_order}
use Rattle.tree_laws.proofs.Ascends.{Pairs, flat_all, map_all, map_has, filter_has, up_to_has, up_to_rises, pairs_filter, ordered_ascends, ordered_has}
use Rattle.tree_laws.proofs.Places.{place_at}
use Rattle.tree_laws.proofs.Trees.{parent_before, within_test, minion_low, both}
use Rattle.fleet_config.proofs.Walk.{branch_cases}
use Rattle.std.specs.Ordering.{ordering_reverse}
use Rattle.std.proofs.lemmas.Cmp.{nat_list_cmp_total}

-- what holds of all the nodes holds of all in order
pub by_id_all : (t : Tree) (P : ℕ → Type 0) (ms : List ℕ) → All P ms → All P (by_id t ms)
by_id_all t P ms h = flat_all P _ (λ n. All-filter _ P ms h) (up_to (length ms))

-- ---- every node lies within the top

under_top : (t : Tree) → IsTree t → (k m : ℕ) → 0 < m → m ≤ k → 0 < branch_by t k 0 m
under_top t h zero m lo up = absurd (omega arith)
under_top t h (suc k) m lo up = elim (branch_cases t k 0 m) [
  | inl a ↦ absurd (let x = a.0 in omega arith)
  | inr b ↦ elim b [
    | inl a ↦ rw a.2 lo
    | inr a ↦ let x = parent_before t m h lo in
        rw a.2 (under_top t h k (parent_of t m) (above (parent_of t m) a.1) (omega arith))
  ]
] where
  above : (n : ℕ) → (n ≡ 0 → ⊥) → 0 < n
  above n f = elim (cases_lt 0 n) [ inl l ↦ l | inr u ↦ absurd (f (omega arith)) ]

pub top_within : (t : Tree) (m : ℕ) → IsTree t → is_within t 0 m ≡ true
top_within t m h = elim (cases_lt 0 m) [
  | inl l ↦ within_test t 0 m (inr (under_top t h m m l (omega arith)))
  | inr u ↦ within_test t 0 m (inl (omega arith))
]

minion_there : (t : Tree) (m : ℕ) → IsTree t → is_minion t m ≡ true → Contains (minions t 0) m
minion_there t m h e =
    filter_has (λ k. is_minion t k && is_within t 0 k) (up_to (length t)) m (up_to_has (length t) m (minion_low t m e)) (rw (e, top_within t m h) refl)

-- ---- no two minions tie

less_of : (c : Ordering) → is_lt c ≡ true → c ≡ Less
less_of Less e = refl
less_of Equal e = absurd cc
less_of Greater e = absurd cc

tied : (c d : Ordering) → d ≡ ordering_reverse c → is_lt c ≡ false → is_lt d ≡ false → d ≡ Equal
tied Less d e f g = absurd cc
tied Equal d e f g = e
tied Greater d e f g = absurd (let x = sym (ap is_lt e) ∙ g in cc)

same_ids : (a b : List ℕ) → is_before a b ≡ false → is_before b a ≡ false → a ≡ b
same_ids a b e f =
    let level : slice_cmp nat_cmp a b ≡ Equal = tied (slice_cmp nat_cmp b a) (slice_cmp nat_cmp a b) (nat_list_cmp_total.antisymm a b) f e in
    (bytes_eq-Decides a b).0 (sym (is_eq-slice_cmp a b) ∙ ap is_eq level)

all_minions : (t : Tree) → All (λ m. is_minion t m ≡ true) (minions t 0)
all_minions t =
    All-weaker (λ m. (is_minion t m && is_within t 0 m) ≡ true) (λ m. is_minion t m ≡ true) (λ m e. (both (is_minion t m) (is_within t 0 m) e).0)
    (minions t 0) (filter_passes (λ m. is_minion t m && is_within t 0 m) (up_to (length t)))

abbrev Before : Tree → ℕ → ℕ → Bool
Before t x y = is_before (id_of t x) (id_of t y)

never_tied : (t : Tree) → IsTree t → (x y : ℕ) → Contains (minions t 0) x → Contains (minions t 0) y → x < y → Before t x y ≡ false → Before t y x ≡ false → ⊥
never_tied t h x y a b l e f =
    let mx = All-contains (λ m. is_minion t m ≡ true) (minions t 0) x (all_minions t) a in
    let my = All-contains (λ m. is_minion t m ≡ true) (minions t 0) y (all_minions t) b in
    let same = h.distinct x y (minion_low t x mx) (minion_low t y my) (same_ids (id_of t x) (id_of t y) e f) in
    omega arith

-- the minions by their ids ascend strictly
pub minions_ascend : (t : Tree) → IsTree t → Pairs (λ x y. Before t x y ≡ true) (by_id t (minions t 0))
minions_ascend t h =
    ordered_ascends (Before t) (is_order t) (minions t 0) (λ x y. x < y) (never_tied t h)
    (pairs_filter (λ x y. x < y) (λ m. is_minion t m && is_within t 0 m) (up_to (length t)) (up_to_rises (length t)))

-- ---- the ids of the rows

above : (id : ℕ → List ℕ) (o : ℕ → Option Outcome) (m : ℕ) (l : List ℕ) → AllByRecursion (λ y. is_before (id m) (id y) ≡ true) l
    → AllByRecursion (λ b. slice_cmp nat_cmp (id m) b ≡ Less) (map (λ row. row.id) (filter_map (λ k. row_of (id k) (o k)) l))
above id o m [] h = tt
above id o m (y ∷ l) h = one (above id o m l h.1) (o y) where
  one : AllByRecursion (λ b. slice_cmp nat_cmp (id m) b ≡ Less) (map (λ row. row.id) (filter_map (λ k. row_of (id k) (o k)) l))
      → (c : Option Outcome) → AllByRecursion (λ b. slice_cmp nat_cmp (id m) b ≡ Less) (map (λ row. row.id) (cons_option (row_of (id y) c) (filter_map (λ k. row_of (id k) (o k)) l)))
  one rest None = rest
  one rest (Some x) = (less_of (slice_cmp nat_cmp (id m) (id y)) h.0, rest)

row_ids : (id : ℕ → List ℕ) (o : ℕ → Option Outcome) (l : List ℕ) → Pairs (λ x y. is_before (id x) (id y) ≡ true) l
    → IsStrictlySortedBy (slice_cmp nat_cmp) (map (λ row. row.id) (filter_map (λ k. row_of (id k) (o k)) l))
unfolding IsStrictlySortedBy
row_ids id o [] h = tt
row_ids id o (m ∷ l) h = one (row_ids id o l h.1) (o m) where
  one : IsStrictlySortedBy (slice_cmp nat_cmp) (map (λ row. row.id) (filter_map (λ k. row_of (id k) (o k)) l))
      → (c : Option Outcome) → IsStrictlySortedBy (slice_cmp nat_cmp) (map (λ row. row.id) (cons_option (row_of (id m) c) (filter_map (λ k. row_of (id k) (o k)) l)))
  one rest None = rest
  one rest (Some x) = (above id o m l h.0, rest)

pub rows_ascend : (t : Tree) (outcome : List ℕ → Option Outcome) → IsTree t → AscendById (rows t outcome)
rows_ascend t outcome h = row_ids (id_of t) (λ m. outcome (id_of t m)) (by_id t (minions t 0)) (minions_ascend t h)

-- ---- which rows there are

row_is : (id : List ℕ) (o : Option Outcome) (row : Row) → row_of id o ≡ Some row → (id ≡ row.id) × (o ≡ Some row.outcome)
row_is id None row e = absurd cc
row_is id (Some x) row e =
    let same : record { id = id; outcome = x } ≡ row = cc in
    (ap (λ (r : Row). r.id) same, ap (λ (r : Row). Some r.outcome) same)

row_back : (id : List ℕ) (o : Option Outcome) (row : Row) → id ≡ row.id → o ≡ Some row.outcome → row_of id o ≡ Some row
row_back id o row e f = ap (row_of id) f ∙ ap (λ (i : List ℕ). row_of i (Some row.outcome)) e

-- the outcome that the flat report has of a minion, which it finds by its id
found_outcome : Tree → List Job → ℕ → ℕ → Option Outcome
found_outcome t jobs seq m = return_of seq (flat_up 0 (id_of t m) (held_of t (place_of t (id_of t m))) jobs)

outcome_found : (t : Tree) (jobs : List Job) (seq m : ℕ) → IsTree t → is_minion t m ≡ true → found_outcome t jobs seq m ≡ flat_outcome t jobs m seq
unfolding found_outcome
outcome_found t jobs seq m h z = ap (λ i. return_of seq (flat_up 0 (id_of t m) (held_of t i) jobs)) (place_at t m h (minion_low t m z))

pub flat_rows : (t : Tree) (jobs : List Job) (seq : ℕ) → IsTree t → HasFlatRows t jobs seq
unfolding found_outcome
flat_rows t jobs seq h row =
    let ms : List ℕ = minions t 0 in
    let out : ℕ → Option Outcome = found_outcome t jobs seq in
    let P : ℕ → Type 0 = λ m. (r : Row) → row_of (id_of t m) (out m) ≡ Some r → IsFlatRow t jobs seq r in (
      (λ there. All-contains (IsFlatRow t jobs seq) (flat_report t jobs seq) row
          (map_all (λ m. row_of (id_of t m) (out m)) (IsFlatRow t jobs seq) (by_id t ms)
          (recursion_from_All P (by_id t ms)
          (All-weaker (λ m. is_minion t m ≡ true) P (λ m z r e. let is = row_is (id_of t m) (out m) r e in (m, z, is.0, sym (outcome_found t jobs seq m h z) ∙ is.1)) (by_id t ms)
          (by_id_all t (λ m. is_minion t m ≡ true) ms (all_minions t))))) there),
      (λ is. map_has (λ m. row_of (id_of t m) (out m)) (by_id t ms) is.0 row
          (ordered_has (Before t) (is_order t) ms (λ x y. x < y) (never_tied t h) is.0 (minion_there t is.0 h is.1))
          (row_back (id_of t is.0) (out is.0) row is.2 (outcome_found t jobs seq is.0 h is.1 ∙ is.3))),
    )
