-- How many packets a settle sends.
use Rattle.std.proofs.Common.{◌≡◌, ℕ, zero, suc, ◌+◌, ◌-◌, ◌*◌, ◌<◌, ◌≤◌, ◌⊎◌, ◌∙◌, sym, ap, refl, inl, inr, Bool, true, false, max, List, [], ◌∷◌, length, arith, le_refl}
use Rattle.std.specs.Prelude.{map, fold, filter, ◌&&◌, if◌then◌else◌}
use Rattle.std.specs.List.{AllByRecursion}
use Rattle.std.proofs.lemmas.Bool.{cases_eq, lt-ltb}
use Rattle.std.proofs.lemmas.Bool.Decides.{leb_tells}
use Rattle.std.proofs.lemmas.List.Elements.{All-contains, All-from_recursion}
use Rattle.std.proofs.Math.Nat.{mul-le-mul_left}
use Rattle.fleet_config.proofs.Walk.{branch_cases}
use Rattle.fleet_config.specs.Fleet.{FleetConfig}
use Rattle.fleet_config.specs.Tree.{Tree, id_of, is_parent, is_minion, parent_of, level, level_by, branch, branch_by, is_within, IsTree, minions, up_to}
use Rattle.salt_wire.specs.declared.message.Job.{Job}
use Rattle.salt_wire.specs.declared.deed.Deed.{Deed}
use Rattle.node_core.specs.Records.{jobs_held, log}
use Rattle.tree_world.specs.Network.{Network, node_at, top_jobs}
use Rattle.tree_world.specs.Settle.{after_settle, children, down_steps, down_child, down_children, down_pass, up_steps, up_minion, up_minions, up_pass, known_jobs_at, known_ups_at, node_log}
use Rattle.tree_laws.specs.Invariant.{Holds}
use Rattle.tree_laws.specs.Settles.{level_count, entry_count, SendsFewPackets}
use Rattle.tree_laws.proofs.Lists.{prefix_length}
use Rattle.tree_laws.proofs.Trees.{IsChild, child, branch_in, enough, parent_before, parent_test, within_cases, within_test, deep, minion_low}
use Rattle.tree_laws.proofs.Places.{IsMinionIn}
use Rattle.tree_laws.proofs.Turns.{minions_in}
use Rattle.tree_laws.proofs.Ascends.{up_to_has}
use Rattle.tree_laws.proofs.Rows.{top_within}
use Rattle.tree_laws.proofs.Passes.{children_of, down_steps_hold, down_pass_holds, up_steps_hold, up_minions_hold}
use Rattle.tree_laws.proofs.Downs.{Later, later_same, later_trans, held_most, HasToldChild, child_told}
use Rattle.tree_laws.proofs.Chains.{chain}
use Rattle.tree_laws.proofs.Ups.{LaterUp, later_up_same, later_up_trans, HasToldParent, parent_told}
use Rattle.tree_laws.proofs.Sums.{added, added_is, total, passing, one_if, total_most, added_join}

-- ---- the way down: two packets for each job and each child

child_packets : (f : FleetConfig) (p c j : ℕ) (w : Network) → IsTree f.tree → Holds f.tree w → is_parent f.tree p c ≡ true → length (top_jobs w) ≡ j
    → Later w (down_child f p c w) × (length (down_child f p c w).packets ≤ length w.packets + 2 * j)
child_packets f p c j w fleet h par e =
    let k : ℕ = jobs_held (node_at w.nodes p).records - known_jobs_at w p c in
    let v : Network = down_steps f p c k w in
    let hv : Holds f.tree v = down_steps_hold f p c fleet par k w h in
    let d : HasToldChild p c w v = child_told f p c fleet par k w h (omega arith) in
    let ch : IsChild f.tree p c = child f.tree p c par in
    let pair = (hv.pairs c ch.some ch.within).known_jobs in
    let at : known_jobs_at v p c ≤ jobs_held (node_at v.nodes c).records = rw ch.parent at pair in
    let most = held_most f.tree v c hv ch.within in
    let same = ap (λ (js : List Job). length js) d.later.top in
    let x = d.packets in
    (d.later, omega arith)

children_packets : (f : FleetConfig) (p j : ℕ) → IsTree f.tree → (cs : List ℕ) → AllByRecursion (λ c. is_parent f.tree p c ≡ true) cs → (w : Network) → Holds f.tree w → length (top_jobs w) ≡ j
    → Later w (down_children f p cs w) × (length (down_children f p cs w).packets ≤ length w.packets + 2 * added (λ c. j) cs)
children_packets f p j fleet [] all w h e = (later_same w, omega arith)
children_packets f p j fleet (c ∷ cs) all w h e =
    let v : Network = down_child f p c w in
    let hv : Holds f.tree v = down_steps_hold f p c fleet all.0 _ w h in
    let one = child_packets f p c j w fleet h all.0 e in
    let rest = children_packets f p j fleet cs all.1 v hv (ap (λ (js : List Job). length js) one.0.top ∙ e) in
    let x = one.1 in let y = rest.1 in
    (later_trans w v (down_children f p cs v) one.0 rest.0, omega arith)

down_packets : (f : FleetConfig) (j : ℕ) → IsTree f.tree → (k : ℕ) (w : Network) → Holds f.tree w → length (top_jobs w) ≡ j
    → Later w (down_pass f k w) × (length (down_pass f k w).packets ≤ length w.packets + 2 * total (is_parent f.tree) (λ c. j) k (length f.tree))
down_packets f j fleet zero w h e = (later_same w, omega arith)
down_packets f j fleet (suc p) w h e =
    let u : Network = down_pass f p w in
    let hu : Holds f.tree u = down_pass_holds f fleet p w h in
    let before = down_packets f j fleet p w h e in
    let here = children_packets f p j fleet (children f.tree p) (children_of f.tree p) u hu (ap (λ (js : List Job). length js) before.0.top ∙ e) in
    let x = before.1 in let y = here.1 in
    (later_trans w u (down_children f p (children f.tree p) u) before.0 here.0, omega arith)

not_child : (f : Tree) (k : ℕ) → passing (is_parent f) k 0 ≡ 0
not_child f zero = refl
not_child f (suc k) = let h = not_child f k in omega arith

-- a place has one parent
once_more : (f : Tree) (m k : ℕ) (t : Bool) → is_parent f k m ≡ t → (passing (is_parent f) k m ≡ 0) ⊎ ((passing (is_parent f) k m ≤ 1) × (parent_of f m < k))
    → (passing (is_parent f) (suc k) m ≡ 0) ⊎ ((passing (is_parent f) (suc k) m ≤ 1) × (parent_of f m < suc k))
once_more f m k false e (inl h) = inl (rw e (omega arith))
once_more f m k false e (inr h) = inr (rw e (let x = h.0 in omega arith), let x = h.1 in omega arith)
once_more f m k true e (inl h) = inr (rw e (omega arith), let x = (child f k m e).parent in omega arith)
once_more f m k true e (inr h) = absurd (let x = (child f k m e).parent in let y = h.1 in omega arith)

parent_once : (f : Tree) (m k : ℕ) → (passing (is_parent f) k m ≡ 0) ⊎ ((passing (is_parent f) k m ≤ 1) × (parent_of f m < k))
parent_once f m zero = inl refl
parent_once f m (suc k) = once_more f m k (is_parent f k m) refl (parent_once f m k)

parent_most : (f : Tree) (m k : ℕ) → passing (is_parent f) k m ≤ 1
parent_most f m k = elim (parent_once f m k) [ inl h ↦ omega arith | inr h ↦ h.0 ]

-- j for each place but the top
abbrev for_children : ℕ → ℕ → ℕ
for_children j zero = 0
for_children j (suc m) = j

for_children_sum : (j n : ℕ) → added (for_children j) (up_to (suc n)) ≡ j * n
for_children_sum j zero = omega arith
for_children_sum j (suc n) =
    let h = for_children_sum j n in
    let e = added_join (for_children j) (up_to (suc n)) (suc n ∷ []) in
    omega arith

for_child : (f : Tree) (j k m : ℕ) → j * passing (is_parent f) k m ≤ for_children j m
for_child f j k zero = let e = not_child f k in rw e (omega arith)
for_child f j k (suc m) = let h = mul-le-mul_left j (parent_most f (suc m) k) in omega arith

pub down_most : (f : Tree) (j n : ℕ) → total (is_parent f) (λ c. j) (suc n) (suc n) ≤ j * n
down_most f j n =
    let h = total_most (is_parent f) (λ c. j) (for_children j) (suc n) (suc n) (λ m l. for_child f j (suc n) m) in
    let e = for_children_sum j n in
    omega arith

-- ---- the way up: two packets for each entry of a minion and each node at or above it but the top

-- how many entries minion m has in its own log
own_log : Tree → Network → ℕ → ℕ
own_log f w m = length (node_log f w m m)

minion_packets : (f : FleetConfig) (b : Network) (c m : ℕ) (w : Network) → IsTree f.tree → Holds f.tree w → 0 < c → c < length f.tree → IsMinionIn f.tree c m → LaterUp f.tree b w
    → LaterUp f.tree b (up_minion f c m w) × (length (up_minion f c m w).packets ≤ length w.packets + 2 * own_log f.tree b m)
unfolding own_log
minion_packets f b c m w fleet h lo up i late =
    let um : m < length f.tree = minion_low f.tree m i.minion in
    let k : ℕ = length (node_log f.tree w c m) - known_ups_at w c m in
    let v : Network = up_steps f c m k w in
    let hv : Holds f.tree v = up_steps_hold f c m fleet lo up i k w h in
    let d : HasToldParent f.tree c m w v = parent_told f c m fleet lo up i k w h (omega arith) in
    let all : LaterUp f.tree b v = later_up_trans f.tree b w v late d.later in
    let p : ℕ = parent_of f.tree c in
    let through : branch f.tree p m ≡ c = branch_in f.tree fleet p c m (parent_test f.tree c lo up) i.within in
    let known = (hv.pairs c lo up).known_ups m through in
    let whole = prefix_length _ _ (chain f.tree v fleet hv m p m um (omega arith) (within_test f.tree p m (inr (rw through lo)))) in
    let own = ap (λ (rs : List Deed). length (log (id_of f.tree m) rs)) (all.own m i.minion) in
    let x = d.packets in
    (all, omega arith)

minions_packets : (f : FleetConfig) (b : Network) (c : ℕ) → IsTree f.tree → 0 < c → c < length f.tree → (ms : List ℕ) → AllByRecursion (IsMinionIn f.tree c) ms → (w : Network) → Holds f.tree w → LaterUp f.tree b w
    → LaterUp f.tree b (up_minions f c ms w) × (length (up_minions f c ms w).packets ≤ length w.packets + 2 * added (own_log f.tree b) ms)
minions_packets f b c fleet lo up [] all w h late = (late, omega arith)
minions_packets f b c fleet lo up (m ∷ ms) all w h late =
    let v : Network = up_minion f c m w in
    let hv : Holds f.tree v = up_steps_hold f c m fleet lo up all.0 _ w h in
    let one = minion_packets f b c m w fleet h lo up all.0 late in
    let rest = minions_packets f b c fleet lo up ms all.1 v hv one.0 in
    let x = one.1 in let y = rest.1 in
    (rest.0, omega arith)

-- minion m lies at or below the place after c
abbrev in_next : Tree → ℕ → ℕ → Bool
in_next f c m = is_minion f m && is_within f (suc c) m

leb_cases : (t : Bool) → (t ≡ true) ⊎ (t ≡ false)
leb_cases true = inl refl
leb_cases false = inr refl

up_packets : (f : FleetConfig) (b : Network) → IsTree f.tree → (k : ℕ) → suc k ≤ length f.tree → (w : Network) → Holds f.tree w → LaterUp f.tree b w
    → LaterUp f.tree b (up_pass f (suc k) w) × (length (up_pass f (suc k) w).packets ≤ length w.packets + 2 * total (in_next f.tree) (own_log f.tree b) k (length f.tree))
up_packets f b fleet zero l w h late = (late, omega arith)
up_packets f b fleet (suc k) l w h late =
    let c : ℕ = suc k in
    let u : Network = up_minions f c (minions f.tree c) w in
    let hu : Holds f.tree u = up_minions_hold f c fleet (omega arith) l (minions f.tree c) (minions_in f.tree c) w h in
    let here = minions_packets f b c fleet (omega arith) l (minions f.tree c) (minions_in f.tree c) w h late in
    let rest = up_packets f b fleet k (omega arith) u hu here.0 in
    let x = here.1 in let y = rest.1 in
    rw (lt-ltb 0 c (omega arith)) (rest.0, omega arith)

-- ---- the places at or above a node, but the top, are fewer than its level

enough_down : (f : Tree) → IsTree f → (k c q : ℕ) → q ≤ k → branch_by f k c q ≡ branch_by f q c q
enough_down f h zero c q l = let e : q ≡ 0 = omega arith in rw e refl
enough_down f h (suc k) c q l = elim (cases_eq q (suc k)) [
  | inl e ↦ rw e refl
  | inr ne ↦ enough f h k c q (omega arith) ∙ enough_down f h k c q (omega arith)
]

within_up : (f : Tree) → IsTree f → (c m : ℕ) → (c ≡ m → ⊥) → is_within f c m ≡ true → (0 < m) × (is_within f c (parent_of f m) ≡ true)
within_up f h c zero ne i = absurd (elim (within_cases f c zero i) [ inl e ↦ ne e | inr l ↦ let z = deep f h 0 c 0 l in omega arith ])
within_up f h c (suc m) ne i = elim (within_cases f c (suc m) i) [
  | inl e ↦ absurd (ne e)
  | inr l ↦ elim (branch_cases f m c (suc m)) [
    | inl a ↦ absurd (let x = a.0 in omega arith)
    | inr b ↦ elim b [
      | inl a ↦ (a.0, within_test f c (parent_of f (suc m)) (inl (sym a.1)))
      | inr a ↦
          let less = parent_before f (suc m) h a.0 in
          let on : 0 < branch_by f m c (parent_of f (suc m)) = rw a.2 at l in
          (a.0, within_test f c (parent_of f (suc m)) (inr (rw (enough_down f h m c (parent_of f (suc m)) (omega arith)) at on)))
    ]
  ]
]

-- node m lies at or below the place after c
abbrev below_next : Tree → ℕ → ℕ → Bool
below_next f c m = is_within f (suc c) m

one_most : (t : Bool) → one_if t ≤ 1
one_most true = omega arith
one_most false = omega arith

one_same : (s t : Bool) → (s ≡ true → t ≡ true) → one_if s ≤ one_if t
one_same true t g = rw (g refl) (omega arith)
one_same false t g = omega arith

above_one : (f : Tree) → IsTree f → (m k : ℕ) →
    (passing (below_next f) k m ≤ passing (below_next f) k (parent_of f m)) ⊎ ((passing (below_next f) k m ≤ passing (below_next f) k (parent_of f m) + 1) × (m ≤ k))
above_one f h m zero = inl (omega arith)
above_one f h m (suc k) =
    let here = above_one f h m k in
    elim (cases_eq (suc k) m) [
      | inl e ↦ elim here [
        | inl a ↦ inr (let x = one_most (is_within f (suc k) m) in omega arith, omega arith)
        | inr a ↦ absurd (let x = a.1 in omega arith)
      ]
      | inr ne ↦
          let x = one_same (is_within f (suc k) m) (is_within f (suc k) (parent_of f m)) (λ i. (within_up f h (suc k) m ne i).1) in
          elim here [
            | inl a ↦ inl (omega arith)
            | inr a ↦ inr (let y = a.0 in omega arith, let y = a.1 in omega arith)
          ]
    ]

none_above : (f : Tree) → IsTree f → (k : ℕ) → passing (below_next f) k 0 ≡ 0
none_above f h zero = refl
none_above f h (suc k) = let e = none_above f h k in elim (leb_cases (is_within f (suc k) 0)) [
  | inl y ↦ absurd (let r = (within_up f h (suc k) 0 (λ z. omega arith) y).0 in omega arith)
  | inr y ↦ rw y (omega arith)
]

level_above : (f : Tree) → IsTree f → (k x m : ℕ) → m ≤ x → passing (below_next f) k m + 1 ≤ level_by f x m
unfolding level_by
level_above f h k zero m l = let e : m ≡ 0 = omega arith in let z = none_above f h k in rw e (omega arith)
level_above f h k (suc x) m l = elim (leb_tells 1 m) [
  | inl y ↦ rw y.0 (let less = parent_before f m h y.1 in let r = level_above f h k x (parent_of f m) (omega arith) in
      elim (above_one f h m k) [ inl a ↦ omega arith | inr a ↦ let z = a.0 in omega arith ])
  | inr y ↦ rw y.0 (let e : m ≡ 0 = omega arith in let z = none_above f h k in rw e (omega arith))
]

minion_passing : (f : Tree) (k m : ℕ) → is_minion f m ≡ true → passing (in_next f) k m ≤ passing (below_next f) k m
minion_passing f zero m z = omega arith
minion_passing f (suc k) m z = let h = minion_passing f k m z in
    let x = one_same (is_minion f m && is_within f (suc k) m) (is_within f (suc k) m) (λ e. rw z at e) in omega arith

master_passing : (f : Tree) (k m : ℕ) → is_minion f m ≡ false → passing (in_next f) k m ≡ 0
master_passing f zero m z = refl
master_passing f (suc k) m z = let h = master_passing f k m z in rw z (omega arith)

-- what the numbers give, so many times, but only where the place is one of the minions
abbrev for_minion : Tree → (ℕ → ℕ) → ℕ → ℕ → ℕ
for_minion f g l m = (if is_minion f m && is_within f 0 m then g m else 0) * l

for_minions_sum : (f : Tree) (g : ℕ → ℕ) (l : ℕ) (xs : List ℕ) → added (for_minion f g l) xs ≡ added g (filter (λ m. is_minion f m && is_within f 0 m) xs) * l
for_minions_sum f g l [] = omega arith
for_minions_sum f g l (x ∷ xs) = let h = for_minions_sum f g l xs in elim (leb_cases (is_minion f x && is_within f 0 x)) [
  | inl y ↦ rw y (omega arith)
  | inr y ↦ rw y (omega arith)
]

for_each_minion : (f : Tree) → IsTree f → (g : ℕ → ℕ) (levels k m : ℕ) → level f m ≤ levels → g m * passing (in_next f) k m ≤ for_minion f g (levels - 1) m
for_each_minion f h g levels k m l = elim (leb_cases (is_minion f m)) [
  | inl y ↦ let a = minion_passing f k m y in let b = level_above f h k m m (le_refl m) in
      let c : passing (in_next f) k m ≤ levels - 1 = omega arith in rw (y, top_within f m h) (mul-le-mul_left (g m) c)
  | inr y ↦ rw (y, master_passing f k m y) (omega arith)
]

same_sums : (f : Tree) (b v : Network) → LaterUp f b v → (ms : List ℕ) → AllByRecursion (IsMinionIn f 0) ms → added (own_log f b) ms ≡ added (λ m. length (node_log f v m m)) ms
unfolding own_log
same_sums f b v late [] all = refl
same_sums f b v late (m ∷ ms) all = let h = same_sums f b v late ms all.1 in let e = ap (λ (rs : List Deed). length (log (id_of f m) rs)) (late.own m all.0.minion) in omega arith

-- no level is over the greatest
fold_most : (g : ℕ → ℕ) (a : ℕ) (xs : List ℕ) → (a ≤ fold max a (map g xs)) × AllByRecursion (λ x. g x ≤ fold max a (map g xs)) xs
fold_most g a [] = (le_refl a, tt)
fold_most g a (x ∷ xs) = let r = fold_most g (max a (g x)) xs in let l = r.0 in (omega arith, (omega arith, r.1))

level_most : (f : Tree) (m : ℕ) → m < length f → level f m ≤ level_count f
level_most f m l =
    let ms : List ℕ = up_to (length f) in
    let P : ℕ → Type 0 = λ x. level f x ≤ level_count f in
    All-contains P ms m (All-from_recursion P ms (fold_most (level f) 0 ms).1) (up_to_has (length f) m l)

-- ---- both ways

pub bound_law : (f : FleetConfig) (w : Network) → IsTree f.tree → Holds f.tree w → SendsFewPackets f.tree w (after_settle f w)
bound_law f w fleet h = from (length f.tree) refl fleet.some where
  from : (n : ℕ) → length f.tree ≡ n → 0 < length f.tree → SendsFewPackets f.tree w (after_settle f w)
  from zero e some = absurd (omega arith)
  from (suc n) e some =
      let levels : ℕ = level_count f.tree in
      let ms : List ℕ = minions f.tree 0 in
      let u : Network = down_pass f (length f.tree) w in
      let hu : Holds f.tree u = down_pass_holds f fleet (length f.tree) w h in
      let j : ℕ = length (top_jobs w) in
      let down = (down_packets f j fleet (length f.tree) w h refl).1 in
      let down' : total (is_parent f.tree) (λ c. j) (length f.tree) (length f.tree) ≤ j * n = rw e (down_most f.tree j n) in
      let up : LaterUp f.tree u (up_pass f (suc n) u) × (length (up_pass f (suc n) u).packets ≤ length u.packets + 2 * total (in_next f.tree) (own_log f.tree u) n (length f.tree)) = up_packets f u fleet n (omega arith) u hu (later_up_same f.tree u) in
      let v : Network = up_pass f (suc n) u in
      let sums = total_most (in_next f.tree) (own_log f.tree u) (for_minion f.tree (own_log f.tree u) (levels - 1)) n (length f.tree) (λ m l. for_each_minion f.tree fleet (own_log f.tree u) levels n m (level_most f.tree m l)) in
      let all = for_minions_sum f.tree (own_log f.tree u) (levels - 1) (up_to (length f.tree)) in
      let same : added (own_log f.tree u) ms ≡ entry_count f.tree v = same_sums f.tree u v up.0 ms (minions_in f.tree 0) ∙ sym (added_is (λ m. length (node_log f.tree v m m)) ms) in
      let is : after_settle f w ≡ v = ap (λ (k : ℕ). up_pass f k u) e in
      let y = up.1 in
      let few : j * n ≡ j * (length f.tree - 1) = ap (λ (k : ℕ). j * k) (omega arith) in
      let times : added (own_log f.tree u) ms * (levels - 1) ≡ entry_count f.tree v * (levels - 1) = ap (λ (k : ℕ). k * (levels - 1)) same in
      rw is (omega arith)
