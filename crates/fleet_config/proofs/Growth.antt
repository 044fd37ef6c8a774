-- A tree with a node more is a tree.
use Rattle.std.proofs.Common.{◌≡◌, ℕ, zero, suc, ◌+◌, ◌-◌, ◌<◌, ◌≤◌, ◌∙◌, sym, ap, refl, subst, inl, inr, Bool, true, false, not, ◌&&◌, ◌||◌, nat_lt, List, [], ◌∷◌, ◌++◌, length, filter, Option, None, Some, unwrap_or, bytes_eq, cond, arith, if◌then◌else◌}
use Rattle.std.specs.Prelude.{is_none, position}
use Rattle.std.proofs.lemmas.Bool.{cases_lt, ltb-true, lt-ltb}
use Rattle.std.proofs.lemmas.Bool.Decides.{leb_tells}
use Rattle.std.proofs.lemmas.List.{get_or_append_left, get_or_push, length-append, length_push}
use Rattle.std.proofs.lemmas.List.Elements.{filter-append, All-nil, All-cons, All-push}
use Rattle.std.proofs.lemmas.Slice.Eq.{bytes_eq-Decides}
use Rattle.fleet_config.specs.declared.fleet.Member.{Member}
use Rattle.fleet_config.specs.declared.fleet.Role.{Role}
use Rattle.fleet_config.specs.declared.fleet.Role.TheVariants as role
use Rattle.fleet_config.specs.declared.node.FleetNode.{FleetNode}
use Rattle.fleet_config.specs.declared.node.NodeFault.{NodeFault}
use Rattle.fleet_config.specs.declared.node.NodeFault.TheVariants.{NoTop, TwoTops, TwiceId, NoParent, TooMany, TooDeep, TooLarge}
use Rattle.exec_functions.specs.declared.holdings.Holdings.{Holdings}
use Rattle.exec_functions.specs.Limits.{AreWithin, are_within}
use Rattle.salt_value.specs.declared.value.Value.TheVariants as v
use Rattle.salt_value.specs.FitTest.{fits}
use Rattle.salt_value.proofs.FitTests.{is_fit}
use Rattle.fleet_config.specs.Limits.{most_minions, most_syndics, most_levels}
use Rattle.fleet_config.specs.Causes.{first_cause}
use Rattle.fleet_config.specs.Tree.{Tree, IsTree, member, id_of, parent_of, is_top, is_minion, is_syndic, runs_jobs, minion_count, syndic_count, level, level_by}
use Rattle.fleet_config.specs.Growth.{member_of, is_placed, is_master_there, has_room, has_level, node_fault}
use Rattle.fleet_config.proofs.Trees.{minions_under, syndics_under, level_top, level_on, level_none}
use Rattle.indexmap.specs.IndexMap.{IndexMap, get}
use Rattle.fleet_config.specs.Places.{IsIndexed}
use Rattle.fleet_config.proofs.Places.{none_differs, none_of, place_push}

-- what the tests say where each holds
pub record Passed (t : Tree) (node : FleetNode) : Type 0 where
  pub top : (is_top node.role || nat_lt 0 (length t)) ≡ true
  pub one : not (is_top node.role && nat_lt 0 (length t)) ≡ true
  pub once : is_none (position (λ (m : Member). bytes_eq m.id node.id) t) ≡ true
  pub placed : is_placed t node.role node.parent ≡ true
  pub room : has_room t node.role ≡ true
  pub levels : has_level t node.parent ≡ true
  pub held : are_within node.held ≡ true

all_hold : (a b c d e f g : Bool) (t u v w x y z : NodeFault)
    → first_cause ((a, t) ∷ (b, u) ∷ (c, v) ∷ (d, w) ∷ (e, x) ∷ (f, y) ∷ (g, z) ∷ []) ≡ None
    → (a ≡ true) × (b ≡ true) × (c ≡ true) × (d ≡ true) × (e ≡ true) × (f ≡ true) × (g ≡ true)
all_hold false b c d e f g t u v w x y z h = absurd (cc)
all_hold true false c d e f g t u v w x y z h = absurd (cc)
all_hold true true false d e f g t u v w x y z h = absurd (cc)
all_hold true true true false e f g t u v w x y z h = absurd (cc)
all_hold true true true true false f g t u v w x y z h = absurd (cc)
all_hold true true true true true false g t u v w x y z h = absurd (cc)
all_hold true true true true true true false t u v w x y z h = absurd (cc)
all_hold true true true true true true true t u v w x y z h = (refl, refl, refl, refl, refl, refl, refl)

pub passed : (t : Tree) (node : FleetNode) → node_fault t node ≡ None → Passed t node
passed t node h =
    let all = all_hold (is_top node.role || nat_lt 0 (length t)) (not (is_top node.role && nat_lt 0 (length t)))
    (is_none (position (λ (m : Member). bytes_eq m.id node.id) t)) (is_placed t node.role node.parent) (has_room t node.role) (has_level t node.parent)
    (are_within node.held) NoTop TwoTops TwiceId NoParent TooMany TooDeep TooLarge h in
    record { top = all.0; one = all.1; once = all.2; placed = all.3; room = all.4; levels = all.5; held = all.6 }

both_hold : (a b : Bool) → (a && b) ≡ true → (a ≡ true) × (b ≡ true)
both_hold true b e = (refl, e)
both_hold false b e = absurd (cc)

-- holdings that pass the test are within the limits
holdings_fit : (held : Holdings) → are_within held ≡ true → AreWithin held
holdings_fit held e =
    let one = both_hold (fits (v.Map held.grains)) (fits (v.Map held.pillar) && (fits (v.Map held.store) && fits (v.Map held.mine))) e in
    let two = both_hold (fits (v.Map held.pillar)) (fits (v.Map held.store) && fits (v.Map held.mine)) one.1 in
    let three = both_hold (fits (v.Map held.store)) (fits (v.Map held.mine)) two.1 in
    record { grains = is_fit _ one.0; pillar = is_fit _ two.0; store = is_fit _ three.0; mine = is_fit _ three.1 }

opposite : (b : Bool) → not b ≡ true → b ≡ false
opposite true e = absurd (cc)
opposite false e = refl

left_holds : (a b : Bool) → b ≡ false → (a || b) ≡ true → a ≡ true
left_holds true b n e = refl
left_holds false b n e = let wrong : false ≡ true = sym n ∙ e in absurd (cc)

left_fails : (a b : Bool) → b ≡ true → not (a && b) ≡ true → a ≡ false
left_fails false b y e = refl
left_fails true b y e = let wrong : false ≡ true = sym (ap not y) ∙ e in absurd (cc)

top_role : (r : Role) → is_top r ≡ true → r ≡ role.Top
top_role role.Top e = refl
top_role role.Syndic e = absurd (cc)
top_role role.Minion e = absurd (cc)

other_role : (r : Role) → is_top r ≡ false → r ≡ role.Top → ⊥
other_role role.Top e h = absurd (cc)
other_role role.Syndic e h = absurd (cc)
other_role role.Minion e h = absurd (cc)

-- the first node
first_placed : (t : Tree) (r : Role) (parent : Option ℕ) → is_top r ≡ true → is_placed t r parent ≡ true → unwrap_or parent 0 ≡ 0
first_placed t r None e h = refl
first_placed t r (Some place) e h = let wrong : is_placed t r (Some place) ≡ false = rw e refl in absurd (let w : false ≡ true = sym wrong ∙ h in cc)

-- a later node
later_placed : (t : Tree) (r : Role) (parent : Option ℕ) → is_top r ≡ false → is_placed t r parent ≡ true → is_master_there t parent ≡ true
later_placed t r parent e h = let same : is_placed t r parent ≡ is_master_there t parent = rw e refl in sym same ∙ h

master_there : (t : Tree) (parent : Option ℕ) → is_master_there t parent ≡ true → (unwrap_or parent 0 < length t) × (is_minion t (unwrap_or parent 0) ≡ false)
master_there t None e = absurd (cc)
master_there t (Some place) e =
    let both = both_hold (nat_lt place (length t)) (not (is_minion t place)) e in
    (ltb-true place (length t) both.0, opposite (is_minion t place) both.1)

level_there : (t : Tree) (parent : Option ℕ) → is_master_there t parent ≡ true → has_level t parent ≡ true → level t (unwrap_or parent 0) < most_levels
level_there t None e h = absurd (cc)
level_there t (Some place) e h = ltb-true (level t place) most_levels h

one_more : (p : Member → Bool) (x : Member) (b : Bool) → p x ≡ b → length (filter p (x ∷ [])) ≡ (if p x then 1 else 0)
one_more p x true e = rw e refl
one_more p x false e = rw e refl

-- how many pass a test with a node more
pub count_push : (p : Member → Bool) (t : Tree) (x : Member) → length (filter p (t ++ x ∷ [])) ≡ length (filter p t) + (if p x then 1 else 0)
count_push p t x =
    ap (λ (l : Tree). length l) (filter-append p t (x ∷ []))
    ∙ length-append (filter p t) (filter p (x ∷ []))
    ∙ ap (λ n. length (filter p t) + n) (one_more p x (p x) refl)

room_minions : (t : Tree) (x : Member) (r : Role) → x.role ≡ r → has_room t r ≡ true → minion_count t ≤ most_minions → minion_count (t ++ x ∷ []) ≤ most_minions
room_minions t x role.Top e h few = let n : minion_count (t ++ x ∷ []) ≡ minion_count t + 0 = count_push (λ m. runs_jobs m.role) t x ∙ rw e refl in omega arith
room_minions t x role.Syndic e h few = let n : minion_count (t ++ x ∷ []) ≡ minion_count t + 0 = count_push (λ m. runs_jobs m.role) t x ∙ rw e refl in omega arith
room_minions t x role.Minion e h few =
    let n : minion_count (t ++ x ∷ []) ≡ minion_count t + 1 = count_push (λ m. runs_jobs m.role) t x ∙ rw e refl in
    let room : minion_count t < most_minions = ltb-true (minion_count t) most_minions h in
    omega arith

room_syndics : (t : Tree) (x : Member) (r : Role) → x.role ≡ r → has_room t r ≡ true → syndic_count t ≤ most_syndics → syndic_count (t ++ x ∷ []) ≤ most_syndics
room_syndics t x role.Top e h few = let n : syndic_count (t ++ x ∷ []) ≡ syndic_count t + 0 = count_push (λ m. is_syndic m.role) t x ∙ rw e refl in omega arith
room_syndics t x role.Minion e h few = let n : syndic_count (t ++ x ∷ []) ≡ syndic_count t + 0 = count_push (λ m. is_syndic m.role) t x ∙ rw e refl in omega arith
room_syndics t x role.Syndic e h few =
    let n : syndic_count (t ++ x ∷ []) ≡ syndic_count t + 1 = count_push (λ m. is_syndic m.role) t x ∙ rw e refl in
    let room : syndic_count t < most_syndics = ltb-true (syndic_count t) most_syndics h in
    omega arith

-- the nodes that were there, and the new one
old_member : (t : Tree) (x : Member) (i : ℕ) → i < length t → member (t ++ x ∷ []) i ≡ member t i
old_member t x i l = get_or_append_left t (x ∷ []) _ i l

new_member : (t : Tree) (x : Member) → member (t ++ x ∷ []) (length t) ≡ x
new_member t x = get_or_push t x _ (length t) refl

same_level : (t : Tree) (x : Member) → IsTree t → (k m : ℕ) → m < length t → level_by (t ++ x ∷ []) k m ≡ level_by t k m
same_level t x h zero m l = level_none (t ++ x ∷ []) m ∙ sym (level_none t m)
same_level t x h (suc k) m l = elim (leb_tells 1 m) [
  | inl y ↦
      let p : parent_of (t ++ x ∷ []) m ≡ parent_of t m = ap (λ (n : Member). n.parent) (old_member t x m l) in
      let b : parent_of t m < m = h.before m y.1 l in
      level_on (t ++ x ∷ []) k m y.1
      ∙ ap (λ n. n + 1) (ap (λ n. level_by (t ++ x ∷ []) k n) p ∙ same_level t x h k (parent_of t m) (omega arith))
      ∙ sym (level_on t k m y.1)
  | inr y ↦
      let z : 0 ≡ m = (let u = y.1 in omega arith) in
      subst (λ n. level_by (t ++ x ∷ []) (suc k) n ≡ level_by t (suc k) n) z (level_top (t ++ x ∷ []) (suc k) ∙ sym (level_top t (suc k)))
]

enough : (t : Tree) → IsTree t → (k m : ℕ) → m ≤ k → m < length t → level_by t (suc k) m ≡ level_by t k m
enough t h zero m s l = let z : 0 ≡ m = omega arith in subst (λ n. level_by t 1 n ≡ level_by t 0 n) z (level_top t 1 ∙ sym (level_top t 0))
enough t h (suc k) m s l = elim (leb_tells 1 m) [
  | inl y ↦
      let b : parent_of t m < m = h.before m y.1 l in
      level_on t (suc k) m y.1 ∙ ap (λ n. n + 1) (enough t h k (parent_of t m) (omega arith) (omega arith)) ∙ sym (level_on t k m y.1)
  | inr y ↦
      let z : 0 ≡ m = (let u = y.1 in omega arith) in
      subst (λ n. level_by t (suc (suc k)) n ≡ level_by t (suc k) n) z (level_top t (suc (suc k)) ∙ sym (level_top t (suc k)))
]

more_steps : (t : Tree) → IsTree t → (d m : ℕ) → m < length t → level_by t (d + m) m ≡ level t m
more_steps t h zero m l = let z : 0 + m ≡ m = omega arith in rw z refl
more_steps t h (suc d) m l = let z : suc d + m ≡ suc (d + m) = omega arith in rw z (enough t h (d + m) m (omega arith) l ∙ more_steps t h d m l)

pub all_steps : (t : Tree) → IsTree t → (k m : ℕ) → m ≤ k → m < length t → level_by t k m ≡ level t m
all_steps t h k m s l = let z : (k - m) + m ≡ k = omega arith in subst (λ n. level_by t n m ≡ level t m) z (more_steps t h (k - m) m l)

-- the level of the new node
new_level : (t : Tree) (x : Member) (k : ℕ) → IsTree t → length t ≡ suc k → x.parent < length t → level (t ++ x ∷ []) (length t) ≡ level t x.parent + 1
new_level t x k h n l =
    let p : parent_of (t ++ x ∷ []) (length t) ≡ x.parent = ap (λ (m : Member). m.parent) (new_member t x) in
    ap (λ i. level_by (t ++ x ∷ []) i (length t)) n
    ∙ level_on (t ++ x ∷ []) k (length t) (omega arith)
    ∙ ap (λ i. i + 1) (ap (λ i. level_by (t ++ x ∷ []) k i) p ∙ same_level t x h k x.parent l ∙ all_steps t h k x.parent (omega arith) l)

-- the first node is a tree
first_tree : (node : FleetNode) → Passed [] node → IsTree (member_of node ∷ [])
first_tree node h =
    let is : is_top node.role ≡ true = left_holds (is_top node.role) (nat_lt 0 0) refl h.top in
    let top : node.role ≡ role.Top = top_role node.role is in
    let minions : minion_count (member_of node ∷ []) ≡ 0 = minions_under (member_of node) [] top in
    let syndics : syndic_count (member_of node ∷ []) ≡ 0 = syndics_under (member_of node) [] top in
    record {
      some = omega arith;
      top = top;
      root = first_placed [] node.role node.parent is h.placed;
      others = λ i p l e. absurd (omega arith);
      before = λ i p l. absurd (omega arith);
      master = λ i p l. absurd (omega arith);
      distinct = λ i j a b e. omega arith;
      few_minions = omega arith;
      few_syndics = omega arith;
      few_levels = λ i l. (let z : 0 ≡ i = omega arith in let one : level (member_of node ∷ []) 0 ≡ 1 = level_top (member_of node ∷ []) 0 in subst (λ n. level (member_of node ∷ []) n ≤ most_levels) z (omega arith));
      held_fits = All-cons (λ (m : Member). AreWithin m.held) (member_of node) [] (holdings_fit node.held h.held) (All-nil (λ (m : Member). AreWithin m.held));
    }

differ : (a b : List ℕ) → bytes_eq a b ≡ false → a ≡ b → ⊥
differ a b h e =
    let yes : bytes_eq a b ≡ true = (bytes_eq-Decides a b).1 e in
    let wrong : true ≡ false = sym yes ∙ h in
    absurd (cc)

-- each place but the last one is one of the nodes that were there
last_or_old : (t : Tree) (x : Member) (P : ℕ → Type 0) → ((i : ℕ) → i < length t → P i) → P (length t) → (i : ℕ) → i < length (t ++ x ∷ []) → P i
last_or_old t x P old new i l =
    let n : length (t ++ x ∷ []) ≡ length t + 1 = length_push t x in
    elim (cases_lt i (length t)) [
      | inl y ↦ old i y
      | inr y ↦ let z : length t ≡ i = omega arith in subst P z new
    ]

later_tree : (t : Tree) (node : FleetNode) → IsTree t → Passed t node → IsTree (t ++ member_of node ∷ [])
later_tree t node h all =
    let some : 0 < length t = h.some in
    let x : Member = member_of node in
    let n : length (t ++ x ∷ []) ≡ length t + 1 = length_push t x in
    let no_top : is_top node.role ≡ false = left_fails (is_top node.role) (nat_lt 0 (length t)) (lt-ltb 0 (length t) some) all.one in
    let there = later_placed t node.role node.parent no_top all.placed in
    let parent = master_there t node.parent there in
    let deep = level_there t node.parent there all.levels in
    let once = none_of _ all.once in
    record {
      some = omega arith;
      top = ap (λ (m : Member). m.role) (old_member t x 0 some) ∙ h.top;
      root = ap (λ (m : Member). m.parent) (old_member t x 0 some) ∙ h.root;
      others = λ i p l. last_or_old t x (λ i. 0 < i → (member (t ++ x ∷ []) i).role ≡ role.Top → ⊥)
          (λ i l p e. h.others i p l (sym (ap (λ (m : Member). m.role) (old_member t x i l)) ∙ e))
          (λ p e. other_role node.role no_top (sym (ap (λ (m : Member). m.role) (new_member t x)) ∙ e)) i l p;
      before = λ i p l. last_or_old t x (λ i. 0 < i → parent_of (t ++ x ∷ []) i < i)
          (λ i l p. (let e : parent_of (t ++ x ∷ []) i ≡ parent_of t i = ap (λ (m : Member). m.parent) (old_member t x i l) in let b = h.before i p l in omega arith))
          (λ p. (let e : parent_of (t ++ x ∷ []) (length t) ≡ x.parent = ap (λ (m : Member). m.parent) (new_member t x) in let b = parent.0 in omega arith)) i l p;
      master = λ i p l. last_or_old t x (λ i. 0 < i → is_minion (t ++ x ∷ []) (parent_of (t ++ x ∷ []) i) ≡ false)
          (λ i l p.
          let e : parent_of (t ++ x ∷ []) i ≡ parent_of t i = ap (λ (m : Member). m.parent) (old_member t x i l) in
          let b = h.before i p l in
          ap (λ i. is_minion (t ++ x ∷ []) i) e ∙ ap (λ (m : Member). runs_jobs m.role) (old_member t x (parent_of t i) (omega arith)) ∙ h.master i p l)
          (λ p.
          let e : parent_of (t ++ x ∷ []) (length t) ≡ x.parent = ap (λ (m : Member). m.parent) (new_member t x) in
          ap (λ i. is_minion (t ++ x ∷ []) i) e ∙ ap (λ (m : Member). runs_jobs m.role) (old_member t x x.parent parent.0) ∙ parent.1) i l p;
      distinct = λ i j a b e. last_or_old t x (λ i. id_of (t ++ x ∷ []) i ≡ id_of (t ++ x ∷ []) j → i ≡ j)
          (λ i a e. last_or_old t x (λ j. id_of (t ++ x ∷ []) i ≡ id_of (t ++ x ∷ []) j → i ≡ j)
          (λ j b e. h.distinct i j a b (sym (ap (λ (m : Member). m.id) (old_member t x i a)) ∙ e ∙ ap (λ (m : Member). m.id) (old_member t x j b)))
          (λ e. absurd (differ (id_of t i) x.id (none_differs t x.id once i a) (sym (ap (λ (m : Member). m.id) (old_member t x i a)) ∙ e ∙ ap (λ (m : Member). m.id) (new_member t x)))) j b e)
          (λ e. last_or_old t x (λ j. id_of (t ++ x ∷ []) (length t) ≡ id_of (t ++ x ∷ []) j → length t ≡ j)
          (λ j b e. absurd (differ (id_of t j) x.id (none_differs t x.id once j b) (sym (ap (λ (m : Member). m.id) (old_member t x j b)) ∙ sym e ∙ ap (λ (m : Member). m.id) (new_member t x))))
          (λ e. refl) j b e) i a e;
      few_minions = room_minions t x node.role refl all.room h.few_minions;
      few_syndics = room_syndics t x node.role refl all.room h.few_syndics;
      few_levels = last_or_old t x (λ i. level (t ++ x ∷ []) i ≤ most_levels)
          (λ i l. (let e : level (t ++ x ∷ []) i ≡ level t i = same_level t x h i i l in let few = h.few_levels i l in omega arith))
          (let e = new_level t x (length t - 1) h (omega arith) parent.0 in omega arith);
      held_fits = All-push (λ (m : Member). AreWithin m.held) t x h.held_fits (holdings_fit node.held all.held);
    }

pub grown_tree : (t : Tree) (node : FleetNode) → (0 < length t → IsTree t) → node_fault t node ≡ None → IsTree (t ++ member_of node ∷ [])
grown_tree [] node h e = first_tree node (passed [] node e)
grown_tree (m ∷ ms) node h e = later_tree (m ∷ ms) node (h (omega arith)) (passed (m ∷ ms) node e)

-- what a fleet keeps beside its nodes, with a node more
pub grown_index : {S : Type 0} (t : Tree) (old new : IndexMap (List ℕ) ℕ S) (workers middles : ℕ) (node : FleetNode)
    → IsIndexed t old workers middles → node_fault t node ≡ None
    → ((id : List ℕ) → get bytes_eq new id ≡ cond (bytes_eq node.id id) (Some (length t)) (get bytes_eq old id))
    → IsIndexed (t ++ member_of node ∷ []) new (workers + (if runs_jobs node.role then 1 else 0)) (middles + (if is_syndic node.role then 1 else 0))
grown_index t old new workers middles node h e grown =
    let all = passed t node e in
    record {
      tree = λ some. grown_tree t node h.tree e;
      found = λ id. grown id ∙ ap (λ (o : Option ℕ). cond (bytes_eq node.id id) (Some (length t)) o) (h.found id) ∙ sym (place_push t (member_of node) id (none_of _ all.once));
      minions = ap (λ n. n + (if runs_jobs node.role then 1 else 0)) h.minions ∙ sym (count_push (λ m. runs_jobs m.role) t (member_of node));
      syndics = ap (λ n. n + (if is_syndic node.role then 1 else 0)) h.syndics ∙ sym (count_push (λ m. is_syndic m.role) t (member_of node));
    }

pub same_index : {S : Type 0} (t new_t : Tree) (old new : IndexMap (List ℕ) ℕ S) (workers middles : ℕ)
    → IsIndexed t old workers middles → new_t ≡ t → ((id : List ℕ) → get bytes_eq new id ≡ get bytes_eq old id) → IsIndexed new_t new workers middles
same_index t new_t old new workers middles h same kept =
    subst (λ (u : Tree). IsIndexed u new workers middles) (sym same)
    (record { tree = h.tree; found = λ id. kept id ∙ h.found id; minions = h.minions; syndics = h.syndics })

-- the counts of a fleet's minions and syndics
pub few_of_each : (t : Tree) → (0 < length t → IsTree t) → (minion_count t ≤ most_minions) × (syndic_count t ≤ most_syndics)
few_of_each [] h = (omega arith, omega arith)
few_of_each (m ∷ ms) h = let tree = h (omega arith) in (tree.few_minions, tree.few_syndics)
