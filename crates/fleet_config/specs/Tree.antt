-- The fleet as a tree, given by each node's parent. Node 0 is the top; a node's place in the list is its number.
use Rattle.std.specs.Prelude.{ℕ, zero, suc, ◌≡◌, ◌≢◌, ◌<◌, ◌≤◌, ◌==◌, nat_lt, ◌&&◌, ◌||◌, Bool, true, false, List, [], ◌∷◌, ◌++◌, ◌+◌, length, filter, map, position, unwrap_or, bytes_eq, All, if◌then◌else◌}
use Rattle.std.specs.List.{slice_index_or}
use Rattle.exec_functions.specs.declared.holdings.Holdings.{Holdings}
use Rattle.exec_functions.specs.Limits.{AreWithin, no_holdings}
use Rattle.fleet_config.specs.Limits.{most_minions, most_syndics, most_levels}
use Rattle.fleet_config.specs.declared.fleet.Member.{Member}
use Rattle.fleet_config.specs.declared.fleet.Role.{Role}
use Rattle.fleet_config.specs.declared.fleet.Role.TheVariants as role

-- the nodes of a fleet in order, the top first
abbrev pub Tree : Type 0
Tree = List Member

-- the node at a place, and a top without an id past the end
abbrev pub member : Tree → ℕ → Member
member t i = slice_index_or t i (record { id = []; role = role.Top; parent = 0; port = 0; held = no_holdings })

-- the id of a node
abbrev pub id_of : Tree → ℕ → List ℕ
id_of t i = (member t i).id

-- the place of a node's parent; that of the top is the top
abbrev pub parent_of : Tree → ℕ → ℕ
parent_of t i = (member t i).parent

-- what the node at a place holds at first
abbrev pub held_of : Tree → ℕ → Holdings
held_of t i = (member t i).held

-- a minion runs jobs, and every other node is a master
abbrev pub runs_jobs : Role → Bool
runs_jobs role.Top = false
runs_jobs role.Syndic = false
runs_jobs role.Minion = true

-- a top, and no other master
abbrev pub is_top : Role → Bool
is_top role.Top = true
is_top role.Syndic = false
is_top role.Minion = false

-- a master that is no top
abbrev pub is_syndic : Role → Bool
is_syndic role.Top = false
is_syndic role.Syndic = true
is_syndic role.Minion = false

-- the node at a place is a minion
abbrev pub is_minion : Tree → ℕ → Bool
is_minion t i = runs_jobs (member t i).role

-- is p the parent of c
abbrev pub is_parent : Tree → ℕ → ℕ → Bool
is_parent t p c = nat_lt 0 c && nat_lt c (length t) && (parent_of t c == p)

-- the place of the node with this id, the length where there is none
abbrev pub place_of : Tree → List ℕ → ℕ
place_of t id = unwrap_or (position (λ m. bytes_eq m.id id) t) (length t)

-- how many minions a tree has
abbrev pub minion_count : Tree → ℕ
minion_count t = length (filter (λ m. runs_jobs m.role) t)

-- how many syndics
abbrev pub syndic_count : Tree → ℕ
syndic_count t = length (filter (λ m. is_syndic m.role) t)

-- The level of node m by a walk up from it, of at most so many steps.
unfoldable pub level_by : Tree → ℕ → ℕ → ℕ
level_by t zero m = 1
level_by t (suc k) m = if nat_lt 0 m then level_by t k (parent_of t m) + 1 else 1

-- the level of a node: 1 of the top, and one more of each node than of its parent
abbrev pub level : Tree → ℕ → ℕ
level t m = level_by t m m

-- A tree: a top first, then syndics and minions with distinct ids, each under a master that stands before it, within the limits.
pub record IsTree (t : Tree) : Type 0 where
  pub some : 0 < length t
  pub top : (member t 0).role ≡ role.Top
  pub root : parent_of t 0 ≡ 0
  pub others : (i : ℕ) → 0 < i → i < length t → (member t i).role ≢ role.Top
  pub before : (i : ℕ) → 0 < i → i < length t → parent_of t i < i
  pub master : (i : ℕ) → 0 < i → i < length t → is_minion t (parent_of t i) ≡ false
  pub distinct : (i j : ℕ) → i < length t → j < length t → id_of t i ≡ id_of t j → i ≡ j
  pub few_minions : minion_count t ≤ most_minions
  pub few_syndics : syndic_count t ≤ most_syndics
  pub few_levels : (i : ℕ) → i < length t → level t i ≤ most_levels
  pub held_fits : All (λ m. AreWithin m.held) t

-- The child of p through which node m lies, or 0: a walk up from m, of so many steps.
unfoldable pub branch_by : Tree → ℕ → ℕ → ℕ → ℕ
branch_by t zero p m = 0
branch_by t (suc k) p m = if nat_lt 0 m then (if parent_of t m == p then m else branch_by t k p (parent_of t m)) else 0

-- the child of p through which node m lies, or 0 where m does not lie below p
abbrev pub branch : Tree → ℕ → ℕ → ℕ
branch t p m = branch_by t m p m

-- is node m this node, or below it
abbrev pub is_within : Tree → ℕ → ℕ → Bool
is_within t a m = (a == m) || nat_lt 0 (branch t a m)

-- the numbers below n
abbrev pub up_to : ℕ → List ℕ
up_to zero = []
up_to (suc n) = up_to n ++ n ∷ []

-- the minions at or below a node, in list order
abbrev pub minions : Tree → ℕ → List ℕ
minions t a = filter (λ m. is_minion t m && is_within t a m) (up_to (length t))

-- the ids of the minions at or below a node, in list order
abbrev pub ids_below : Tree → ℕ → List (List ℕ)
ids_below t a = map (id_of t) (minions t a)

-- a node right under the top, or the top itself, without a port, which holds nothing at first
abbrev pub plain_member : Role → List ℕ → Member
plain_member kind id = record { id = id; role = kind; parent = 0; port = 0; held = no_holdings }

-- a top with these minions under it, which hold nothing at first
abbrev pub flat_tree : List ℕ → List (List ℕ) → Tree
flat_tree top ids = plain_member role.Top top ∷ map (plain_member role.Minion) ids
