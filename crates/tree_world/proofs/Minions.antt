-- A minion is a node of its tree, and has no child.
use Rattle.std.proofs.Common.{◌≡◌, ℕ, ◌<◌, ◌∙◌, sym, ap, refl, inl, inr, Bool, true, false, List, [], ◌∷◌, length}
use Rattle.std.specs.Prelude.{filter, ◌&&◌, nat_lt, ◌==◌, Some, None, if◌then◌else◌}
use Rattle.std.proofs.lemmas.Option.{same_Some}
use Rattle.exec_functions.specs.declared.holdings.Holdings.{Holdings}
use Rattle.std.proofs.lemmas.List.{get_or_past}
use Rattle.std.proofs.lemmas.Bool.{cases_lt, eqb-true, ltb-true}
use Rattle.exec_functions.specs.Limits.{no_holdings}
use Rattle.fleet_config.specs.declared.fleet.Member.{Member}
use Rattle.fleet_config.specs.declared.fleet.Role.TheVariants as role
use Rattle.fleet_config.specs.Fleet.{FleetConfig, IsFleet}
use Rattle.fleet_config.specs.Tree.{Tree, IsTree, is_minion, is_parent, parent_of, runs_jobs, up_to}
use Rattle.tree_world.specs.Network.{Network}
use Rattle.tree_world.specs.Settle.{children, down_children}

-- the node past the end
abbrev blank_member : Member
blank_member = record { id = []; role = role.Top; parent = 0; port = 0; held = no_holdings }

pub minion_low : (t : Tree) (m : ℕ) → is_minion t m ≡ true → m < length t
minion_low t m e = elim (cases_lt m (length t)) [
  | inl l ↦ l
  | inr l ↦ absurd (let g : is_minion t m ≡ false = ap (λ (s : Member). runs_jobs s.role) (get_or_past t m blank_member l) in let x = sym g ∙ e in cc)
]

-- what a node is told to hold
pub held_some : (minion : Bool) (x held : Holdings) → Some x ≡ (if minion then Some held else None) → x ≡ held
held_some true x held e = same_Some x held e
held_some false x held e = absurd cc

parts : (a b c : Bool) → (a && b && c) ≡ true → (a ≡ true) × (b ≡ true) × (c ≡ true)
parts true true true e = (refl, refl, refl)
parts true true false e = absurd cc
parts true false c e = absurd cc
parts false b c e = absurd cc

never : (t : Bool) → (t ≡ true → ⊥) → t ≡ false
never true h = absurd (h refl)
never false h = refl

no_parent : (t : Tree) (p c : ℕ) → IsTree t → is_minion t p ≡ true → is_parent t p c ≡ true → ⊥
no_parent t p c h minion e =
    let all = parts (nat_lt 0 c) (nat_lt c (length t)) (parent_of t c == p) e in
    let master = h.master c (ltb-true 0 c all.0) (ltb-true c (length t) all.1) in
    let same : parent_of t c ≡ p = eqb-true (parent_of t c) p all.2 in
    let wrong : true ≡ false = sym minion ∙ sym (ap (is_minion t) same) ∙ master in
    cc

none_left : (t : Tree) (p : ℕ) (l : List ℕ) → ((c : ℕ) → is_parent t p c ≡ false) → filter (λ c. is_parent t p c) l ≡ []
none_left t p [] h = refl
none_left t p (c ∷ l) h = rw (h c) (none_left t p l h)

pub childless : (f : FleetConfig) (p : ℕ) (w : Network) → IsFleet f → is_minion f.tree p ≡ true → w ≡ down_children f p (children f.tree p) w
childless f p w h minion =
    ap (λ (cs : List ℕ). down_children f p cs w)
    (sym (none_left f.tree p (up_to (length f.tree)) (λ c. never (is_parent f.tree p c) (no_parent f.tree p c h.tree minion))))
