-- Each step of a settle keeps what holds.
use Rattle.std.proofs.Common.{◌≡◌, ℕ, zero, suc, ◌+◌, ◌<◌, ◌≤◌, inl, inr, true, List, [], ◌∷◌, length, arith, le_refl}
use Rattle.std.specs.Prelude.{slice_get}
use Rattle.std.specs.List.{AllByRecursion}
use Rattle.std.proofs.lemmas.Bool.Decides.{leb_tells}
use Rattle.std.proofs.lemmas.Option.{slice_get_cases}
use Rattle.salt_wire.specs.declared.message.Message.{Message}
use Rattle.salt_wire.specs.declared.message.Message.TheVariants as msg
use Rattle.fleet_config.specs.Fleet.{FleetConfig}
use Rattle.fleet_config.specs.Tree.{Tree, id_of, parent_of, is_parent, IsTree, minions, up_to}
use Rattle.tree_world.specs.Network.{Network, node_at, with_packets, packet, after_delivery}
use Rattle.tree_world.specs.Settle.{after_exchange, node_jobs, node_log, known_jobs_at, known_ups_at, down_step, down_steps, down_child, down_children, children, down_pass, up_step, up_steps, up_minion, up_minions, up_pass, after_settle}
use Rattle.tree_laws.specs.Invariant.{Fits, Holds}
use Rattle.tree_laws.proofs.Trees.{IsChild, child, parent_before, parent_test}
use Rattle.tree_laws.proofs.Places.{IsMinionIn, here_minion}
use Rattle.tree_laws.proofs.Calls.{packets_step}
use Rattle.tree_laws.proofs.Turns.{delivered_step, all_filter, minions_in}

exchange_step : (f : FleetConfig) (w : Network) (from to : ℕ) (message : Message) → IsTree f.tree → Holds f.tree w → from < length f.tree → to < length f.tree → Fits f.tree from to (node_at w.nodes from) message
    → Holds f.tree (after_exchange f from to message w)
exchange_step f w from to message fleet h lf lt g =
    let a : Network = with_packets w (packet from to message ∷ []) in
    let ha : Holds f.tree a = packets_step f.tree w (packet from to message ∷ []) h (record { from = lf; to = lt; fits = g }, tt) in
    delivered_step f (after_delivery f a (slice_get a.packets (length w.packets))) (length w.packets + 1) fleet (delivered_step f a (length w.packets) fleet ha)

pub down_step_holds : (f : FleetConfig) (w : Network) (p c : ℕ) → IsTree f.tree → Holds f.tree w → is_parent f.tree p c ≡ true → Holds f.tree (down_step f p c w)
down_step_holds f w p c fleet h par =
    let ch : IsChild f.tree p c = child f.tree p c par in
    let up : c < length f.tree = ch.within in
    let before : p < c = rw ch.parent at (parent_before f.tree c fleet ch.some) in
    elim (slice_get_cases (node_jobs w p) (known_jobs_at w p c)).1 [
      | inl z ↦ rw z.2 (exchange_step f w p c (msg.Pub (known_jobs_at w p c) z.0) fleet h (omega arith) up (par, z.2))
      | inr z ↦ rw z.1 h
    ]

pub up_step_holds : (f : FleetConfig) (w : Network) (c m : ℕ) → IsTree f.tree → Holds f.tree w → 0 < c → c < length f.tree → IsMinionIn f.tree c m → Holds f.tree (up_step f c m w)
up_step_holds f w c m fleet h lo up i =
    let before : parent_of f.tree c < c = parent_before f.tree c fleet lo in
    elim (slice_get_cases (node_log f.tree w c m) (known_ups_at w c m)).1 [
      | inl z ↦ rw z.2 (exchange_step f w c (parent_of f.tree c) (msg.Up (id_of f.tree m) (known_ups_at w c m) z.0) fleet h up (omega arith) (parent_test f.tree c lo up, here_minion f.tree c m fleet i, z.2))
      | inr z ↦ rw z.1 h
    ]

pub down_steps_hold : (f : FleetConfig) (p c : ℕ) → IsTree f.tree → is_parent f.tree p c ≡ true → (k : ℕ) (w : Network) → Holds f.tree w → Holds f.tree (down_steps f p c k w)
unfolding down_steps
down_steps_hold f p c fleet par zero w h = h
down_steps_hold f p c fleet par (suc k) w h =
    let v : Network = down_step f p c w in
    let hv : Holds f.tree v = down_step_holds f w p c fleet h par in
    elim (leb_tells (suc (known_jobs_at w p c)) (known_jobs_at v p c)) [
      | inl y ↦ rw y.0 (down_steps_hold f p c fleet par k v hv)
      | inr y ↦ rw y.0 hv
    ]

pub up_steps_hold : (f : FleetConfig) (c m : ℕ) → IsTree f.tree → 0 < c → c < length f.tree → IsMinionIn f.tree c m → (k : ℕ) (w : Network) → Holds f.tree w → Holds f.tree (up_steps f c m k w)
unfolding up_steps
up_steps_hold f c m fleet lo up i zero w h = h
up_steps_hold f c m fleet lo up i (suc k) w h =
    let v : Network = up_step f c m w in
    let hv : Holds f.tree v = up_step_holds f w c m fleet h lo up i in
    elim (leb_tells (suc (known_ups_at w c m)) (known_ups_at v c m)) [
      | inl y ↦ rw y.0 (up_steps_hold f c m fleet lo up i k v hv)
      | inr y ↦ rw y.0 hv
    ]

pub down_children_hold : (f : FleetConfig) (p : ℕ) → IsTree f.tree → (cs : List ℕ) → AllByRecursion (λ c. is_parent f.tree p c ≡ true) cs → (w : Network) → Holds f.tree w → Holds f.tree (down_children f p cs w)
down_children_hold f p fleet [] all w h = h
down_children_hold f p fleet (c ∷ cs) all w h = down_children_hold f p fleet cs all.1 (down_child f p c w) (down_steps_hold f p c fleet all.0 _ w h)

pub up_minions_hold : (f : FleetConfig) (c : ℕ) → IsTree f.tree → 0 < c → c < length f.tree → (ms : List ℕ) → AllByRecursion (IsMinionIn f.tree c) ms → (w : Network) → Holds f.tree w → Holds f.tree (up_minions f c ms w)
up_minions_hold f c fleet lo up [] all w h = h
up_minions_hold f c fleet lo up (m ∷ ms) all w h = up_minions_hold f c fleet lo up ms all.1 (up_minion f c m w) (up_steps_hold f c m fleet lo up all.0 _ w h)

pub children_of : (f : Tree) (p : ℕ) → AllByRecursion (λ c. is_parent f p c ≡ true) (children f p)
children_of f p = all_filter (λ c. is_parent f p c) (up_to (length f))

pub down_pass_holds : (f : FleetConfig) → IsTree f.tree → (p : ℕ) (w : Network) → Holds f.tree w → Holds f.tree (down_pass f p w)
down_pass_holds f fleet zero w h = h
down_pass_holds f fleet (suc p) w h = down_children_hold f p fleet (children f.tree p) (children_of f.tree p) (down_pass f p w) (down_pass_holds f fleet p w h)

pub up_pass_holds : (f : FleetConfig) → IsTree f.tree → (c : ℕ) → c ≤ length f.tree → (w : Network) → Holds f.tree w → Holds f.tree (up_pass f c w)
up_pass_holds f fleet zero l w h = h
up_pass_holds f fleet (suc c) l w h = elim (leb_tells 1 c) [
  | inl y ↦ rw y.0 (up_pass_holds f fleet c (omega arith) (up_minions f c (minions f.tree c) w) (up_minions_hold f c fleet y.1 l (minions f.tree c) (minions_in f.tree c) w h))
  | inr y ↦ rw y.0 h
]

pub settle_step : (f : FleetConfig) (w : Network) → IsTree f.tree → Holds f.tree w → Holds f.tree (after_settle f w)
settle_step f w fleet h = up_pass_holds f fleet (length f.tree) (le_refl _) (down_pass f (length f.tree) w) (down_pass_holds f fleet (length f.tree) w h)
