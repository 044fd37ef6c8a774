-- The loops of a settle.
use Rattle.std.proofs.Common.{◌≡◌, ℕ, zero, suc, ◌+◌, ◌-◌, ◌<◌, ◌≤◌, ◌∙◌, sym, refl, inl, inr, Bool, true, false, List, [], ◌∷◌, ◌++◌, arith}
use Rattle.std.specs.Prelude.{filter, nat_lt, if◌then◌else◌}
use Rattle.std.proofs.lemmas.List.Elements.{filter-append}
use Rattle.std.proofs.lemmas.Bool.{lt-ltb}
use Rattle.std.proofs.lemmas.Bool.Decides.{leb_tells}
use Rattle.fleet_config.specs.Fleet.{FleetConfig}
use Rattle.fleet_config.specs.Tree.{is_parent, minions, up_to}
use Rattle.tree_world.specs.Network.{Network}
use Rattle.tree_world.specs.Settle.{known_jobs_at, known_ups_at, down_step, down_steps, down_child, down_children, children, down_pass, up_step, up_steps, up_minions, up_pass}

-- one step of so many that are left, after which the known count rose, or stayed
pub down_on : (f : FleetConfig) (p c n i : ℕ) (w v : Network) → i < n → v ≡ down_step f p c w → known_jobs_at w p c < known_jobs_at v p c
    → down_steps f p c (n - (i + 1)) v ≡ down_steps f p c (n - i) w
unfolding down_steps
down_on f p c n i w v l e less =
    let k : n - i ≡ suc (n - (i + 1)) = omega arith in
    let rises : known_jobs_at w p c < known_jobs_at (down_step f p c w) p c = rw e at less in
    rw (k, e) (rw (lt-ltb (known_jobs_at w p c) (known_jobs_at (down_step f p c w) p c) rises) refl)

pub down_end : (f : FleetConfig) (p c n i : ℕ) (w v : Network) → i < n → v ≡ down_step f p c w → known_jobs_at v p c ≤ known_jobs_at w p c
    → v ≡ down_steps f p c (n - i) w
unfolding down_steps
down_end f p c n i w v l e less =
    let k : n - i ≡ suc (n - (i + 1)) = omega arith in
    let stays : known_jobs_at (down_step f p c w) p c ≤ known_jobs_at w p c = rw e at less in
    rw (k, e) (elim (leb_tells (suc (known_jobs_at w p c)) (known_jobs_at (down_step f p c w) p c)) [
      | inl y ↦ absurd (let x = y.1 in omega arith)
      | inr y ↦ rw y.0 refl
    ])

pub down_none : (f : FleetConfig) (p c n i : ℕ) (w : Network) → n ≤ i → down_steps f p c (n - i) w ≡ w
unfolding down_steps
down_none f p c n i w l = let e : n - i ≡ 0 = omega arith in rw e refl

pub up_on : (f : FleetConfig) (c m n i : ℕ) (w v : Network) → i < n → v ≡ up_step f c m w → known_ups_at w c m < known_ups_at v c m
    → up_steps f c m (n - (i + 1)) v ≡ up_steps f c m (n - i) w
unfolding up_steps
up_on f c m n i w v l e less =
    let k : n - i ≡ suc (n - (i + 1)) = omega arith in
    let rises : known_ups_at w c m < known_ups_at (up_step f c m w) c m = rw e at less in
    rw (k, e) (rw (lt-ltb (known_ups_at w c m) (known_ups_at (up_step f c m w) c m) rises) refl)

pub up_end : (f : FleetConfig) (c m n i : ℕ) (w v : Network) → i < n → v ≡ up_step f c m w → known_ups_at v c m ≤ known_ups_at w c m
    → v ≡ up_steps f c m (n - i) w
unfolding up_steps
up_end f c m n i w v l e less =
    let k : n - i ≡ suc (n - (i + 1)) = omega arith in
    let stays : known_ups_at (up_step f c m w) c m ≤ known_ups_at w c m = rw e at less in
    rw (k, e) (elim (leb_tells (suc (known_ups_at w c m)) (known_ups_at (up_step f c m w) c m)) [
      | inl y ↦ absurd (let x = y.1 in omega arith)
      | inr y ↦ rw y.0 refl
    ])

pub up_none : (f : FleetConfig) (c m n i : ℕ) (w : Network) → n ≤ i → up_steps f c m (n - i) w ≡ w
unfolding up_steps
up_none f c m n i w l = let e : n - i ≡ 0 = omega arith in rw e refl

-- lists that go on
pub down_join : (f : FleetConfig) (p : ℕ) (xs ys : List ℕ) (w : Network) → down_children f p (xs ++ ys) w ≡ down_children f p ys (down_children f p xs w)
down_join f p [] ys w = refl
down_join f p (x ∷ xs) ys w = down_join f p xs ys (down_child f p x w)

one_more : (f : FleetConfig) (p c : ℕ) (w : Network) → down_children f p (filter (λ d. is_parent f.tree p d) (c ∷ [])) w ≡ (if is_parent f.tree p c then down_child f p c w else w)
one_more f p c w = either (is_parent f.tree p c) refl where
  either : (t : Bool) → is_parent f.tree p c ≡ t → down_children f p (filter (λ d. is_parent f.tree p d) (c ∷ [])) w ≡ (if is_parent f.tree p c then down_child f p c w else w)
  either true e = rw e refl
  either false e = rw e refl

-- the children below the next place
pub down_next : (f g : FleetConfig) (p c d : ℕ) (w v u : Network) → g ≡ f → d ≡ c → v ≡ down_children f p (filter (λ d. is_parent f.tree p d) (up_to c)) w
    → u ≡ (if is_parent g.tree p d then down_child g p d v else v) → u ≡ down_children f p (filter (λ d. is_parent f.tree p d) (up_to (c + 1))) w
down_next f g p c d w v u same at e done =
    let more : c + 1 ≡ suc c = omega arith in
    rw (more, filter-append (λ d. is_parent f.tree p d) (up_to c) (c ∷ []), down_join f p (filter (λ d. is_parent f.tree p d) (up_to c)) (filter (λ d. is_parent f.tree p d) (c ∷ [])) w, ← e)
    (done ∙ rw (same, at) (sym (one_more f p c v)))

-- the nodes below the next place
pub pass_next : (f g : FleetConfig) (p d : ℕ) (w v u : Network) → g ≡ f → d ≡ p → v ≡ down_pass f p w
    → u ≡ down_children g d (children g.tree d) v → u ≡ down_pass f (p + 1) w
pass_next f g p d w v u same at e done =
    let more : p + 1 ≡ suc p = omega arith in
    rw more (done ∙ rw (same, at, e) refl)

-- the pass up: what is left of it after the last of so many nodes
pub up_next : (f : FleetConfig) (n i : ℕ) (w : Network) → i < n
    → up_pass f (n - (i + 1)) (if nat_lt 0 (n - 1 - i) then up_minions f (n - 1 - i) (minions f.tree (n - 1 - i)) w else w) ≡ up_pass f (n - i) w
up_next f n i w l =
    let k : n - i ≡ suc (n - 1 - i) = omega arith in
    let j : n - (i + 1) ≡ n - 1 - i = omega arith in
    rw (k, j) (last (n - 1 - i)) where
      last : (c : ℕ) → up_pass f c (if nat_lt 0 c then up_minions f c (minions f.tree c) w else w) ≡ up_pass f (suc c) w
      last zero = refl
      last (suc c) = rw (lt-ltb 0 (suc c) (omega arith)) refl

pub up_over : (f : FleetConfig) (n i : ℕ) (w : Network) → n ≤ i → up_pass f (n - i) w ≡ w
up_over f n i w l = let e : n - i ≡ 0 = omega arith in rw e refl
