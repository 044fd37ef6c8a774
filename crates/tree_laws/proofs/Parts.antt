-- A settle is made of packets that are sent and delivered: what each of these steps keeps, it keeps.
use Rattle.std.proofs.Common.{ℕ, zero, suc, ◌+◌, inl, inr, nat_lt, List, [], ◌∷◌, length}
use Rattle.std.specs.Prelude.{slice_get}
use Rattle.std.proofs.lemmas.Option.{slice_get_cases}
use Rattle.salt_wire.specs.declared.message.Message.{Message}
use Rattle.salt_wire.specs.declared.message.Message.TheVariants as msg
use Rattle.fleet_config.specs.Fleet.{FleetConfig}
use Rattle.fleet_config.specs.Tree.{id_of, parent_of, minions}
use Rattle.tree_world.specs.Packets.{Packet}
use Rattle.tree_world.specs.Network.{Network, with_packets, packet, after_delivery}
use Rattle.tree_world.specs.Settle.{after_exchange, node_jobs, node_log, known_jobs_at, known_ups_at, down_step, down_steps, down_child, down_children, children, down_pass, up_step, up_steps, up_minion, up_minions, up_pass, after_settle}
use Rattle.tree_laws.proofs.Turns.{by_receiver}

module _ (f : FleetConfig) (R : Network → Network → Type 0)
    (same : (w : Network) → R w w)
    (both : (u w v : Network) → R u w → R w v → R u v)
    (sent : (w : Network) (p : Packet) → R w (with_packets w (p ∷ [])))
    (delivered : (w : Network) (i : ℕ) → R w (after_delivery f w (slice_get w.packets i))) where
  exchange_keeps : (from to : ℕ) (message : Message) (w : Network) → R w (after_exchange f from to message w)
  exchange_keeps from to message w =
      let a : Network = with_packets w (packet from to message ∷ []) in
      let b : Network = after_delivery f a (slice_get a.packets (length w.packets)) in
      let v : Network = after_delivery f b (slice_get b.packets (length w.packets + 1)) in
      both w a v (sent w (packet from to message)) (both a b v (delivered a (length w.packets)) (delivered b (length w.packets + 1)))

  down_step_keeps : (p c : ℕ) (w : Network) → R w (down_step f p c w)
  down_step_keeps p c w = elim (slice_get_cases (node_jobs w p) (known_jobs_at w p c)).1 [
    | inl z ↦ rw z.2 (exchange_keeps p c (msg.Pub (known_jobs_at w p c) z.0) w)
    | inr z ↦ rw z.1 (same w)
  ]

  up_step_keeps : (c m : ℕ) (w : Network) → R w (up_step f c m w)
  up_step_keeps c m w = elim (slice_get_cases (node_log f.tree w c m) (known_ups_at w c m)).1 [
    | inl z ↦ rw z.2 (exchange_keeps c (parent_of f.tree c) (msg.Up (id_of f.tree m) (known_ups_at w c m) z.0) w)
    | inr z ↦ rw z.1 (same w)
  ]

  down_steps_keep : (p c k : ℕ) (w : Network) → R w (down_steps f p c k w)
  unfolding down_steps
  down_steps_keep p c zero w = same w
  down_steps_keep p c (suc k) w =
      let v : Network = down_step f p c w in
      by_receiver (R w) (nat_lt (known_jobs_at w p c) (known_jobs_at v p c)) v (down_steps f p c k v) (down_step_keeps p c w)
      (both w v (down_steps f p c k v) (down_step_keeps p c w) (down_steps_keep p c k v))

  up_steps_keep : (c m k : ℕ) (w : Network) → R w (up_steps f c m k w)
  unfolding up_steps
  up_steps_keep c m zero w = same w
  up_steps_keep c m (suc k) w =
      let v : Network = up_step f c m w in
      by_receiver (R w) (nat_lt (known_ups_at w c m) (known_ups_at v c m)) v (up_steps f c m k v) (up_step_keeps c m w)
      (both w v (up_steps f c m k v) (up_step_keeps c m w) (up_steps_keep c m k v))

  down_children_keep : (p : ℕ) (cs : List ℕ) (w : Network) → R w (down_children f p cs w)
  down_children_keep p [] w = same w
  down_children_keep p (c ∷ cs) w =
      let v : Network = down_child f p c w in
      both w v (down_children f p cs v) (down_steps_keep p c _ w) (down_children_keep p cs v)

  up_minions_keep : (c : ℕ) (ms : List ℕ) (w : Network) → R w (up_minions f c ms w)
  up_minions_keep c [] w = same w
  up_minions_keep c (m ∷ ms) w =
      let v : Network = up_minion f c m w in
      both w v (up_minions f c ms v) (up_steps_keep c m _ w) (up_minions_keep c ms v)

  down_pass_keeps : (k : ℕ) (w : Network) → R w (down_pass f k w)
  down_pass_keeps zero w = same w
  down_pass_keeps (suc p) w =
      let v : Network = down_pass f p w in
      both w v (down_children f p (children f.tree p) v) (down_pass_keeps p w) (down_children_keep p (children f.tree p) v)

  up_pass_keeps : (k : ℕ) (w : Network) → R w (up_pass f k w)
  up_pass_keeps zero w = same w
  up_pass_keeps (suc c) w =
      let v : Network = up_minions f c (minions f.tree c) w in
      by_receiver (R w) (nat_lt 0 c) w (up_pass f c v) (same w) (both w v (up_pass f c v) (up_minions_keep c (minions f.tree c) w) (up_pass_keeps c v))

  pub settle_keeps : (w : Network) → R w (after_settle f w)
  settle_keeps w =
      let v : Network = down_pass f (length f.tree) w in
      both w v (up_pass f (length f.tree) v) (down_pass_keeps (length f.tree) w) (up_pass_keeps (length f.tree) v)
