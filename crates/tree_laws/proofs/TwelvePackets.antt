-- A settle, computed: a job for both minions of a top. It sends twelve packets, as many as the bound allows.
use Rattle.std.proofs.Common.{◌≡◌, ℕ, ◌+◌, ◌-◌, ◌*◌, ◌∙◌, refl, ap, [], ◌∷◌, length}
use Rattle.std.specs.Prelude.{Ok}
use Rattle.salt_wire.specs.declared.message.Message.TheVariants.{Pub, Have}
use Rattle.fleet_config.specs.Tree.{branch_by, level_by, plain_member}
use Rattle.fleet_config.specs.declared.fleet.Role.TheVariants as role
use Rattle.node_core.specs.Node.{first_node}
use Rattle.fleet_turns.specs.declared.turn.Turn.TheVariants.{Settle}
use Rattle.tree_world.specs.Network.{Network, start, packet, after_publication}
use Rattle.tree_world.specs.Settle.{down_steps, up_steps, down_child, down_pass, up_pass, after_settle}
use Rattle.tree_laws.specs.Laws.{network_after}
use Rattle.tree_laws.specs.Settles.{entry_count, level_count}
use Rattle.tree_laws.proofs.Example.{fleet, publish, ping_of, is_read, published_at, IsFor, ping_done, top_node, pinged_node}

-- the network after the publication, after the job went to the first minion, and after it went to the second one
abbrev at_first : Network
at_first = after_publication (Ok (ping_of 1000)) (start fleet)

abbrev one_told : Network
one_told = record {
  nodes = record top_node { known_jobs = (1, 1) ∷ [] } ∷ pinged_node (97 ∷ []) ∷ first_node (plain_member role.Minion (98 ∷ [])) ∷ [];
  packets = packet 0 1 (Pub 0 (ping_of 1000)) ∷ packet 1 0 (Have 1) ∷ [];
}

abbrev both_told : Network
both_told = record {
  nodes = record top_node { known_jobs = (1, 1) ∷ (2, 1) ∷ [] } ∷ pinged_node (97 ∷ []) ∷ pinged_node (98 ∷ []) ∷ [];
  packets = packet 0 1 (Pub 0 (ping_of 1000)) ∷ packet 1 0 (Have 1) ∷ packet 0 2 (Pub 0 (ping_of 1000)) ∷ packet 2 0 (Have 1) ∷ [];
}

first_told : IsFor (97 ∷ []) → down_child fleet 0 1 at_first ≡ one_told
unfolding down_steps
first_told e = rw (is_read, ping_done (97 ∷ []) e) refl

second_told : IsFor (98 ∷ []) → down_child fleet 0 2 one_told ≡ both_told
unfolding down_steps
second_told e = rw (is_read, ping_done (98 ∷ []) e) refl

all_told : IsFor (97 ∷ []) → IsFor (98 ∷ []) → down_pass fleet 3 at_first ≡ both_told
all_told e g = ap (λ w. down_child fleet 0 2 w) (first_told e) ∙ second_told g

-- what holds of the network after the way up holds after the settle
pub after_ping : (P : Network → ℕ) → IsFor (97 ∷ []) → IsFor (98 ∷ [])
    → P (network_after fleet (publish ∷ Settle ∷ [])) ≡ P (up_pass fleet 3 both_told)
after_ping P e g =
    ap (λ r. P (after_settle fleet (after_publication r (start fleet)))) (published_at fleet.tree [] 1000 refl refl)
    ∙ ap (λ w. P (up_pass fleet 3 w)) (all_told e g)

pub twelve_packets : IsFor (97 ∷ []) → IsFor (98 ∷ []) → length (network_after fleet (publish ∷ Settle ∷ [])).packets ≡ 12
unfolding branch_by up_steps
twelve_packets e g = after_ping (λ w. length w.packets) e g

-- the minions have two entries each, and there are two levels
pub four_entries : IsFor (97 ∷ []) → IsFor (98 ∷ []) → entry_count fleet.tree (network_after fleet (publish ∷ Settle ∷ [])) ≡ 4
unfolding branch_by up_steps
four_entries e g = after_ping (entry_count fleet.tree) e g

pub two_levels : level_count fleet.tree ≡ 2
unfolding level_by
two_levels = refl

-- so the bound for one job and two minions is met exactly
pub as_bounded : IsFor (97 ∷ []) → IsFor (98 ∷ [])
    → length (network_after fleet (publish ∷ Settle ∷ [])).packets
    ≡ 2 * (1 * (length fleet.tree - 1)) + 2 * (entry_count fleet.tree (network_after fleet (publish ∷ Settle ∷ [])) * (level_count fleet.tree - 1))
as_bounded e g = rw (twelve_packets e g, four_entries e g, two_levels) refl
