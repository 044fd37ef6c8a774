-- Settle: every job goes down the tree and then every entry up, one message after the other, each of them taken and answered.
use Rattle.std.specs.Prelude.{ℕ, zero, suc, ◌+◌, ◌-◌, List, [], ◌∷◌, length, filter, slice_get, Option, None, Some, nat_lt, if◌then◌else◌}
use Rattle.fleet_config.specs.Fleet.{FleetConfig}
use Rattle.fleet_config.specs.Tree.{Tree, id_of, parent_of, is_parent, minions, up_to}
use Rattle.salt_wire.specs.declared.message.Job.{Job}
use Rattle.salt_wire.specs.declared.message.Entry.{Entry}
use Rattle.salt_wire.specs.declared.message.Message.{Message}
use Rattle.salt_wire.specs.declared.message.Message.TheVariants as m
use Rattle.node_core.specs.Records.{jobs, jobs_held, log}
use Rattle.node_core.specs.Counts.{known_count}
use Rattle.tree_world.specs.Network.{Network, node_at, packet, with_packets, after_delivery}

-- the network after a message was sent and taken, and then its reply, if there is one
abbrev pub after_exchange : FleetConfig → ℕ → ℕ → Message → Network → Network
after_exchange f from to message w =
    let sent = with_packets w (packet from to message ∷ []) in
    let taken = after_delivery f sent (slice_get sent.packets (length w.packets)) in
    after_delivery f taken (slice_get taken.packets (length w.packets + 1))

-- the jobs that the node at a place has
abbrev pub node_jobs : Network → ℕ → List Job
node_jobs w i = jobs (node_at w.nodes i).records

-- how many jobs the node at a place holds
abbrev pub jobs_held_at : Network → ℕ → ℕ
jobs_held_at w i = jobs_held (node_at w.nodes i).records

-- the log that the node at a place has of minion m
abbrev pub node_log : Tree → Network → ℕ → ℕ → List Entry
node_log t w i m = log (id_of t m) (node_at w.nodes i).records

-- how many jobs child c is known to hold by node p
abbrev pub known_jobs_at : Network → ℕ → ℕ → ℕ
known_jobs_at w p c = known_count (node_at w.nodes p).known_jobs c

-- how many entries of minion m its parent is known to hold by node c
abbrev pub known_ups_at : Network → ℕ → ℕ → ℕ
known_ups_at w c m = known_count (node_at w.nodes c).known_ups m

-- the network after a job, if there is one, went from node p to its child c
abbrev pub down_once : FleetConfig → ℕ → ℕ → Network → Option Job → Network
down_once f p c w None = w
down_once f p c w (Some job) = after_exchange f p c (m.Pub (known_jobs_at w p c) job) w

-- the network after the first job that child c is not known to hold went to it, if there is one
abbrev pub down_step : FleetConfig → ℕ → ℕ → Network → Network
down_step f p c w = down_once f p c w (slice_get (node_jobs w p) (known_jobs_at w p c))

-- the network after an entry of minion m, if there is one, went from node c to its parent
abbrev pub up_once : FleetConfig → ℕ → ℕ → Network → Option Entry → Network
up_once f c minion w None = w
up_once f c minion w (Some entry) =
    after_exchange f c (parent_of f.tree c) (m.Up (id_of f.tree minion) (known_ups_at w c minion) entry) w

-- the network after the first entry of minion m that its parent is not known to hold went up from node c, if there is one
abbrev pub up_step : FleetConfig → ℕ → ℕ → Network → Network
up_step f c minion w = up_once f c minion w (slice_get (node_log f.tree w c minion) (known_ups_at w c minion))

-- The network after at most so many jobs went to one child, as long as each raised the count that is known of it.
unfoldable pub down_steps : FleetConfig → ℕ → ℕ → ℕ → Network → Network
down_steps f p c zero w = w
down_steps f p c (suc k) w =
    let v = down_step f p c w in
    if nat_lt (known_jobs_at w p c) (known_jobs_at v p c) then down_steps f p c k v else v

-- The network after at most so many entries of one minion went up from a node, as long as each raised the count that is known.
unfoldable pub up_steps : FleetConfig → ℕ → ℕ → ℕ → Network → Network
up_steps f c minion zero w = w
up_steps f c minion (suc k) w =
    let v = up_step f c minion w in
    if nat_lt (known_ups_at w c minion) (known_ups_at v c minion) then up_steps f c minion k v else v

-- the network after each job that a child is not known to hold went to it
abbrev pub down_child : FleetConfig → ℕ → ℕ → Network → Network
down_child f p c w = down_steps f p c (jobs_held_at w p - known_jobs_at w p c) w

-- the network after each entry of a minion that its parent is not known to hold went up from node c
abbrev pub up_minion : FleetConfig → ℕ → ℕ → Network → Network
up_minion f c minion w = up_steps f c minion (length (node_log f.tree w c minion) - known_ups_at w c minion) w

-- the network after the jobs of a node went to these children, one after the other
abbrev pub down_children : FleetConfig → ℕ → List ℕ → Network → Network
down_children f p [] w = w
down_children f p (c ∷ cs) w = down_children f p cs (down_child f p c w)

-- the network after the entries of these minions went up from a node, one after the other
abbrev pub up_minions : FleetConfig → ℕ → List ℕ → Network → Network
up_minions f c [] w = w
up_minions f c (minion ∷ rest) w = up_minions f c rest (up_minion f c minion w)

-- the children of a node, in list order
abbrev pub children : Tree → ℕ → List ℕ
children t p = filter (λ c. is_parent t p c) (up_to (length t))

-- the network after the jobs of the first so many nodes, in list order, went to the children of each
abbrev pub down_pass : FleetConfig → ℕ → Network → Network
down_pass f zero w = w
down_pass f (suc p) w = down_children f p (children f.tree p) (down_pass f p w)

-- the network after the entries of the first so many nodes but the top, the last first, went up from each
abbrev pub up_pass : FleetConfig → ℕ → Network → Network
up_pass f zero w = w
up_pass f (suc c) w = if nat_lt 0 c then up_pass f c (up_minions f c (minions f.tree c) w) else w

-- The network after a settle: all that is pending went down through the tree and then up.
abbrev pub after_settle : FleetConfig → Network → Network
after_settle f w = up_pass f (length f.tree) (down_pass f (length f.tree) w)
