-- Which turns a fleet has.
use Rattle.std.specs.Prelude.{◌^◌, ◌≤◌, ◌<◌, ◌≡◌, ◌⊎◌, ⊤, ℕ, true, length}
use Rattle.salt_value.specs.Jid.{greatest_jid}
use Rattle.fleet_config.specs.Tree.{Tree, is_parent, is_minion}
use Rattle.fleet_config.specs.Fleet.{FleetConfig}
use Rattle.fleet_turns.specs.declared.turn.Turn.{Turn}
use Rattle.fleet_turns.specs.declared.turn.Turn.TheVariants.{Publish, Send, Deliver, Settle, Report, Exit, Jobs, Summary, Data, Counts, Packet}

-- the turns that a fleet has: a message goes between two neighbours, each node is one of the fleet, and each number is one of 64 bits
abbrev pub IsTurn : FleetConfig → Turn → Type 0
IsTurn f (Publish moment kind tgt fun args) = moment < 2 ^ 64
IsTurn f (Send from to count) =
    (from < length f.tree) × (to < length f.tree) × (count < 2 ^ 64) × ((is_parent f.tree from to ≡ true) ⊎ (is_parent f.tree to from ≡ true))
IsTurn f (Deliver i) = i < 2 ^ 64
IsTurn f Settle = ⊤
IsTurn f (Report jid) = jid ≤ greatest_jid
IsTurn f (Exit jid) = jid ≤ greatest_jid
IsTurn f Jobs = ⊤
IsTurn f Summary = ⊤
IsTurn f (Data node) = is_minion f.tree node ≡ true
IsTurn f (Counts node) = node < length f.tree
IsTurn f (Packet i) = i < 2 ^ 64

-- Two places are those of nodes of which one is the parent of the other. No public contract cites it.
pub record AreNeighbours (t : Tree) (a b : ℕ) : Type 0 where
  pub first : a < length t
  pub second : b < length t
  pub one_above : (is_parent t a b ≡ true) ⊎ (is_parent t b a ≡ true)
