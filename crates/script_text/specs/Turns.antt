-- The parts of the lines of turns.
use Rattle.std.specs.Prelude.{ℕ, ◌≡◌, ◌<◌, ◌^◌, ◌==◌, nat_lt, ◌&&◌, ◌||◌, Bool, List, [], ◌∷◌, ◌++◌, length, codes, decimal, Option}
use Rattle.salt_value.specs.Reading.{Decodes}
use Rattle.target_tree.specs.declared.kind.Kind.TheVariants.{Glob}
use Rattle.fleet_config.specs.Fleet.{FleetConfig}
use Rattle.fleet_config.specs.Tree.{Tree, id_of}
use Rattle.fleet_turns.specs.declared.turn.Turn.{Turn}
use Rattle.fleet_turns.specs.declared.turn.Turn.TheVariants.{Publish}
use Rattle.script_text.specs.Script.{MayStand, IsPattern, turn_line}

-- This is the one turn of the fleet that is written so, or there is none. No public contract cites it.
abbrev pub ReadsTurn : FleetConfig → List ℕ → Option Turn → Type 0
ReadsTurn f line turn = Decodes (MayStand f) (turn_line f) line turn

-- In each fleet this is the one turn that is written so, or there is none. No public contract cites it.
abbrev pub ReadsInEachFleet : List ℕ → Option Turn → Type 0
ReadsInEachFleet line turn = (f : FleetConfig) → ReadsTurn f line turn

-- A publication of `test.ping` without arguments for a glob of ids. No public contract cites it.
abbrev pub ping : ℕ → List ℕ → Turn
ping moment tgt = Publish moment Glob tgt (codes "test.ping") []

-- What stands after the moment of a publication. No public contract cites it.
abbrev pub target_text : List ℕ → List ℕ
target_text tgt = codes "glob test.ping [\"" ++ (tgt ++ codes "\"]")

-- A moment and a pattern. No public contract cites it.
abbrev pub IsPublication : ℕ × List ℕ → Type 0
IsPublication p = (p.0 < 2 ^ 64) × IsPattern p.1

-- `MOMENT glob test.ping ["PATTERN"]`. No public contract cites it.
abbrev pub publication_text : ℕ × List ℕ → List ℕ
publication_text p = decimal p.0 ++ 32 ∷ target_text p.1

-- The place of a node of the tree. No public contract cites it.
abbrev pub IsPlaceIn : Tree → ℕ → Type 0
IsPlaceIn t n = n < length t

-- This is the one node with that id, or there is none. No public contract cites it.
abbrev pub ReadsNode : Tree → List ℕ → Option ℕ → Type 0
ReadsNode t word node = Decodes (IsPlaceIn t) (id_of t) word node

-- The id of a node, a space, and what stands after it. No public contract cites it.
abbrev pub node_text : Tree → ℕ → List ℕ → List ℕ
node_text t n rest = id_of t n ++ 32 ∷ rest

-- The text begins with the id of this node and a space, and this stands after them. No public contract cites it.
abbrev pub HasNode : Tree → List ℕ → ℕ → List ℕ → Type 0
HasNode t text n rest = IsPlaceIn t n × (text ≡ node_text t n rest)

-- The text does not begin with the id of a node and a space. No public contract cites it.
abbrev pub HasNoNode : Tree → List ℕ → Type 0
HasNoNode t text = (n : ℕ) (rest : List ℕ) → IsPlaceIn t n → text ≡ node_text t n rest → ⊥

-- Two nodes of the tree and a count. No public contract cites it.
abbrev pub IsSending : Tree → ℕ × (ℕ × ℕ) → Type 0
IsSending t p = IsPlaceIn t p.0 × (IsPlaceIn t p.1.0 × (p.1.1 < 2 ^ 64))

-- `FROM TO N`. No public contract cites it.
abbrev pub sending_text : Tree → ℕ × (ℕ × ℕ) → List ℕ
sending_text t p = node_text t p.0 (node_text t p.1.0 (decimal p.1.1))

-- These are the one pair of nodes and the count that are written so, or there are none. No public contract cites it.
abbrev pub ReadsSending : Tree → List ℕ → Option (ℕ × (ℕ × ℕ)) → Type 0
ReadsSending t text sending = Decodes (IsSending t) (sending_text t) text sending

-- One is the top and the other a minion. No public contract cites it.
abbrev pub are_neighbours : ℕ → ℕ → Bool
are_neighbours a b = (a == 0 && nat_lt 0 b) || (b == 0 && nat_lt 0 a)
