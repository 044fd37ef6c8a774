-- The form of a script: its lines, as a function of the fleet and the turns.
use Rattle.std.specs.Prelude.{ℕ, ◌≡◌, ◌<◌, ◌≤◌, ◌==◌, nat_le, ◌&&◌, ◌||◌, not, Bool, false, IsTrue, List, [], ◌∷◌, ◌++◌, length, map, flat_map, codes, decimal, bytes_eq}
use Rattle.std.specs.List.{list_any, list_all, IsDistinct, AllByRecursion}
use Rattle.salt_value.specs.Id.{IsId}
use Rattle.salt_value.specs.Jid.{jid_text}
use Rattle.target_tree.specs.declared.kind.Kind.TheVariants.{Glob}
use Rattle.fleet_config.specs.Limits.{most_minions}
use Rattle.fleet_config.specs.Tree.{id_of}
use Rattle.fleet_config.specs.Fleet.{FleetConfig, flat_fleet}
use Rattle.fleet_turns.specs.declared.turn.Turn.{Turn}
use Rattle.fleet_turns.specs.declared.turn.Turn.TheVariants.{Publish, Send, Deliver, Settle, Report, Exit, Jobs, Summary, Data, Counts, Packet}
use Rattle.fleet_turns.specs.Turns.{IsTurn}
use Rattle.script_text.specs.declared.script.Script.{Script}
use Rattle.script_text.specs.Lines.{lines_of, spaced_words}

-- a byte of A-Z and a-z
abbrev pub is_letter : ℕ → Bool
is_letter b = (nat_le 65 b && nat_le b 90) || (nat_le 97 b && nat_le b 122)

-- is the first byte a letter
abbrev pub begins_with_letter : List ℕ → Bool
begins_with_letter [] = false
begins_with_letter (b ∷ bytes) = is_letter b

-- the words that YAML reads as null and as flags
abbrev pub plain_words : List (List ℕ)
plain_words =
    codes "null" ∷ codes "true" ∷ codes "True" ∷ codes "TRUE" ∷ codes "false" ∷ codes "False" ∷ codes "FALSE" ∷ []

-- does it begin with a letter, and is it no such word
abbrev pub is_node_name : List ℕ → Bool
is_node_name id = begins_with_letter id && not (list_any (bytes_eq id) plain_words)

-- an id that begins with a letter and is none of these words
abbrev pub IsName : List ℕ → Type 0
IsName id = IsId id × IsTrue (is_node_name id)

-- a byte from 0x21 to 0x7E, but no `"` and no `\`
abbrev pub is_pattern_byte : ℕ → Bool
is_pattern_byte b = nat_le 33 b && nat_le b 126 && not (b == 34) && not (b == 92)

-- the greatest number of bytes of a pattern
abbrev pub most_pattern_bytes : ℕ
most_pattern_bytes = 256

-- 1 to 256 such bytes
abbrev pub IsPattern : List ℕ → Type 0
IsPattern bytes = (0 < length bytes) × (length bytes ≤ most_pattern_bytes) × IsTrue (list_all is_pattern_byte bytes)

-- a publication is one of `test.ping` without arguments for a glob of ids, and of the other turns a schedule may send, deliver and report
abbrev pub IsBuilt : Turn → Type 0
IsBuilt (Publish moment kind tgt fun args) = IsPattern tgt × (kind ≡ Glob) × (fun ≡ codes "test.ping") × (args ≡ [])
IsBuilt (Send from to count) = Unit {0}
IsBuilt (Deliver i) = Unit {0}
IsBuilt Settle = ⊥
IsBuilt (Report jid) = Unit {0}
IsBuilt (Exit jid) = ⊥
IsBuilt Jobs = ⊥
IsBuilt Summary = ⊥
IsBuilt (Data node) = ⊥
IsBuilt (Counts node) = ⊥
IsBuilt (Packet i) = ⊥

-- a turn that a schedule of this fleet may have
abbrev pub MayStand : FleetConfig → Turn → Type 0
MayStand f turn = IsTurn f turn × IsBuilt turn

-- the list of one quoted pattern
abbrev pub quoted_list : List ℕ → List ℕ
quoted_list tgt = codes "[\"" ++ (tgt ++ codes "\"]")

-- the line of a turn
abbrev pub turn_line : FleetConfig → Turn → List ℕ
turn_line f (Publish moment kind tgt fun args) = spaced_words (codes "publish" ∷ decimal moment ∷ codes "glob" ∷ codes "test.ping" ∷ quoted_list tgt ∷ [])
turn_line f (Send from to count) = spaced_words (codes "send" ∷ id_of f.tree from ∷ id_of f.tree to ∷ decimal count ∷ [])
turn_line f (Deliver i) = spaced_words (codes "deliver" ∷ decimal i ∷ [])
turn_line f Settle = codes "settle"
turn_line f (Report jid) = spaced_words (codes "report" ∷ jid_text jid ∷ [])
turn_line f (Exit jid) = spaced_words (codes "exit" ∷ jid_text jid ∷ [])
turn_line f Jobs = codes "jobs"
turn_line f Summary = codes "summary"
turn_line f (Data node) = spaced_words (codes "data" ∷ id_of f.tree node ∷ [])
turn_line f (Counts node) = spaced_words (codes "counts" ∷ id_of f.tree node ∷ [])
turn_line f (Packet i) = spaced_words (codes "packet" ∷ decimal i ∷ [])

-- the line of an id
abbrev pub id_line : List ℕ → List ℕ
id_line id = codes "- id: " ++ id

-- the lines of the top
abbrev pub top_lines : List ℕ → List (List ℕ)
top_lines top = codes "%fleet" ∷ codes "nodes:" ∷ id_line top ∷ codes "  role: top" ∷ []

-- the lines of a minion under the top
abbrev pub minion_lines : List ℕ → List ℕ → List (List ℕ)
minion_lines top id = id_line id ∷ codes "  role: minion" ∷ (codes "  parent: " ++ top) ∷ []

-- the lines of a top and its minions
abbrev pub fleet_lines : List ℕ → List (List ℕ) → List (List ℕ)
fleet_lines top minions = top_lines top ++ flat_map (minion_lines top) minions

-- the lines of turns, between their marks
abbrev pub schedule_lines : FleetConfig → List Turn → List (List ℕ)
schedule_lines f turns = codes "%schedule" ∷ (map (turn_line f) turns ++ codes "%end" ∷ [])

-- the fleet of a script
abbrev pub fleet_of : Script → FleetConfig
fleet_of s = flat_fleet s.top s.minions

-- the lines that a script is written with
abbrev pub script_lines : Script → List (List ℕ)
script_lines s = fleet_lines s.top s.minions ++ schedule_lines (fleet_of s) s.turns

-- a top and at most 4,096 minions, with distinct ids
pub record HasIds (top : List ℕ) (minions : List (List ℕ)) : Type 0 where
  pub names : AllByRecursion IsName (top ∷ minions)
  pub distinct : IsDistinct bytes_eq (top ∷ minions)
  pub few : length minions ≤ most_minions

-- what a script keeps to
pub record IsScript (s : Script) : Type 0 where
  pub ids : HasIds s.top s.minions
  pub turns : AllByRecursion (MayStand (fleet_of s)) s.turns

-- the greatest number of bytes of a text that is read
abbrev pub most_script_bytes : ℕ
most_script_bytes = 16777216

-- the text is of this script
abbrev pub Spells : Script → List ℕ → Type 0
Spells s text = IsScript s × (lines_of text ≡ script_lines s)
