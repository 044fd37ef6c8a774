-- What was printed: a piece for each turn of a script, and what the piece of a report is.
use Rattle.std.specs.Prelude.{◌≡◌, ℕ, List, ◌++◌, length, take, codes, slice_get, Option, None, Some, All, Contains}
use Rattle.std.specs.List.{concat}
use Rattle.salt_outside.specs.Streams.{contents_after}
use Rattle.fleet_config.specs.Tree.{Tree}
use Rattle.salt_wire.specs.declared.message.Job.{Job}
use Rattle.salt_value.specs.declared.outcome.Row.{Row}
use Rattle.fleet_turns.specs.declared.turn.Turn.{Turn}
use Rattle.fleet_turns.specs.declared.turn.Turn.TheVariants.{Report}
use Rattle.tree_world.specs.Network.{Network, top_jobs}
use Rattle.tree_world.specs.Report.{flat_report}
use Rattle.tree_world.specs.Text.{line, printed_text, function_at, rows_text, unknown_text, number_of}
use Rattle.tree_laws.specs.Laws.{network_after, AscendById}
use Rattle.script_text.specs.declared.script.Script.{Script}
use Rattle.script_text.specs.Script.{fleet_of}
use Rattle.salt_replay.specs.Replay.{DoesSpell}

-- the network before turn number i of a script, from 0
abbrev pub network_before : Script → ℕ → Network
network_before s i = network_after (fleet_of s) (take i s.turns)

-- what a report may print of the job with this jid, where the top has these jobs, and that one as number seq: its function, and rows of
-- the report of the flat fleet, which runs these jobs in order, each minion at most once; and the line of an unknown job where the top
-- doesn't have it
abbrev pub IsReportOf : Tree → List Job → ℕ → Option ℕ → List ℕ → Type 0
IsReportOf t jobs jid None piece = piece ≡ unknown_text jid
IsReportOf t jobs jid (Some seq) piece =
    (rows : List Row) × (piece ≡ rows_text jid (function_at jobs seq) rows) × All (Contains (flat_report t jobs seq)) rows × AscendById rows

-- a text of pieces, one for each turn of a script, and of the line of the end
pub record IsPrinted (s : Script) (text : List ℕ) : Type 0 where
  pub pieces : List (List ℕ)
  pub whole : text ≡ concat pieces ++ line (codes "end")
  pub one_each : length pieces ≡ length s.turns
  -- Each piece is what its turn prints.
  pub each :
      (i : ℕ) (turn : Turn) → slice_get s.turns i ≡ Some turn
      → slice_get pieces i ≡ Some (printed_text (fleet_of s) turn (network_before s i))
  -- That of a report is one of rows that the flat fleet gives.
  pub reports :
      (i jid : ℕ) (piece : List ℕ) → slice_get s.turns i ≡ Some (Report jid) → slice_get pieces i ≡ Some piece
      → let jobs = top_jobs (network_before s i) in IsReportOf (fleet_of s).tree jobs jid (number_of jid jobs) piece

-- The sink holds what it held before, and then such a text.
abbrev pub HasPrinted : Script → Option (List ℕ) → Option (List ℕ) → Type 0
HasPrinted s held_before held_now = (text : List ℕ) × (held_now ≡ contents_after held_before text) × IsPrinted s text

-- Over a source that is told and has the text of a script left, status 0 leaves the sink so.
abbrev pub PrintsScripts : {S K : Type 0} → (S → Option (List ℕ)) → S → (K → Option (List ℕ)) → K → K → ℕ → Type 0
PrintsScripts left source held sink sink_now code =
    (s : Script) → DoesSpell s (left source) → code ≡ 0 → HasPrinted s (held sink) (held sink_now)
