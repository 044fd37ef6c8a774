-- What a run over a script does.
use Rattle.std.specs.Prelude.{◌≡◌, ◌⊎◌, ℕ, List, [], ◌∷◌, ◌++◌, codes, decimal, Option, None, Some, All}
use Rattle.salt_outside.specs.Causes.{Rose}
use Rattle.salt_outside.specs.Streams.{contents_after, IsPart, IsRest, IsAtEnd, HasMoreThan, HasAtMost}
use Rattle.std.specs.List.{AllByRecursion}
use Rattle.fleet_config.specs.Fleet.{FleetConfig, IsFleet}
use Rattle.fleet_turns.specs.declared.turn.Turn.{Turn}
use Rattle.tree_world.specs.Network.{top_jobs}
use Rattle.tree_world.specs.Halts.{MeetsBigPattern}
use Rattle.tree_world.specs.Text.{text_of, line}
use Rattle.tree_laws.specs.Laws.{network_after, IsReportFlat, IsTaken}
use Rattle.script_text.specs.declared.script.Script.{Script}
use Rattle.script_text.specs.Script.{IsScript, Spells, MayStand, fleet_of, most_script_bytes}
use Rattle.script_text.specs.Refusals.{IsRefusedAt}
use Rattle.salt_replay.specs.declared.replay.Status.{Status}

-- the text of the network machine over a script
abbrev pub text_of_script : Script → List ℕ
text_of_script s = text_of (fleet_of s) s.turns

-- The source had the text of this script left, where that is told.
abbrev pub MaySpell : Script → Option (List ℕ) → Type 0
MaySpell s None = IsScript s
MaySpell s (Some bytes) = Spells s bytes

-- It is told, and had the text of this script left.
abbrev pub DoesSpell : Script → Option (List ℕ) → Type 0
DoesSpell s None = ⊥
DoesSpell s (Some bytes) = Spells s bytes

-- The first line with which no script goes on is this one, where the text is told.
abbrev pub MayRefuse : ℕ → Option (List ℕ) → Type 0
MayRefuse n None = Unit {0}
MayRefuse n (Some bytes) = IsRefusedAt n bytes

-- the words of the one command
abbrev pub command : List (List ℕ)
command = codes "replay" ∷ []

-- the line that refuses a script
abbrev pub refused_line : ℕ → List ℕ
refused_line n = line (codes "refused script " ++ decimal n ++ codes " NotYet")

-- the line of a source with too many bytes
abbrev pub full_source_line : List ℕ
full_source_line = line (codes "full source")

-- the line of words that are no command
abbrev pub no_command_line : List ℕ
no_command_line = line (codes "salt_node: the words are no command")

-- The line was written whole, or the sink failed and holds a front of it.
abbrev pub IsLineTold : {K : Type 0} → List ℕ → (K → Option (List ℕ)) → (K → ℕ) → K → K → Type 0
IsLineTold text held faults sink sink_now =
    (held sink_now ≡ contents_after (held sink) text)
    ⊎ (Rose (faults sink) (faults sink_now) × IsPart (held sink) (held sink_now) text)

-- 0 a whole run, 1 no memory, 3 no script, 4 the source failed, 5 the sink failed, 12 too long a source
abbrev pub IsReplayStatus : ℕ → Type 0
IsReplayStatus code = (code ≡ 0) ⊎ (code ≡ 1) ⊎ (code ≡ 3) ⊎ (code ≡ 4) ⊎ (code ≡ 5) ⊎ (code ≡ 12)

-- 2 no command, or 1 no memory, and then nothing was written
abbrev pub IsNoCommand : {K : Type 0} → (K → Option (List ℕ)) → K → K → ℕ → Type 0
IsNoCommand held sink sink_now code = (code ≡ 2) ⊎ ((code ≡ 1) × (held sink_now ≡ held sink))

-- what a run with this status read of its source
pub record ReadsScript {S : Type 0} (left : S → Option (List ℕ)) (source source_now : S) (code : ℕ) : Type 0 where
  -- A front of the source was read, and after status 0, 3 and 5 all of it.
  pub rest : IsRest (left source) (left source_now)
  pub whole : (code ≡ 0) ⊎ (code ≡ 3) ⊎ (code ≡ 5) → IsAtEnd (left source_now)
  -- Status 12 comes only over more than 16,777,216 bytes, and there neither status 0 nor 3 nor 5 comes.
  pub too_long : code ≡ 12 → HasMoreThan most_script_bytes (left source)
  pub fits : (code ≡ 0) ⊎ (code ≡ 3) ⊎ (code ≡ 5) → HasAtMost most_script_bytes (left source)

-- the count of a source's faults after a run with this status: it rose after status 4, and is as before after each other one
pub record CountsReads {S : Type 0} (faults : S → ℕ) (source source_now : S) (code : ℕ) : Type 0 where
  pub rose : code ≡ 4 → Rose (faults source) (faults source_now)
  pub kept : (code ≡ 4 → ⊥) → faults source_now ≡ faults source

-- what a run with this status wrote of the text of the script that its source had left
pub record WritesScript {S K : Type 0} (left : S → Option (List ℕ)) (source : S) (held : K → Option (List ℕ)) (sink sink_now : K) (code : ℕ) : Type 0 where
  -- Status 0 comes for a script alone, and then its whole text was written.
  pub done :
      code ≡ 0
      → (s : Script) × MaySpell s (left source) × (held sink_now ≡ contents_after (held sink) (text_of_script s))
  -- Over a script the text is this script's and no other.
  pub text :
      (s : Script) → DoesSpell s (left source) → code ≡ 0 → held sink_now ≡ contents_after (held sink) (text_of_script s)
  -- A front of the text was written where memory or the sink failed.
  pub part :
      (s : Script) → DoesSpell s (left source) → (code ≡ 1) ⊎ (code ≡ 5) → IsPart (held sink) (held sink_now) (text_of_script s)
  -- Where memory was not found for the line of a text that is no script, nothing was written.
  pub silent :
      code ≡ 1 → (bytes : List ℕ) → left source ≡ Some bytes → ((s : Script) → Spells s bytes → ⊥)
      → held sink_now ≡ held sink
  -- Where the source failed nothing was written.
  pub unread : code ≡ 4 → held sink_now ≡ held sink
  -- Status 5 comes over a script alone, and status 3 never does.
  pub write_fault : code ≡ 5 → (s : Script) × MaySpell s (left source)
  pub refused : code ≡ 3 → (s : Script) → DoesSpell s (left source) → ⊥

-- The one line of a run with status 3 names the first line with which no script goes on. Status 12 and 2 have a line each.
pub record TellsLine {S K : Type 0} (left : S → Option (List ℕ)) (source : S) (held : K → Option (List ℕ)) (faults : K → ℕ) (sink sink_now : K) (code : ℕ) : Type 0 where
  pub refusal : code ≡ 3 → (n : ℕ) × MayRefuse n (left source) × IsLineTold (refused_line n) held faults sink sink_now
  pub too_long : code ≡ 12 → IsLineTold full_source_line held faults sink sink_now
  pub no_command : code ≡ 2 → IsLineTold no_command_line held faults sink sink_now

-- The count of a sink's faults rose after status 5. Else it rises only where the line of status 2, 3 or 12 could not be written.
pub record CountsWrites {K : Type 0} (faults : K → ℕ) (sink sink_now : K) (code : ℕ) : Type 0 where
  pub rose : code ≡ 5 → Rose (faults sink) (faults sink_now)
  pub kept : (code ≡ 0) ⊎ (code ≡ 1) ⊎ (code ≡ 4) → faults sink_now ≡ faults sink

-- All that is told of a run. No public contract cites it.
pub record Plays {S K : Type 0} (left : S → Option (List ℕ)) (read_faults : S → ℕ) (source source_now : S) (held : K → Option (List ℕ)) (write_faults : K → ℕ) (sink sink_now : K) (status : Status) : Type 0 where
  pub status_is : IsReplayStatus status.code
  pub left_is : ReadsScript left source source_now status.code
  pub reads : CountsReads read_faults source source_now status.code
  pub text : WritesScript left source held sink sink_now status.code
  pub line : TellsLine left source held write_faults sink sink_now status.code
  pub writes : CountsWrites write_faults sink sink_now status.code

-- After every turn of a script, each row of a report at the top is one that the flat fleet gives, running the top's list of jobs in
-- order, and no packet is stray.
abbrev pub StaysSound : Script → Type 0
StaysSound s =
    (turns later : List Turn) → s.turns ≡ turns ++ later
    → ((seq : ℕ) → IsReportFlat (fleet_of s).tree (top_jobs (network_after (fleet_of s) turns)) (network_after (fleet_of s) turns) seq)
    × All (IsTaken (fleet_of s).tree (network_after (fleet_of s) turns)) (network_after (fleet_of s) turns).packets

-- No turn of these meets a pattern that is too big, where those before it were run. No public contract cites it.
abbrev pub MeetNoBigPattern : FleetConfig → List Turn → Type 0
MeetNoBigPattern f turns =
    (before later : List Turn) (turn : Turn) (leaf : ℕ) → turns ≡ before ++ turn ∷ later
    → MeetsBigPattern f turn (network_after f before) leaf → ⊥

-- No turns that a script of a fleet may have do. No public contract cites it.
abbrev pub MeetNoBigPatternEver : Type 0
MeetNoBigPatternEver =
    (f : FleetConfig) (turns : List Turn) → IsFleet f → AllByRecursion (MayStand f) turns → MeetNoBigPattern f turns
