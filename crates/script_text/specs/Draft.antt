-- A script up to some line.
use Rattle.std.specs.Prelude.{ℕ, ◌≡◌, Bool, true, false, List, [], ◌∷◌, ◌++◌, map, drop, codes, Option, None, Some}
use Rattle.std.specs.List.{AllByRecursion}
use Rattle.fleet_config.specs.Fleet.{FleetConfig, flat_fleet}
use Rattle.fleet_turns.specs.declared.turn.Turn.{Turn}
use Rattle.script_text.specs.declared.script.Script.{Script}
use Rattle.script_text.specs.declared.draft.Draft.{Draft}
use Rattle.script_text.specs.declared.draft.Stage.{Stage}
use Rattle.script_text.specs.declared.draft.Stage.TheVariants as stage
use Rattle.script_text.specs.Script.{HasIds, MayStand, IsScript, turn_line, id_line, fleet_lines, schedule_lines, script_lines}
use Rattle.script_text.specs.Refusals.{GoesOn}

-- No public contract cites it.
-- the lines that were read up to a stage, where `last` is the id of the minion that was begun last
abbrev pub lines_until : List ℕ → List (List ℕ) → List ℕ → List Turn → Stage → List (List ℕ)
lines_until top minions last turns stage.Minion = fleet_lines top minions
lines_until top minions last turns stage.Role = fleet_lines top minions ++ id_line last ∷ []
lines_until top minions last turns stage.Parent = fleet_lines top minions ++ id_line last ∷ codes "  role: minion" ∷ []
lines_until top minions last turns stage.Turn = fleet_lines top minions ++ codes "%schedule" ∷ map (turn_line (flat_fleet top minions)) turns
lines_until top minions last turns stage.End = fleet_lines top minions ++ schedule_lines (flat_fleet top minions) turns

-- No public contract cites it. The ids after that of the top
abbrev pub minions_of : Draft → List (List ℕ)
minions_of d = drop 1 d.ids.keys

-- No public contract cites it. A minion with this id may be the next one
abbrev pub MayFollow : Draft → List ℕ → Type 0
MayFollow d id = HasIds d.top (minions_of d ++ id ∷ [])

-- No public contract cites it. The lines that were read
abbrev pub draft_lines : Draft → List (List ℕ)
draft_lines d = lines_until d.top (minions_of d) d.last d.turns d.stage

-- No public contract cites it. No other turn is written like this one
abbrev pub IsOnly : FleetConfig → Turn → Type 0
IsOnly f turn = (other : Turn) → MayStand f other → turn_line f other ≡ turn_line f turn → other ≡ turn

-- No public contract cites it.
-- no turn is there before the schedule, and a minion that was begun may stand in the fleet
abbrev pub IsAtStage : List ℕ → List (List ℕ) → List ℕ → List Turn → Stage → Type 0
IsAtStage top minions last turns stage.Minion = turns ≡ []
IsAtStage top minions last turns stage.Role = (turns ≡ []) × HasIds top (minions ++ last ∷ [])
IsAtStage top minions last turns stage.Parent = (turns ≡ []) × HasIds top (minions ++ last ∷ [])
IsAtStage top minions last turns stage.Turn = Unit {0}
IsAtStage top minions last turns stage.End = Unit {0}

-- No public contract cites it. What was read keeps to the form
pub record IsRead (top : List ℕ) (minions : List (List ℕ)) (last : List ℕ) (turns : List Turn) (s : Stage) : Type 0 where
  pub ids : HasIds top minions
  pub each : AllByRecursion (MayStand (flat_fleet top minions)) turns
  pub only : AllByRecursion (IsOnly (flat_fleet top minions)) turns
  pub at : IsAtStage top minions last turns s

-- No public contract cites it. The ids begin with that of the top, and what was read keeps to the form
pub record IsDraft (d : Draft) : Type 0 where
  pub first : d.ids.keys ≡ d.top ∷ minions_of d
  pub read : IsRead d.top (minions_of d) d.last d.turns d.stage

-- No public contract cites it. A line was taken, or the form does not have it there.
abbrev pub IsLineTaken : Draft → List ℕ → Draft → Bool → Type 0
IsLineTaken old line new true = IsDraft new × (draft_lines new ≡ draft_lines old ++ line ∷ [])
IsLineTaken old line new false = GoesOn (draft_lines old ++ line ∷ []) → ⊥

-- No public contract cites it. The one script that these lines are, and none only where they are no script
abbrev pub IsScriptOf : List (List ℕ) → Option Script → Type 0
IsScriptOf lines None = (s : Script) → IsScript s → script_lines s ≡ lines → ⊥
IsScriptOf lines (Some s) =
    IsScript s × (script_lines s ≡ lines) × ((other : Script) → IsScript other → script_lines other ≡ lines → other ≡ s)
