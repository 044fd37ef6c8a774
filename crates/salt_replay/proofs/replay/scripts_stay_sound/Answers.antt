use Rattle.std.proofs.Common.{subst, List}
use Rattle.std.specs.List.{AllByRecursion}
use Rattle.fleet_turns.specs.declared.turn.Turn.{Turn}
use Rattle.fleet_turns.specs.Turns.{IsTurn}
use Rattle.script_text.specs.Script.{fleet_of}
use Rattle.tree_laws.specs.Laws.{IsRun}
use Rattle.salt_replay.proofs.Runs.{are_turns, is_fleet}
use Rattle.salt_replay.proofs.replay.scripts_stay_sound.Goals as goal

pub returns : goal.returns
returns c = λ script h turns later e.
    let fleet = is_fleet script h in
    let all = subst (λ (ts : List Turn). AllByRecursion (IsTurn (fleet_of script)) ts) e (are_turns (fleet_of script) script.turns h.turns) in
    let run : IsRun (fleet_of script) turns = record { fleet = fleet; each = c.whole_runs.ensures.front (fleet_of script) turns later all } in
    (c.whole_runs.ensures.reports (fleet_of script) turns run, c.whole_runs.ensures.none_stray (fleet_of script) turns run)
