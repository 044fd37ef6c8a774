use Rattle.minion_core.specs.Flat.{return_of}
use Rattle.node_core.specs.Records.{log}
use Rattle.tree_world.specs.Network.{node_at}
use Rattle.script_text.specs.Script.{fleet_of}
use Rattle.salt_replay.proofs.Runs.{is_fleet}
use Rattle.salt_replay.proofs.Pieces.{is_printed}
use Rattle.salt_replay.proofs.replay.scripts_print_sound.Goals as goal

pub returns : goal.returns
returns c = λ script h.
    is_printed script (c.scripts_stay_sound.ensures script h)
    (λ w seq. c.whole_runs.ensures.rows_ascend (fleet_of script) (is_fleet script h) (λ id. return_of seq (log id (node_at w.nodes 0).records)))
