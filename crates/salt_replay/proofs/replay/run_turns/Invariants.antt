use Rattle.std.proofs.Common.{◌≡◌, ◌++◌, List, ℕ, drop, take}
use Rattle.salt_outside.specs.Streams.{contents_after}
use Rattle.tree_world.specs.Text.{text_from, text_of}
use Rattle.tree_laws.specs.Laws.{network_after}
use Rattle.salt_replay.proofs.replay.run_turns.Given as goal

abbrev pub invariant-loop-turn : goal.invariant-loop-turn
invariant-loop-turn g l = record {
  told : (front : List ℕ) × (g.K.Sink.held l.sink ≡ contents_after (g.K.Sink.held l.initial.sink) front)
      × (front ++ text_from l.world.fleet (drop l.turn-index l.turns) l.world.network ≡ text_of l.initial.world.fleet l.turns);
  fleet : l.world.fleet ≡ l.initial.world.fleet;
  network : l.world.network ≡ network_after l.initial.world.fleet (take l.turn-index l.turns);
  faults : g.K.Sink.faults l.sink ≡ g.K.Sink.faults l.initial.sink;
}
