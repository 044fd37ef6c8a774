use Rattle.std.proofs.Common.{◌≡◌, ◌++◌, drop}
use Rattle.std.specs.Prelude.{flat_map}
use Rattle.tree_world.specs.Text.{entries_text}
use Rattle.tree_world.proofs.queries.push_counts.Given as goal

-- the text so far and that of the minions left are the whole text
abbrev pub invariant-loop-minion : goal.invariant-loop-minion
invariant-loop-minion l =
    l.out.items ++ flat_map (entries_text l.fleet.tree l.node.state.records) (drop l.minion-index l.minions)
    ≡ l.initial.out.items ++ flat_map (entries_text l.fleet.tree l.node.state.records) l.minions
