use Rattle.std.proofs.Common.{◌≡◌, ◌++◌, take}
use Rattle.minion_core.proofs.core_state.push_all.Given as goal

-- copies of the entries so far come after those that were there
abbrev pub invariant-loop-entry : goal.invariant-loop-entry
invariant-loop-entry l = l.log.items ≡ l.initial.log.items ++ take l.entry-index l.entries
