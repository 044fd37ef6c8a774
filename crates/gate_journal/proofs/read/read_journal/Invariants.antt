use Rattle.std.proofs.Common.{◌≡◌, ◌+◌, ◌<◌, ◌≤◌, ◌++◌, length}
use Rattle.gate_journal.specs.Journal.{header, records}
use Rattle.gate_journal.proofs.read.read_journal.Given as goal

abbrev pub invariant-loop-rest : goal.invariant-loop-rest
invariant-loop-rest l = record {
  split : l.bytes ≡ (header l.limit ++ records l.payloads.items) ++ l.rest;
  first : l.payloads.first ≡ 16;
  place : l.at ≡ 16 + length (records l.payloads.items);
  within : l.at < l.limit;
  least : 64 ≤ l.limit;
  greatest : l.limit ≤ 1073741824;
  gate : 1 ≤ length l.rest;
}

abbrev pub decreases-loop-rest : goal.decreases-loop-rest
decreases-loop-rest l = length l.rest
