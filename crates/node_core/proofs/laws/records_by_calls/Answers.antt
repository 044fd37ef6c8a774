use Rattle.node_core.proofs.Takes.{records_after}
use Rattle.node_core.proofs.laws.records_by_calls.Goals as goal

pub returns : goal.returns
returns c = record { messages = records_after }
