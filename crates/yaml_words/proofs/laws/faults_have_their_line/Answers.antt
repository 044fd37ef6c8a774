use Rattle.yaml_words.proofs.FaultLines.{on_flow_node, on_key}
use Rattle.yaml_words.proofs.laws.faults_have_their_line.Goals as goal

pub returns : goal.returns
returns c = record { node = λ levels line. on_flow_node levels line c.args.text.now; key = λ line. on_key line c.args.text.now }
