use Rattle.yaml_subset.specs.Document.{lines_of}
use Rattle.yaml_subset.proofs.OneLineMore.{breaks_at}
use Rattle.yaml_subset.proofs.laws.faults_break_at_their_line.Goals as goal

pub returns : goal.returns
returns c = λ first n cause e. breaks_at first (lines_of c.args.text.now) n cause e
