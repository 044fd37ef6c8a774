use Rattle.yaml_subset.proofs.LineCounts.{line_count}
use Rattle.yaml_subset.proofs.laws.lines_are_numbered.Goals as goal

pub returns : goal.returns
returns c = line_count c.args.text.now
