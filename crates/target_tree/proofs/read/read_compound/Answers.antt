use Rattle.target_tree.proofs.Joins.{compound-run}
use Rattle.target_tree.proofs.read.read_compound.Goals as goal

pub returns : goal.returns
returns c = compound-run c.args.groups.now c.args.text.now c.in_ok-rest.rest.now c.run.result c.in_ok-rest.ensures (rw (c.new.ensures, c.begin.ensures) at c.run.ensures)
