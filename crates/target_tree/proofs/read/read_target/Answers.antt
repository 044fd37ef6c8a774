use Rattle.target_tree.proofs.Joins.{if-tree, if-only, fault-clause, complete-clause, short-clause}
use Rattle.target_tree.proofs.read.read_target.Goals as goal

pub returns : goal.returns
returns c = record {
  ok = if-tree c.args.kind c.args.groups.now c.args.text.now c.read.result c.read.ensures;
  unique = if-only c.args.kind c.args.groups.now c.args.text.now c.read.result c.read.ensures;
  fault = fault-clause c.args.kind c.args.groups.now c.args.text.now c.read.result c.read.ensures;
  complete = complete-clause c.args.kind c.args.groups.now c.args.text.now c.read.result c.read.ensures;
  short = short-clause c.args.kind c.args.groups.now c.args.text.now c.read.result c.read.ensures;
  exact = c.read.ensures;
}
