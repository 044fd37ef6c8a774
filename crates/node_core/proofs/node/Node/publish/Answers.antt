use Rattle.std.proofs.Common.{refl, ap}
use Rattle.node_core.specs.Node.{PlacedNode}
use Rattle.node_core.proofs.node.Node.publish.Goals as goal

pub returns-clause-ok : goal.returns-clause-ok
returns-clause-ok c = record {
  job = c.in_ok-job.job;
  is = c.in_ok-job.ensures.ok;
  jid_is = refl;
  recorded = ap (λ (p : PlacedNode). p.state) c.in_ok-add_record.ensures.ok;
}
