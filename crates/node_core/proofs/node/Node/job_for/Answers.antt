use Rattle.std.proofs.Common.{◌≡◌, ◌<◌, refl, ap, subst, sym, ◌∙◌, true, List, length}
use Rattle.fleet_config.specs.Limits.{most_jobs}
use Rattle.salt_wire.specs.declared.message.Job.{Job}
use Rattle.salt_wire.specs.declared.deed.Deed.TheVariants.{Publish}
use Rattle.minion_core.specs.Flat.{is_later}
use Rattle.node_core.specs.Records.{jobs}
use Rattle.node_core.specs.Node.{PlacedNode}
use Rattle.node_core.specs.NextRecords.{is_next_at}
use Rattle.node_core.proofs.Index.{job_for_top}
use Rattle.node_core.proofs.node.Node.job_for.Goals as goal

pub returns-clause-next : goal.returns-clause-next
returns-clause-next c =
    let n = c.self.inside in
    let view = c.self.view_is in
    let made = c.in_ok-job.ensures in
    let listed = c.jobs-jobs.ensures.value ∙ sym (ap (λ (p : PlacedNode). jobs p.state.records) view) in
    record {
      next = subst (λ (p : PlacedNode). is_next_at p (Publish c.in_ok-job.job) ≡ true) view
          (job_for_top n.fleet.now.tree n.me n.below.items n.records n.core c.in_ok-job.job
          (λ l. (c.count-nodes.ensures.fleet l).tree) (ap (λ (p : PlacedNode). p.me) view ∙ c.requires.top) c.self.invariant
          (subst (λ (l : List Job). is_later l c.in_ok-job.job ≡ true) listed made.later)
          (subst (λ (l : List Job). length l < most_jobs) listed made.few));
      room = refl;
      fits = made.fits;
    }
