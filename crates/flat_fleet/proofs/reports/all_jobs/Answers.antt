use Rattle.std.proofs.Common.{◌∙◌, arith}
use Rattle.flat_fleet.proofs.Present.{present_next, report_more}
use Rattle.flat_fleet.proofs.reports.all_jobs.Goals as goal

pub loop-k-preserved : goal.loop-k-preserved
loop-k-preserved c =
    let l = c.loop-k in
    let fleet = c.args.minions.now in
    let jobs = c.args.jobs.now in
    let job = c.index-jobs-k.result in (
      c.in_ok-rows.ensures.minion_after ∙ present_next fleet l.minions jobs l.k job (omega (arith, c.loop-k-test.true)) c.index-jobs-k.is l.invariant.0,
      c.in_ok-push.ensures.items ∙ rw (l.invariant.1, c.in_ok-fun.ensures)
          (report_more fleet l.minions jobs l.k job c.in_ok-rows.rows (omega (arith, c.loop-k-test.true)) c.index-jobs-k.is l.invariant.0 c.in_ok-rows.ensures.rows),
    )
