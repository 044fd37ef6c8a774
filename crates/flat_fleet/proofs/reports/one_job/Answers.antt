use Rattle.std.proofs.Common.{◌≡◌, ◌<◌, ◌++◌, [], length, get_or, ◌∙◌, sym, ap, arith}
use Rattle.std.specs.Prelude.{slice_set}
use Rattle.std.specs.List.{cons_option}
use Rattle.flat_fleet.specs.declared.report.FlatMinion.{FlatMinion}
use Rattle.minion_core.specs.Flat.{row_of}
use Rattle.flat_fleet.specs.Reports.{minion_after, outcome_of}
use Rattle.flat_fleet.proofs.Present.{half_at, half_set, rows_more}
use Rattle.flat_fleet.proofs.reports.one_job.Goals as goal

pub loop-i-preserved : goal.loop-i-preserved
loop-i-preserved c =
    let l = c.loop-i in
    let job = c.args.job.now in
    let xs = c.args.minions.now in
    let m = c.index-minions-i.result in
    let lt : l.i < length xs = omega (arith, c.loop-i-test.true) in
    let same : get_or l.minions l.i m ≡ get_or xs l.i m = ap (λ ys. get_or ys l.i m) l.invariant.0 ∙ half_at (minion_after job) l.i xs m lt in
    let o : c.in_ok-outcome.outcome ≡ outcome_of job (get_or l.minions l.i m) = c.in_ok-outcome.ensures.outcome in (
      ap (slice_set l.minions l.i) (c.in_ok-outcome.ensures.minion_after ∙ ap (minion_after job) same)
          ∙ ap (λ ys. slice_set ys l.i (minion_after job (get_or xs l.i m))) l.invariant.0 ∙ half_set (minion_after job) l.i xs m lt,
      rows_more job xs l.i m l.rows _ c.in_ok-outcome.outcome lt (c.index-minions-i.is ∙ same) l.invariant.1 (o ∙ ap (outcome_of job) (sym c.index-minions-i.is)) (c.in_ok-push_row.ensures ∙ ap (λ (q : FlatMinion). l.rows ++ cons_option (row_of q.id c.in_ok-outcome.outcome) []) (sym c.index-minions-i.is)),
    )
