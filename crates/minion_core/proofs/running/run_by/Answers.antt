use Rattle.std.proofs.Common.{◌≤◌, ◌∙◌, ap, sym, subst, length, List}
use Rattle.salt_value.specs.declared.value.Value.{Value}
use Rattle.salt_value.specs.declared.value.Value.TheVariants as v
use Rattle.salt_value.specs.WellFormed.{ValueFits}
use Rattle.salt_wire.specs.declared.deed.Deed.{Deed}
use Rattle.exec_functions.specs.Exec.{run}
use Rattle.minion_core.specs.Flat.{done_by, entries_in}
use Rattle.minion_core.specs.Limits.{DeedFits}
use Rattle.minion_core.proofs.Fitting.{done_fits, done_few}
use Rattle.minion_core.proofs.running.run_by.Goals as goal

pub returns : goal.returns
returns c =
    let made = c.in_ok-ran.ensures.ok ∙ ap (λ a. run c.args.job.now.fun a c.args.held.now) c.as_slice.ensures in
    let is = c.in_ok-deed.ensures ∙ ap (done_by c.args.seq c.args.held.now) made in
    let args = subst (λ (a : List Value). ValueFits (v.List a)) (sym c.as_slice.ensures) c.requires.job.args in (
      is,
      subst DeedFits (sym c.in_ok-deed.ensures) (done_fits c.args.seq c.args.held.now c.in_ok-ran.ran c.ranges.seq.fits c.requires.held (c.in_ok-ran.ensures.fits args)),
      subst (λ (d : Deed). length (entries_in d) ≤ 2) (sym is) (done_few c.args.seq c.args.job.now.fun c.args.job.now.args c.args.held.now),
    )
