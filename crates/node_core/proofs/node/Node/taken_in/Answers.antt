use Rattle.std.proofs.Common.{◌≡◌, ◌∙◌, ap, sym, subst}
use Rattle.fleet_config.specs.Tree.{is_minion, id_of}
use Rattle.node_core.specs.Node.{PlacedNode}
use Rattle.node_core.specs.Index.{is_minion_core, held_in}
use Rattle.node_core.proofs.Passes.{run_taken}
use Rattle.node_core.proofs.node.Node.taken_in.Goals as goal

pub returns-in_ok-job_record-in-Minion-clause-ok : goal.returns-in_ok-job_record-in-Minion-clause-ok
returns-in_ok-job_record-in-Minion-clause-ok c =
    let view = c.self.view_is in
    let core = c.in-Minion.is in
    let made = c.in_ok-job_record-in-Minion.ensures in
    run_taken c.args.seq c.args.job.now c.args.self.now _ _ _
    (subst (λ (p : PlacedNode). p.state.minion ≡ is_minion p.fleet.tree p.me) view c.self.invariant.role)
    (sym (ap (λ (p : PlacedNode). p.state.minion) view) ∙ ap is_minion_core core)
    c.requires.may c.requires.next
    (c.id-id.ensures.value ∙ ap (λ (p : PlacedNode). id_of p.fleet.tree p.me) view)
    (c.held.ensures.value ∙ sym (ap held_in core) ∙ ap (λ (p : PlacedNode). p.state.held) view)
    made.ok made.fits made.few
