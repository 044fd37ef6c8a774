use Rattle.std.proofs.Common.{◌≡◌, subst}
use Rattle.fleet_config.specs.Tree.{is_minion}
use Rattle.node_core.specs.Node.{PlacedNode}
use Rattle.node_core.proofs.Passes.{entry_passes}
use Rattle.node_core.proofs.node.Node.next_deed.Goals as goal

pub entry_deed-requires : goal.entry_deed-requires
entry_deed-requires c =
    let told = c.in-Up in
    let fits = rw told.is at c.requires.fits in
    record {
      right = λ next. entry_passes c.args.from told.minion told.n told.entry c.args.self.now
          (subst (λ (p : PlacedNode). p.state.minion ≡ is_minion p.fleet.tree p.me) c.self.view_is c.self.invariant.role)
          (rw told.is at c.requires.first) (rw told.is at c.requires.counted) fits.0 fits.2 next;
    }
