use Rattle.std.proofs.Common.{◌≡◌, ◌∙◌, sym, ap, refl, ℕ, false}
use Rattle.fleet_config.specs.Fleet.{FleetConfig}
use Rattle.fleet_config.specs.Tree.{is_minion}
use Rattle.journalled_node.proofs.Appends.{quiet_ok}
use Rattle.journalled_node.proofs.loading.start.Goals as goal

pub returns-else-is_minion-clause-journal : goal.returns-else-is_minion-clause-journal
returns-else-is_minion-clause-journal g c =
    let p = c.args.node.now in
    let master : is_minion p.fleet.tree p.me ≡ false =
    ap (λ (f : FleetConfig). is_minion f.tree p.me) (sym c.fleet.ensures.value) ∙ ap (λ (k : ℕ). is_minion c.fleet.result.now.tree k) (sym c.me.ensures.value)
    ∙ sym c.is_minion.ensures.value ∙ c.if-is_minion.false in
    rw (c.requires.up.1, master)
    (quiet_ok g.D.Disk c.args.disk.now p c.args.log.now c.logs_at_rest_are_left.ensures c.requires.stands p refl)
