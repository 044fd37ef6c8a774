use Rattle.std.proofs.Common.{◌<◌, ◌^◌, All, subst, sym, length, List, ℕ}
use Rattle.salt_wire.specs.declared.message.Entry.{Entry}
use Rattle.salt_wire.specs.declared.message.Message.{Message}
use Rattle.node_core.specs.Records.{log}
use Rattle.node_core.specs.Node.{PlacedNode, IsCounted}
use Rattle.node_core.proofs.Sends.{down_counted, up_counted}
use Rattle.node_core.proofs.node.Node.pending.Goals as goal

pub returns-then-is_parent-clause-counted : goal.returns-then-is_parent-clause-counted
returns-then-is_parent-clause-counted c =
    subst (λ (ms : List Message). All IsCounted ms) (sym c.in_ok-pending_down.ensures.ok) (down_counted c.args.to c.args.max c.args.self.now.state)

pub returns-then-is_parent-2-clause-counted : goal.returns-then-is_parent-2-clause-counted
returns-then-is_parent-2-clause-counted c =
    let h = c.self.invariant in
    let few = subst (λ (n : PlacedNode). (id : List ℕ) → length (log id n.state.records) < 2 ^ 32) c.self.view_is
    (λ id. subst (λ (l : List Entry). length l < 2 ^ 32) (h.logged id) (h.short id)) in
    let n = c.args.self.now in
    subst (λ (ms : List Message). All IsCounted ms) (sym c.in_ok-pending_up.ensures.ok) (up_counted n.fleet.tree n.me c.args.max n.state few)
