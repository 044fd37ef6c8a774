use Rattle.salt_wire.proofs.BudgetLemmas.{not_leaves, and_leaves, or_leaves}
use Rattle.salt_wire.proofs.fit.+fits.Goals as goal

pub after-returns-in_ok-after_node-in-Not : goal.after-returns-in_ok-after_node-in-Not
after-returns-in_ok-after_node-in-Not t c =
    not_leaves c.args.tree.now c.in-Not.part c.args.left c.in_ok-after_node-in-Not.field-0 c.after.result c.in-Not.is c.in_ok-after_node-in-Not.ensures (rw c.get.ensures at c.after.ensures)

pub after-returns-in-And : goal.after-returns-in-And
after-returns-in-And t c =
    and_leaves c.args.tree.now c.in-And.one c.in-And.other c.args.left c.after_both.result c.in-And.is (rw (c.get-in-And.ensures, c.get-in-And-2.ensures) at c.after_both.ensures)

pub after-returns-in-Or : goal.after-returns-in-Or
after-returns-in-Or t c =
    or_leaves c.args.tree.now c.in-Or.one c.in-Or.other c.args.left c.after_both-in-Or.result c.in-Or.is (rw (c.get-in-Or.ensures, c.get-in-Or-2.ensures) at c.after_both-in-Or.ensures)
