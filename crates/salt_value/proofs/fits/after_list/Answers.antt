use Rattle.std.proofs.Common.{arith}
use Rattle.salt_value.proofs.RoomLemmas.{list_leaves}
use Rattle.salt_value.proofs.fits.after_list.Goals as goal

pub returns : goal.returns
returns c =
    list_leaves c.args.items.now c.args.levels c.args.room c.after_items.result (omega (arith, c.if-levels-eq0.false)) c.requires c.after_items.ensures
