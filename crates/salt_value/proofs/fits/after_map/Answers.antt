use Rattle.std.proofs.Common.{arith}
use Rattle.salt_value.proofs.RoomLemmas.{map_leaves}
use Rattle.salt_value.proofs.fits.after_map.Goals as goal

pub returns : goal.returns
returns c =
    map_leaves c.args.fields.now c.args.levels c.args.room c.after_pairs.result (omega (arith, c.if-levels-eq0.false)) c.requires c.as_slice.ensures.ascend (rw c.as_slice.ensures.value at c.after_pairs.ensures)
