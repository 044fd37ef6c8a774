use Rattle.salt_value.proofs.RoomLemmas.{int_leaves}
use Rattle.salt_value.proofs.fits.after_int.Goals as goal

pub returns : goal.returns
returns c = int_leaves c.args.number c.args.room c.checked_sub.result c.ranges.number c.checked_sub.ensures
