use Rattle.std.proofs.lemmas.Str.{is_utf8-from_IsUtf8}
use Rattle.salt_value.proofs.RoomLemmas.{text_leaves}
use Rattle.salt_value.proofs.fits.after_text.Goals as goal

pub returns : goal.returns
returns c = text_leaves c.args.text.now c.args.room c.checked_sub.result c.if-room-lt4.false c.requires (is_utf8-from_IsUtf8 _ c.utf8.text) c.checked_sub.ensures
