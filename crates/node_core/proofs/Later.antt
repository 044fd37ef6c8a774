-- The jid of a publication is later than the last one.
use Rattle.std.proofs.Common.{◌≡◌, ℕ, ◌+◌, refl, max, Bool, true, false, nat_le, arith}
use Rattle.std.specs.Prelude.{Option, None, Some, if◌then◌else◌}
use Rattle.std.proofs.lemmas.Bool.{lt-ltb}
use Rattle.salt_value.specs.Jid.{next_jid, greatest_jid}
use Rattle.minion_core.specs.Flat.{is_after}

within_greatest : (t : Bool) (next jid : ℕ) → (if t then Some next else None) ≡ Some jid → next ≡ jid
within_greatest true next jid e = cc
within_greatest false next jid e = absurd cc

pub next_later : (last : Option ℕ) (moment jid : ℕ) → next_jid last moment ≡ Some jid → is_after last jid ≡ true
next_later None moment jid e = refl
next_later (Some last) moment jid e =
    let is : max moment (last + 1) ≡ jid = within_greatest (nat_le (max moment (last + 1)) greatest_jid) (max moment (last + 1)) jid e in
    lt-ltb last jid (omega arith)
