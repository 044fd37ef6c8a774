use Rattle.std.proofs.Common.{arith, position, not, None, ◌≡◌, ◌<◌, length}
use Rattle.std.proofs.lemmas.Bool.Decides.{nat_tests}
use Rattle.salt_value.specs.Id.{IsId, is_id_byte}
use Rattle.salt_value.proofs.Places.{all_from_none}
use Rattle.salt_value.proofs.IdKept.{kept}
use Rattle.salt_value.proofs.id.MinionId.from_bytes.Goals as goal

valid : (c : goal.After-padded) → IsId c.args.text.now
valid c =
    let none : position (λ b. not (is_id_byte b)) c.args.text.now ≡ None = cc in
    let some : 0 < length c.args.text.now = grind (arith, nat_tests, c.is_empty.ensures, c.if-is_empty.false) in
    (some, omega arith, all_from_none is_id_byte c.args.text.now none)

pub invariant_of-result : goal.invariant_of-result
invariant_of-result c = (kept c.args.text.now c.padded.result (valid c) c.padded.ensures).0

pub returns-in-None-clause-ok : goal.returns-in-None-clause-ok
returns-in-None-clause-ok c = ((kept c.args.text.now c.padded.result (valid c) c.padded.ensures).1, valid c)
