use Rattle.std.proofs.Common.{inr, Some, None}
use Rattle.salt_wire.proofs.FieldLemmas.{kind_read}
use Rattle.salt_wire.proofs.fields.kind_at.Goals as goal

pub returns-in-Some : goal.returns-in-Some
returns-in-Some c = kind_read c.args.bytes.now c.in_ok-code.rest.now c.in_ok-code.code (Some c.in-Some.kind) c.in_ok-code.ensures c.in-Some.ensures

pub returns-in-None : goal.returns-in-None
returns-in-None c = inr (kind_read c.args.bytes.now c.in_ok-code.rest.now c.in_ok-code.code None c.in_ok-code.ensures c.in-None.ensures)
