use Rattle.std.proofs.Common.{◌∙◌, arith}
use Rattle.salt_value.specs.Id.{IsId}
use Rattle.salt_wire.specs.Spelling.{id}
use Rattle.salt_wire.specs.Decoding.{id_field}
use Rattle.salt_wire.specs.FirstFault.{FieldWrong, Id}
use Rattle.salt_wire.proofs.Bodies.{field_again, field_took, answers, only_fault_at, met_at}
use Rattle.salt_wire.proofs.wire.read_id.Goals as goal

pub returns-clause-ok : goal.returns-clause-ok
returns-clause-ok c = field_took id IsId id_field c.messages_read_back.ensures.ids c.args.body.now c.args.at c.id_from.result (λ i. omega (arith, c.type_inv.body i)) c.requires (answers _ _ c.id_from.ensures)

pub returns-clause-complete : goal.returns-clause-complete
returns-clause-complete c = λ x rest fits e. c.id_from.ensures ∙ field_again id IsId id_field c.messages_read_back.ensures.ids c.args.body.now c.args.at x rest c.requires fits e

pub returns-clause-fault : goal.returns-clause-fault
returns-clause-fault c = only_fault_at (FieldWrong Id) id_field c.first_fault_is_met.ensures.ids c.args.body.now c.args.at (λ i. omega (arith, c.type_inv.body i)) c.id_from.result c.id_from.ensures

pub returns-clause-first : goal.returns-clause-first
returns-clause-first c = λ e h. c.id_from.ensures ∙ met_at (FieldWrong Id) id_field c.first_fault_is_met.ensures.ids c.args.body.now c.args.at (λ i. omega (arith, c.type_inv.body i)) e h
