use Rattle.std.proofs.Common.{ap, subst, ◌∙◌, arith}
use Rattle.salt_value.specs.Readers.{Answers}
use Rattle.salt_wire.specs.declared.fault.WireFault.TheVariants as faults
use Rattle.salt_wire.specs.Decoding.{decoding}
use Rattle.salt_wire.proofs.Bodies.{message_again, decoded_took}
use Rattle.salt_wire.proofs.FirstFaults.{answer_is_first}
use Rattle.salt_wire.proofs.wire.decode.Goals as goal

pub returns-clause-ok : goal.returns-clause-ok
returns-clause-ok c = decoded_took c.messages_read_back.ensures.messages c.args.body.now c.whole.result (λ i. omega (arith, c.type_inv.body i)) c.whole.ensures

pub returns-clause-complete : goal.returns-clause-complete
returns-clause-complete c = λ x fits e. subst (λ r. Answers faults.NoMemory c.whole.result r) (ap decoding e ∙ message_again c.messages_read_back.ensures.messages x fits) c.whole.ensures

pub returns-clause-fault : goal.returns-clause-fault
returns-clause-fault c = answer_is_first c.args.body.now c.whole.result (λ i. omega (arith, c.type_inv.body i)) c.first_fault_is_met.ensures.fault c.whole.ensures

pub returns-clause-first : goal.returns-clause-first
returns-clause-first c = λ e h. subst (λ r. Answers faults.NoMemory c.whole.result r) (c.first_fault_is_met.ensures.first c.args.body.now e (λ i. omega (arith, c.type_inv.body i)) h) c.whole.ensures
