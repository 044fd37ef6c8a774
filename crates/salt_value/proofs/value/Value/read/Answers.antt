use Rattle.std.proofs.Common.{ap, subst, ◌∙◌, arith}
use Rattle.salt_value.specs.Readers.{Answers}
use Rattle.salt_value.specs.Decoding.{read_at}
use Rattle.salt_value.specs.declared.fault.ValueFault.TheVariants as faults
use Rattle.salt_value.proofs.Whole.{is_found, is_spelled, is_within, read_again}
use Rattle.salt_value.proofs.FaultLaws.{is_first, is_met}
use Rattle.salt_value.proofs.value.Value.read.Goals as goal

pub returns-clause-ok : goal.returns-clause-ok
returns-clause-ok c = is_spelled c.args.input.now c.whole.result (is_found c.args.input.now c.whole.result (λ i. omega (arith, c.type_inv.input i)) c.whole.ensures)

pub returns-clause-within : goal.returns-clause-within
returns-clause-within c = is_within c.args.input.now c.whole.result (is_found c.args.input.now c.whole.result (λ i. omega (arith, c.type_inv.input i)) c.whole.ensures)

pub returns-clause-complete : goal.returns-clause-complete
returns-clause-complete c = λ v rest fits e. subst (λ r. Answers faults.NoMemory c.whole.result r) (ap read_at e ∙ read_again v rest fits) c.whole.ensures

pub returns-clause-fault : goal.returns-clause-fault
returns-clause-fault c = is_first c.args.input.now c.whole.result (λ i. omega (arith, c.type_inv.input i)) c.whole.ensures

pub returns-clause-first : goal.returns-clause-first
returns-clause-first c = λ e h. subst (λ r. Answers faults.NoMemory c.whole.result r) (is_met c.args.input.now e h) c.whole.ensures
