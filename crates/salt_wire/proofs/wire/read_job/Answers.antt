use Rattle.std.proofs.Common.{subst, arith}
use Rattle.salt_wire.specs.Limits.{JobFits}
use Rattle.salt_wire.specs.Spelling.{job}
use Rattle.salt_value.specs.Readers.{Answers}
use Rattle.salt_value.specs.Decoding.{IsBytes}
use Rattle.salt_wire.specs.declared.fault.WireFault.TheVariants as faults
use Rattle.salt_wire.specs.FirstFault.{FieldWrong, FirstWrong, job_fields}
use Rattle.salt_wire.specs.Decoding.{field_at, job_field}
use Rattle.salt_wire.proofs.Bodies.{is_field, field_again, field_took, fault_at, met_at}
use Rattle.salt_wire.proofs.wire.read_job.Goals as goal

pub returns : goal.returns
returns c =
    let b = c.args.body.now in
    let at = c.args.at in
    let tells = c.first_fault_is_met.ensures.jobs in
    let fits : IsBytes b = λ i. omega (arith, c.type_inv.body i) in
    let law = c.messages_read_back.ensures.jobs in
    let given : Answers faults.NoMemory c.placed_after.result (field_at job_field b at) = is_field _ job_field b at _ c.job_at.result c.job_at.ensures c.placed_after.ensures.ok c.placed_after.ensures.err in
    record {
      ok = field_took job JobFits job_field law b at c.placed_after.result fits c.requires given;
      complete = λ x rest fits e. subst (λ r. Answers faults.NoMemory c.placed_after.result r) (field_again job JobFits job_field law b at x rest c.requires fits e) given;
      fault = fault_at (FirstWrong FieldWrong job_fields) job_field tells b at fits c.placed_after.result given;
      first = λ e h. subst (λ r. Answers faults.NoMemory c.placed_after.result r) (met_at (FirstWrong FieldWrong job_fields) job_field tells b at fits e h) given;
      exact = given;
    }
