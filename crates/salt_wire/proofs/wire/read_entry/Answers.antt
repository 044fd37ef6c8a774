use Rattle.std.proofs.Common.{subst, arith}
use Rattle.salt_wire.specs.Limits.{EntryFits}
use Rattle.salt_wire.specs.Spelling.{entry}
use Rattle.salt_value.specs.Readers.{Answers}
use Rattle.salt_value.specs.Decoding.{IsBytes}
use Rattle.salt_wire.specs.declared.fault.WireFault.TheVariants as faults
use Rattle.salt_wire.specs.FirstFault.{FieldWrong, Entry}
use Rattle.salt_wire.specs.Decoding.{field_at, entry_field}
use Rattle.salt_wire.proofs.Bodies.{is_field, field_again, field_took, fault_at, met_at}
use Rattle.salt_wire.proofs.wire.read_entry.Goals as goal

pub returns : goal.returns
returns c =
    let b = c.args.body.now in
    let at = c.args.at in
    let tells = c.first_fault_is_met.ensures.entries in
    let fits : IsBytes b = λ i. omega (arith, c.type_inv.body i) in
    let law = c.messages_read_back.ensures.entries in
    let given : Answers faults.NoMemory c.placed_after.result (field_at entry_field b at) = is_field _ entry_field b at _ c.entry_at.result c.entry_at.ensures c.placed_after.ensures.ok c.placed_after.ensures.err in
    record {
      ok = field_took entry EntryFits entry_field law b at c.placed_after.result fits c.requires given;
      complete = λ x rest fits e. subst (λ r. Answers faults.NoMemory c.placed_after.result r) (field_again entry EntryFits entry_field law b at x rest c.requires fits e) given;
      fault = fault_at (FieldWrong Entry) entry_field tells b at fits c.placed_after.result given;
      first = λ e h. subst (λ r. Answers faults.NoMemory c.placed_after.result r) (met_at (FieldWrong Entry) entry_field tells b at fits e h) given;
      exact = given;
    }
