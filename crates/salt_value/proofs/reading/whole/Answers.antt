use Rattle.std.proofs.Common.{ap, refl, ◌∙◌, sym, Ok, Err, take, subst}
use Rattle.salt_value.specs.Readers.{Answers}
use Rattle.salt_value.specs.Decoding.{read_at}
use Rattle.salt_value.specs.declared.fault.ValueFault.TheVariants as faults
use Rattle.salt_value.proofs.Whole.{whole_ok, whole_err}
use Rattle.salt_value.proofs.reading.whole.Goals as goal

pub returns-in-Ok : goal.returns-in-Ok
returns-in-Ok c = whole_ok c.args.input.now (take c.min-seen.result c.args.input.now) c.min-seen.result c.in-Ok.value c.in-Ok.rest.now c.min-seen.ensures refl c.in-Ok.ensures ∙ ap (λ k. Ok (c.in-Ok.value, k)) (sym c.saturating_sub.ensures)

pub returns-in-Err : goal.returns-in-Err
returns-in-Err c = subst (λ e. Answers faults.NoMemory (Err e) (read_at c.args.input.now)) (sym c.place.ensures) (whole_err c.args.input.now (take c.min-seen.result c.args.input.now) c.min-seen.result c.in-Err.misread c.min-seen.ensures refl c.in-Err.ensures)
