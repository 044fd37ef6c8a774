use Rattle.std.proofs.Common.{ℕ, List, sym, subst, ◌∙◌}
use Rattle.std.specs.Str.Parse.{ParsesUnsigned}
use Rattle.script_text.proofs.Numbers.{utf8_decimal, number_read}
use Rattle.script_text.proofs.lines.read_number.Goals as goal

pub returns-in_default : goal.returns-in_default
returns-in_default c = λ x h e. c.in_default.ensures.cases.0 (utf8_decimal x _ h e)

pub returns : goal.returns
returns c =
    rw c.ok.ensures.value
    (number_read c.args.text.now c.parse.result (sym c.begins_as_decimal.ensures ∙ c.if-not-begins_as_decimal.false)
    (subst (λ (t : List ℕ). ParsesUnsigned 64 10 t c.parse.result) (c.in-Ok.ensures {u = tt}).cases.0 c.parse.ensures.value.0))
