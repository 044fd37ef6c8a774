use Rattle.std.proofs.Common.{refl}
use Rattle.salt_value.proofs.JidLaws.{jid_text_of}
use Rattle.salt_value.proofs.jid.Jid.text.Goals as goal

pub returns-clause-value : goal.returns-clause-value
returns-clause-value c =
    rw (← c.self.view_is, c.date_digits.ensures, c.clock_digits.ensures)
    (jid_text_of c.date_after.result c.self.inside.micros c.self.invariant c.date_after.ensures)

pub returns-clause-calendar : goal.returns-clause-calendar
returns-clause-calendar c =
    rw (← c.self.view_is)
    (c.date_after.result, c.date_after.ensures, rw (c.date_digits.ensures, c.clock_digits.ensures) refl)
