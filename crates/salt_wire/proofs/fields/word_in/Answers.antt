use Rattle.salt_wire.proofs.FieldLemmas.{not_word}
use Rattle.salt_wire.proofs.fields.word_in.Goals as goal

pub returns-in_default : goal.returns-in_default
returns-in_default c = not_word _ c.in_default.ensures.cases.0
