use Rattle.salt_value.proofs.ByteFields.{text_or_again, text_or_takes}
use Rattle.salt_value.proofs.laws.texts_read_back.Goals as goal

pub returns-clause-written : goal.returns-clause-written
returns-clause-written g c = λ short bad t rest h. text_or_again short bad t rest h

pub returns-clause-read : goal.returns-clause-read
returns-clause-read g c = λ short bad input t rest fits e. let h = text_or_takes short bad input (t, rest) fits e in (h.1, h.0.parts, h.0.rest_fits)
