use Rattle.std.proofs.Common.{◌^◌}
use Rattle.std.specs.Int.{byte_len}
use Rattle.salt_value.proofs.ByteFields.{wide, number_again, number_takes}
use Rattle.salt_value.proofs.laws.numbers_read_back.Goals as goal

pub returns-clause-written : goal.returns-clause-written
returns-clause-written g c = λ w short n rest le lt. number_again w (256 ^ byte_len w) (wide w le) short n rest lt

pub returns-clause-read : goal.returns-clause-read
returns-clause-read g c = λ w short input n rest le fits e. let t = number_takes w (256 ^ byte_len w) (wide w le) short input n rest fits e in (t.1, t.0.parts, t.0.rest_fits)
