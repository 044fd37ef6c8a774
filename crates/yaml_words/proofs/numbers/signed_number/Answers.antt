use Rattle.yaml_words.proofs.NumberLemmas.{refused_digits}
use Rattle.yaml_words.proofs.numbers.signed_number.Goals as goal

pub returns-in-Err : goal.returns-in-Err
returns-in-Err c = refused_digits c.args.text.now c.in-Err.field-0 c.requires c.in-Err.ensures.value.0
