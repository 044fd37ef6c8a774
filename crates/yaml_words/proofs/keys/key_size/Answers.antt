use Rattle.std.proofs.Common.{◌<◌, length, arith}
use Rattle.yaml_words.specs.declared.quotes.QuoteKind.TheVariants.{Single, Double}
use Rattle.yaml_words.proofs.KeyLemmas.{quoted_size, place_in_text}
use Rattle.yaml_words.proofs.keys.key_size.Goals as goal

pub returns-in-Some-clause-within : goal.returns-in-Some-clause-within
returns-in-Some-clause-within c =
    let some : 0 < length c.args.text.now = omega (arith, c.in-Some.ensures.shorter) in
    quoted_size Single c.args.text.now c.in-Some.inner.now c.after_quote.result.now _ some c.in-Some.ensures.value.1 c.after_quote.ensures.value c.quoted_key_size.ensures

pub returns-in-Some-after_byte-clause-within : goal.returns-in-Some-after_byte-clause-within
returns-in-Some-after_byte-clause-within c =
    let some : 0 < length c.args.text.now = omega (arith, c.in-Some-after_byte.ensures.shorter) in
    quoted_size Double c.args.text.now c.in-Some-after_byte.inner.now c.after_quote-in-Some-after_byte.result.now _ some c.in-Some-after_byte.ensures.value.1 c.after_quote-in-Some-after_byte.ensures.value c.quoted_key_size-in-Some-after_byte.ensures

pub returns-clause-within : goal.returns-clause-within
returns-clause-within c = place_in_text c.args.text.now c.uncommented.result.now _ c.uncommented.ensures c.plain_key_size.ensures.within
