-- A text in double quotes is read as it was.
use Rattle.std.proofs.Common.{◌≡◌, ℕ, suc, ◌+◌, ◌-◌, ◌≤◌, Bool, true, false, List, [], ◌∷◌, ◌++◌, take, drop, length, refl, sym, ap, ◌∙◌, arith, append_assoc, length-append}
use Rattle.std.specs.Prelude.{◌==◌, nat_lt, Some, Ok, option_map}
use Rattle.std.proofs.lemmas.Bool.{eqb-true}
use Rattle.std.proofs.lemmas.List.{take_at, drop_at}
use Rattle.salt_value.specs.declared.value.Value.TheVariants as v
use Rattle.yaml_words.specs.declared.flow.FlowNode.TheVariants as w
use Rattle.yaml_words.specs.declared.places.Delimiter.TheVariants.{Return, Open}
use Rattle.yaml_words.specs.declared.quotes.QuoteKind.TheVariants.{Double}
use Rattle.yaml_words.specs.Places.{place, is_empty}
use Rattle.yaml_words.specs.Spaces.{after_spaces}
use Rattle.yaml_words.specs.Quotes.{quoted, with_text, after_quote, rest_of, written, quoted_text}
use Rattle.yaml_words.specs.Plain.{most_scalar_bytes}
use Rattle.yaml_words.specs.Lists.{quoted_value}
use Rattle.yaml_words.specs.Keys.{key, split_key, cut_key, quoted_key_size}
use Rattle.yaml_words.specs.FlowNodes.{flow_node}
use Rattle.yaml_words.specs.Written.{spelled_byte, spelled, in_quotes}
use Rattle.yaml_words.proofs.QuoteLemmas.{plain_byte}

closes : (rest : List ℕ) → quoted Double (34 ∷ rest) ≡ Some ([], rest)
closes [] = refl
closes (c ∷ rest) = refl

-- one byte more is read
byte_reads : (b : ℕ) (more : List ℕ) (back quote feed ret tab : Bool) → (b == 92) ≡ back → (b == 34) ≡ quote → (b == 10) ≡ feed → (b == 13) ≡ ret → (b == 9) ≡ tab
    → quoted Double (spelled_byte b ++ more) ≡ with_text (b ∷ []) (quoted Double more)
byte_reads b more true quote feed ret tab e f g h i = rw e (ap (λ n. with_text (n ∷ []) (quoted Double more)) (sym (eqb-true b 92 e)))
byte_reads b more false true feed ret tab e f g h i = rw (e, f) (ap (λ n. with_text (n ∷ []) (quoted Double more)) (sym (eqb-true b 34 f)))
byte_reads b more false false true ret tab e f g h i = rw (e, f, g) (ap (λ n. with_text (n ∷ []) (quoted Double more)) (sym (eqb-true b 10 g)))
byte_reads b more false false false true tab e f g h i = rw (e, f, g, h) (ap (λ n. with_text (n ∷ []) (quoted Double more)) (sym (eqb-true b 13 h)))
byte_reads b more false false false false true e f g h i = rw (e, f, g, h, i) (ap (λ n. with_text (n ∷ []) (quoted Double more)) (sym (eqb-true b 9 i)))
byte_reads b more false false false false false e f g h i = rw (e, f, g, h, i) (plain_byte Double b more f e)

-- a text and its closing quote
pub text_reads : (text rest : List ℕ) → quoted Double (spelled text ++ 34 ∷ rest) ≡ Some (text, rest)
text_reads [] rest = closes rest
text_reads (b ∷ bytes) rest =
    ap (quoted Double) (append_assoc (spelled_byte b) (spelled bytes) (34 ∷ rest))
    ∙ byte_reads b (spelled bytes ++ 34 ∷ rest) (b == 92) (b == 34) (b == 10) (b == 13) (b == 9) refl refl refl refl refl
    ∙ ap (with_text (b ∷ [])) (text_reads bytes rest)

return_passes : (b : ℕ) (bytes : List ℕ) → (b == 13) ≡ false → place Return bytes ≡ length bytes → place Return (b ∷ bytes) ≡ length (b ∷ bytes)
return_passes b bytes e h = rw e (ap (λ n. suc n) h)

byte_returnless : (b : ℕ) (more : List ℕ) (back quote feed ret tab : Bool) → (b == 92) ≡ back → (b == 34) ≡ quote → (b == 10) ≡ feed → (b == 13) ≡ ret → (b == 9) ≡ tab
    → place Return more ≡ length more → place Return (spelled_byte b ++ more) ≡ length (spelled_byte b ++ more)
byte_returnless b more true quote feed ret tab e f g h i k = rw e (ap (λ n. suc (suc n)) k)
byte_returnless b more false true feed ret tab e f g h i k = rw (e, f) (ap (λ n. suc (suc n)) k)
byte_returnless b more false false true ret tab e f g h i k = rw (e, f, g) (ap (λ n. suc (suc n)) k)
byte_returnless b more false false false true tab e f g h i k = rw (e, f, g, h) (ap (λ n. suc (suc n)) k)
byte_returnless b more false false false false true e f g h i k = rw (e, f, g, h, i) (ap (λ n. suc (suc n)) k)
byte_returnless b more false false false false false e f g h i k = rw (e, f, g, h, i) (return_passes b more h k)

-- no carriage return stands in what is written
returnless_text : (text : List ℕ) → place Return (spelled text ++ 34 ∷ []) ≡ length (spelled text ++ 34 ∷ [])
returnless_text [] = refl
returnless_text (b ∷ bytes) =
    ap (place Return) (append_assoc (spelled_byte b) (spelled bytes) (34 ∷ []))
    ∙ byte_returnless b (spelled bytes ++ 34 ∷ []) (b == 92) (b == 34) (b == 10) (b == 13) (b == 9) refl refl refl refl refl (returnless_text bytes)
    ∙ ap length (sym (append_assoc (spelled_byte b) (spelled bytes) (34 ∷ [])))

not_below : (n m : ℕ) → n ≡ m → nat_lt n m ≡ false
not_below n m e = grind arith

not_over : (n : ℕ) → n ≤ 65536 → nat_lt 65536 n ≡ false
not_over n h = grind arith

take_front : (front rest : List ℕ) → take (length (front ++ rest) - length rest) (front ++ rest) ≡ front
take_front front rest =
    let size : length (front ++ rest) - length rest ≡ length front = omega (arith, length-append front rest) in
    rw size (take_at front rest (length front) refl)

after_text : (text rest : List ℕ) → after_quote Double (spelled text ++ 34 ∷ rest) ≡ rest
after_text text rest = ap rest_of (text_reads text rest)

-- the text as it is written, of which the quote that closes it is a part
written_text : (text rest : List ℕ) → written Double (spelled text ++ 34 ∷ rest) ≡ spelled text ++ 34 ∷ []
written_text text rest =
    let seam : spelled text ++ 34 ∷ rest ≡ (spelled text ++ 34 ∷ []) ++ rest = sym (append_assoc (spelled text) (34 ∷ []) rest) in
    rw (after_text text rest) (rw seam (take_front (spelled text ++ 34 ∷ []) rest))

pub quoted_text_reads : (line : ℕ) (text rest : List ℕ) → quoted_text line Double (spelled text ++ 34 ∷ rest) ≡ Ok text
quoted_text_reads line text rest =
    rw (written_text text rest, ap (option_map (λ p. p.0)) (text_reads text rest), not_below _ _ (returnless_text text)) refl

value_reads : (line : ℕ) (text rest : List ℕ) → length text ≤ most_scalar_bytes → is_empty (after_spaces rest) ≡ true
    → quoted_value line Double (spelled text ++ 34 ∷ rest) (is_empty (after_spaces (after_quote Double (spelled text ++ 34 ∷ rest)))) ≡ Ok (v.Str text)
value_reads line text rest h e =
    rw (quoted_text_reads line text rest, after_text text rest, e, not_below (length text) (length text) refl, not_over (length text) h) refl

-- a text in quotes is that text
pub text_node : (levels line : ℕ) (text : List ℕ) → length text ≤ most_scalar_bytes → flow_node levels line (in_quotes text) ≡ Ok (w.Scalar (v.Str text))
text_node levels line text h = rw (value_reads line text [] h refl) refl

-- a key in quotes is that key, unless it has a mark
pub key_text : (line : ℕ) (text : List ℕ) → length text ≤ most_scalar_bytes → place Open text ≡ length text → key line (in_quotes text) ≡ Ok text
key_text line text h m =
    rw (quoted_text_reads line text [], m, not_below (length text) (length text) refl, not_over (length text) h) refl

cut_front : (front rest : List ℕ) (b : ℕ) → cut_key (front ++ b ∷ rest) (Some (length (front ++ b ∷ rest) - length (b ∷ rest))) ≡ Some (front, after_spaces rest)
cut_front front rest b =
    let size : length (front ++ b ∷ rest) - length (b ∷ rest) ≡ length front = omega (arith, length-append front (b ∷ rest)) in
    let key : take (length front) (front ++ b ∷ rest) ≡ front = take_at front (b ∷ rest) (length front) refl in
    let seam : front ++ b ∷ rest ≡ (front ++ b ∷ []) ++ rest = sym (append_assoc front (b ∷ []) rest) in
    let more : length (front ++ b ∷ []) ≡ length front + 1 = omega (arith, length-append front (b ∷ [])) in
    let behind : drop (length front + 1) (front ++ b ∷ rest) ≡ rest = ap (drop (length front + 1)) seam ∙ drop_at (front ++ b ∷ []) rest (length front + 1) more in
    rw size (rw (key, behind) refl)

-- a line that begins with a key in quotes
pub key_splits : (text rest : List ℕ) → split_key (in_quotes text ++ 58 ∷ 32 ∷ rest) ≡ Some (in_quotes text, after_spaces (32 ∷ rest))
key_splits text rest =
    let behind : after_quote Double ((spelled text ++ 34 ∷ []) ++ 58 ∷ 32 ∷ rest) ≡ 58 ∷ 32 ∷ rest = ap (after_quote Double) (append_assoc (spelled text) (34 ∷ []) (58 ∷ 32 ∷ rest)) ∙ after_text text (58 ∷ 32 ∷ rest) in
    ap (λ r. cut_key (in_quotes text ++ 58 ∷ 32 ∷ rest) (quoted_key_size (in_quotes text ++ 58 ∷ 32 ∷ rest) r)) behind ∙ cut_front (in_quotes text) (32 ∷ rest) 58
