-- Where a key ends.
use Rattle.std.proofs.Common.{◌≡◌, ℕ, suc, ◌+◌, ◌-◌, ◌<◌, ◌≤◌, Bool, true, false, List, [], ◌∷◌, take, drop, length, get_or, refl, sym, ap, ◌∙◌, arith, length-drop}
use Rattle.std.specs.Prelude.{◌==◌, ◌&&◌, Option, None, Some, IfSome}
use Rattle.std.proofs.lemmas.Bool.{eqb-true}
use Rattle.std.proofs.lemmas.List.{get_or-drop, get_or-take, drop_all, length-take}
use Rattle.yaml_words.specs.declared.places.Delimiter.TheVariants.{KeyEnd, Comment}
use Rattle.yaml_words.specs.declared.quotes.QuoteKind.{QuoteKind}
use Rattle.yaml_words.specs.Places.{IsAsciiPlace, closing_byte, escape_byte, ends_or, is_at, place}
use Rattle.yaml_words.specs.Spaces.{uncommented}
use Rattle.yaml_words.specs.Quotes.{quoted, rest_of, after_quote, by_escape, escaped}
use Rattle.yaml_words.specs.Keys.{quoted_key_size}
use Rattle.yaml_words.proofs.QuoteLemmas.{rest_with}

-- what is left of a text behind some bytes of it
pub record IsLeft (text rest : List ℕ) : Type 0 where
  pub count : ℕ
  pub within : count ≤ length text
  pub is : rest ≡ drop count text

nothing_left : (text : List ℕ) → IsLeft text []
nothing_left text = record { count = length text; within = omega arith; is = sym (drop_all (length text) text (omega arith)) }

one_left : (b : ℕ) (bytes : List ℕ) → IsLeft (b ∷ bytes) bytes
one_left b bytes = record { count = 1; within = omega arith; is = refl }

left_more : (b : ℕ) (bytes rest : List ℕ) → IsLeft bytes rest → IsLeft (b ∷ bytes) rest
left_more b bytes rest h = record { count = suc h.count; within = (let w : h.count ≤ length bytes = h.within in omega arith); is = h.is }

same_left : (text rest other : List ℕ) → other ≡ rest → IsLeft text rest → IsLeft text other
same_left text rest other e h = record { count = h.count; within = h.within; is = e ∙ h.is }

end_left : (q : QuoteKind) (b : ℕ) (is : Bool) → (b == closing_byte q) ≡ is → IsLeft (b ∷ []) (after_quote q (b ∷ []))
end_left q b true e = same_left (b ∷ []) [] _ (rw e refl) (nothing_left (b ∷ []))
end_left q b false e = same_left (b ∷ []) [] _ (rw e refl) (nothing_left (b ∷ []))

no_escape_left : (q : QuoteKind) (b : ℕ) (after : List ℕ) (more : Option (List ℕ × List ℕ)) (is : Bool) → (b == closing_byte q) ≡ is → IsLeft (b ∷ after) (rest_of (by_escape q b after None more))
no_escape_left q b after more true e = same_left (b ∷ after) after _ (rw e refl) (one_left b after)
no_escape_left q b after more false e = same_left (b ∷ after) [] _ (rw e refl) (nothing_left (b ∷ after))

escape_left : (q : QuoteKind) (b c : ℕ) (bytes : List ℕ) (meant : Option ℕ) → IsLeft bytes (after_quote q bytes) → IsLeft (b ∷ c ∷ bytes) (rest_of (by_escape q b (c ∷ bytes) meant (quoted q bytes)))
escape_left q b c bytes (Some x) h = same_left (b ∷ c ∷ bytes) (after_quote q bytes) _ (rest_with (x ∷ []) (quoted q bytes)) (left_more b (c ∷ bytes) _ (left_more c bytes _ h))
escape_left q b c bytes None h = no_escape_left q b (c ∷ bytes) (quoted q bytes) (b == closing_byte q) refl

byte_left : (q : QuoteKind) (b c : ℕ) (bytes : List ℕ) (escapes closes : Bool) → (b == escape_byte q) ≡ escapes → (b == closing_byte q) ≡ closes
    → IsLeft bytes (after_quote q bytes) → IsLeft (c ∷ bytes) (after_quote q (c ∷ bytes)) → IsLeft (b ∷ c ∷ bytes) (after_quote q (b ∷ c ∷ bytes))
byte_left q b c bytes true closes e f h k = same_left (b ∷ c ∷ bytes) _ _ (rw e refl) (escape_left q b c bytes (escaped q c) h)
byte_left q b c bytes false true e f h k = same_left (b ∷ c ∷ bytes) (c ∷ bytes) _ (rw (e, f) refl) (one_left b (c ∷ bytes))
byte_left q b c bytes false false e f h k = same_left (b ∷ c ∷ bytes) (after_quote q (c ∷ bytes)) _ (rw (e, f) (rest_with (b ∷ []) (quoted q (c ∷ bytes)))) (left_more b (c ∷ bytes) _ k)

-- what follows the closing quote is the end of the text
quote_left : (q : QuoteKind) (text : List ℕ) → IsLeft text (after_quote q text)
quote_left q [] = nothing_left []
quote_left q (b ∷ []) = end_left q b (b == closing_byte q) refl
quote_left q (b ∷ c ∷ bytes) = byte_left q b c bytes (b == escape_byte q) (b == closing_byte q) refl refl (quote_left q bytes) (quote_left q (c ∷ bytes))

and_left : (a b : Bool) → a && b ≡ true → a ≡ true
and_left true b e = refl
and_left false b e = cc

colon_first : (rest : List ℕ) → is_at KeyEnd rest ≡ true → (0 < length rest) × (get_or rest 0 0 ≡ 58)
colon_first [] e = cc
colon_first (b ∷ bytes) e = (omega arith, eqb-true b 58 (and_left (b == 58) (ends_or 32 bytes) e))

left_place : (text rest : List ℕ) → IsLeft text rest → is_at KeyEnd rest ≡ true → IsAsciiPlace text (length text - length rest)
left_place text rest h e =
    let first = colon_first rest e in
    let w : h.count ≤ length text = h.within in
    let size : length rest ≡ length text - h.count = ap length h.is ∙ length-drop h.count text in
    let at : length text - length rest ≡ h.count = omega (arith, size, w) in
    let byte : get_or text h.count 0 ≡ 58 = ap (λ n. get_or text n 0) (let z : h.count ≡ h.count + 0 = omega arith in z) ∙ sym (get_or-drop h.count text 0 0) ∙ ap (λ t. get_or t 0 0) (sym h.is) ∙ first.1 in
    rw at (omega (arith, size, first.0), omega (arith, byte))

size_of : (text rest : List ℕ) (is : Bool) → is_at KeyEnd rest ≡ is → IsLeft text rest → IfSome (quoted_key_size text rest) (IsAsciiPlace text)
size_of text rest true e h = rw e (left_place text rest h e)
size_of text rest false e h = rw e tt

after_first : (q : QuoteKind) (text : List ℕ) → 0 < length text → IsLeft text (after_quote q (drop 1 text))
after_first q [] h = absurd (omega arith)
after_first q (b ∷ bytes) h = left_more b bytes _ (quote_left q bytes)

-- a quoted key ends at a colon
pub quoted_size : (q : QuoteKind) (text inner rest : List ℕ) (size : Option ℕ) → 0 < length text → inner ≡ drop 1 text → rest ≡ after_quote q inner → size ≡ quoted_key_size text rest → IfSome size (IsAsciiPlace text)
quoted_size q text inner rest size h d r s =
    let k : rest ≡ after_quote q (drop 1 text) = r ∙ ap (after_quote q) d in
    rw (s, k) (size_of text (after_quote q (drop 1 text)) (is_at KeyEnd (after_quote q (drop 1 text))) refl (after_first q text h))

-- a place in a text without its comment is one in the text
pub place_in_text : (text kept : List ℕ) (size : Option ℕ) → kept ≡ uncommented text → IfSome size (IsAsciiPlace kept) → IfSome size (IsAsciiPlace text)
place_in_text text kept None e h = tt
place_in_text text kept (Some n) e h =
    let at : n < length (take (place Comment text) text) = omega (arith, h.0, ap length e) in
    let low : n < place Comment text = omega (arith, at, length-take (place Comment text) text) in
    let byte : get_or kept n 0 ≡ get_or text n 0 = ap (λ t. get_or t n 0) e ∙ get_or-take (place Comment text) text n 0 low in
    (omega (arith, at, length-take (place Comment text) text), omega (arith, byte, h.1))
