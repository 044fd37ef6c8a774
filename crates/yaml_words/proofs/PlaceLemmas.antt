-- The first place in a text that passes a test.
use Rattle.std.proofs.Common.{◌≡◌, ℕ, suc, ◌+◌, ◌<◌, Bool, true, false, List, [], ◌∷◌, drop, length, get_or, refl, ap, ◌∙◌, arith, drop-cons, add-one}
use Rattle.std.specs.Prelude.{◌==◌, ◌&&◌, ◌||◌}
use Rattle.yaml_words.specs.declared.places.Delimiter.{Delimiter}
use Rattle.yaml_words.specs.declared.places.Delimiter.TheVariants.{Comment, KeyEnd, Stray, Open, Close, Return, Feed, ItemEnd, PlainEnd, Special}
use Rattle.yaml_words.specs.declared.quotes.QuoteKind.{QuoteKind}
use Rattle.yaml_words.specs.declared.quotes.QuoteKind.TheVariants.{Single, Double}
use Rattle.yaml_words.specs.Places.{is_at, place, begins_with, ends_or, is_comment, is_key_end, is_item_end, closing_byte, escape_byte}

passed : (d : Delimiter) (b : ℕ) (bytes : List ℕ) → is_at d (b ∷ bytes) ≡ false → place d (b ∷ bytes) ≡ suc (place d bytes)
passed d b bytes e = rw e refl

met : (d : Delimiter) (b : ℕ) (bytes : List ℕ) → is_at d (b ∷ bytes) ≡ true → place d (b ∷ bytes) ≡ 0
met d b bytes e = rw e refl

-- no such place here: it is looked for from the next byte on
pub place_passes : (d : Delimiter) (text : List ℕ) (at : ℕ) → at < length text → is_at d (drop at text) ≡ false → place d (drop at text) ≡ 1 + place d (drop (at + 1) text)
place_passes d text at h e =
    let c = drop-cons text at 0 h in
    let p = passed d (get_or text at 0) (drop (suc at) text) (rw c at e) in
    let n : suc (place d (drop (suc at) text)) ≡ 1 + place d (drop (suc at) text) = omega arith in
    rw add-one (ap (place d) c ∙ p ∙ n)

pub place_met : (d : Delimiter) (text : List ℕ) (at : ℕ) → at < length text → is_at d (drop at text) ≡ true → place d (drop at text) ≡ 0
place_met d text at h e =
    let c = drop-cons text at 0 h in
    ap (place d) c ∙ met d (get_or text at 0) (drop (suc at) text) (rw c at e)

and_left : (a b : Bool) → a && b ≡ true → a ≡ true
and_left true b e = refl
and_left false b e = cc

either : (a b : Bool) → a || b ≡ true → (P : Type 0) → (a ≡ true → P) → (b ≡ true → P) → P
either true b e P f g = f refl
either false b e P f g = g e

comment_ascii : (b : ℕ) (bytes : List ℕ) → is_comment b bytes ≡ true → b < 128
comment_ascii b bytes e = let h = and_left (b == 32) (begins_with 35 bytes) e in grind arith

key_end_ascii : (b : ℕ) (bytes : List ℕ) → is_key_end b bytes ≡ true → b < 128
key_end_ascii b bytes e = let h = and_left (b == 58) (ends_or 32 bytes) e in grind arith

item_end_ascii : (b : ℕ) → is_item_end b ≡ true → b < 128
item_end_ascii b e = either (b == 44) (b == 93) e (b < 128) (λ h. grind arith) (λ h. grind arith)

return_ascii : (b : ℕ) → (b == 13) ≡ true → b < 128
return_ascii b e = grind arith

special_ascii : (q : QuoteKind) (b : ℕ) → (b == closing_byte q || b == escape_byte q) ≡ true → b < 128
special_ascii Single b e = either (b == 39) (b == 39) e (b < 128) (λ h. grind arith) (λ h. grind arith)
special_ascii Double b e = either (b == 34) (b == 92) e (b < 128) (λ h. grind arith) (λ h. grind arith)

-- what is looked for begins with an ASCII byte
ascii_front : (d : Delimiter) (b : ℕ) (bytes : List ℕ) → is_at d (b ∷ bytes) ≡ true → b < 128
ascii_front Comment b bytes e = comment_ascii b bytes e
ascii_front KeyEnd b bytes e = key_end_ascii b bytes e
ascii_front Stray b bytes e = either (b == 13) (is_key_end b bytes) e (b < 128) (return_ascii b) (key_end_ascii b bytes)
ascii_front Open b bytes e = let h = and_left (b == 123) (begins_with 123 bytes) e in grind arith
ascii_front Close b bytes e = let h = and_left (b == 125) (begins_with 125 bytes) e in grind arith
ascii_front Return b bytes e = return_ascii b e
ascii_front Feed b bytes e = grind arith
ascii_front ItemEnd b bytes e = item_end_ascii b e
ascii_front PlainEnd b bytes e = either (is_item_end b) (is_comment b bytes) e (b < 128) (item_end_ascii b) (comment_ascii b bytes)
ascii_front (Special q) b bytes e = special_ascii q b e

pub ascii_here : (d : Delimiter) (text : List ℕ) (at : ℕ) → at < length text → is_at d (drop at text) ≡ true → get_or text at 0 < 128
ascii_here d text at h e = ascii_front d (get_or text at 0) (drop (suc at) text) (rw (drop-cons text at 0 h) at e)

met_or_end : (d : Delimiter) (b : ℕ) (bytes : List ℕ) (is : Bool) → is_at d (b ∷ bytes) ≡ is → place d (drop (place d bytes) bytes) ≡ 0 → place d (drop (place d (b ∷ bytes)) (b ∷ bytes)) ≡ 0
met_or_end d b bytes true e ih = rw e (rw e refl)
met_or_end d b bytes false e ih = rw e ih

-- after the first place there is one at once, or nothing
pub place_at_place : (d : Delimiter) (text : List ℕ) → place d (drop (place d text) text) ≡ 0
place_at_place d [] = refl
place_at_place d (b ∷ bytes) = met_or_end d b bytes (is_at d (b ∷ bytes)) refl (place_at_place d bytes)

pub place_cut : (d : Delimiter) (text more : List ℕ) (at : ℕ) → at ≡ place d text → more ≡ drop at text → place d more ≡ 0
place_cut d text more at e f = rw (f, e) (place_at_place d text)
