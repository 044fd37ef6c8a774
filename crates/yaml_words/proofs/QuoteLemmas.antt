-- Texts in quotes, piece by piece.
use Rattle.std.proofs.Common.{◌≡◌, ℕ, Bool, true, false, List, [], ◌∷◌, ◌++◌, take, drop, refl, sym, ap, ◌∙◌, append_assoc}
use Rattle.std.specs.Prelude.{◌==◌, ◌||◌, Option, None, Some}
use Rattle.yaml_words.specs.declared.quotes.QuoteKind.{QuoteKind}
use Rattle.yaml_words.specs.declared.places.Delimiter.TheVariants.{Special}
use Rattle.yaml_words.specs.Places.{place, closing_byte, escape_byte}
use Rattle.yaml_words.specs.Quotes.{quoted, with_text, rest_of}

pub with_none : (x : Option (List ℕ × List ℕ)) → with_text [] x ≡ x
with_none None = refl
with_none (Some p) = refl

pub with_with : (a b : List ℕ) (x : Option (List ℕ × List ℕ)) → with_text a (with_text b x) ≡ with_text (a ++ b) x
with_with a b None = refl
with_with a b (Some p) = ap (λ t. Some (t, p.1)) (sym (append_assoc a b p.0))

pub rest_with : (a : List ℕ) (x : Option (List ℕ × List ℕ)) → rest_of (with_text a x) ≡ rest_of x
rest_with a None = refl
rest_with a (Some p) = refl

or_left : (a b : Bool) → a || b ≡ false → a ≡ false
or_left true b e = e
or_left false b e = refl

or_right : (a b : Bool) → a || b ≡ false → b ≡ false
or_right true b e = cc
or_right false b e = e

-- a plain byte
pub plain_byte : (q : QuoteKind) (b : ℕ) (bytes : List ℕ) → (b == closing_byte q) ≡ false → (b == escape_byte q) ≡ false → quoted q (b ∷ bytes) ≡ with_text (b ∷ []) (quoted q bytes)
plain_byte q b [] e f = rw e refl
plain_byte q b (c ∷ bytes) e f = rw (f, e) refl

piece_step : (q : QuoteKind) (b : ℕ) (bytes : List ℕ) (is : Bool) → (b == closing_byte q || b == escape_byte q) ≡ is
    → quoted q bytes ≡ with_text (take (place (Special q) bytes) bytes) (quoted q (drop (place (Special q) bytes) bytes))
    → quoted q (b ∷ bytes) ≡ with_text (take (place (Special q) (b ∷ bytes)) (b ∷ bytes)) (quoted q (drop (place (Special q) (b ∷ bytes)) (b ∷ bytes)))
piece_step q b bytes true e ih = rw e (sym (with_none (quoted q (b ∷ bytes))))
piece_step q b bytes false e ih =
    let c = or_left (b == closing_byte q) (b == escape_byte q) e in
    let d = or_right (b == closing_byte q) (b == escape_byte q) e in
    rw e (plain_byte q b bytes c d ∙ ap (with_text (b ∷ [])) ih ∙ with_with (b ∷ []) _ _)

pub piece_at : (q : QuoteKind) (text : List ℕ) → quoted q text ≡ with_text (take (place (Special q) text) text) (quoted q (drop (place (Special q) text) text))
piece_at q [] = refl
piece_at q (b ∷ bytes) = piece_step q b bytes (b == closing_byte q || b == escape_byte q) refl (piece_at q bytes)

pub parts_of : (q : QuoteKind) (text front more : List ℕ) (at : ℕ) → at ≡ place (Special q) text → front ≡ take at text → more ≡ drop at text → quoted q text ≡ with_text front (quoted q more)
parts_of q text front more at e f g = piece_at q text ∙ rw (f, g, e) refl

-- a piece and an escape more
pub piece_more : (out front meant x y : List ℕ) (q r s t : Option (List ℕ × List ℕ)) → with_text out q ≡ t → q ≡ with_text front r → r ≡ with_text meant s → x ≡ out ++ front → y ≡ x ++ meant → with_text y s ≡ t
piece_more out front meant x y q r s t e f g i j =
    rw (j, i) (sym (with_with (out ++ front) meant s) ∙ sym (with_with out front (with_text meant s)) ∙ ap (with_text out) (ap (with_text front) (sym g) ∙ sym f) ∙ e)
