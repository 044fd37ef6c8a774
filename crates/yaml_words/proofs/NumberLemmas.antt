-- Digits at the front of a text, and the number that they are.
use Rattle.std.proofs.Common.{◌≡◌, ℕ, suc, ◌+◌, ◌<◌, ◌≤◌, Bool, true, false, List, [], ◌∷◌, drop, length, get_or, refl, ap, ◌∙◌, arith, drop-cons, add-one}
use Rattle.std.specs.Prelude.{◌==◌, ◌&&◌, ◌^◌, Err}
use Rattle.std.specs.Char.{is_ascii_digit}
use Rattle.std.specs.Int.{w64}
use Rattle.std.specs.Str.{all_ascii_digits}
use Rattle.std.specs.Str.Parse.{digits_value, ParsesSigned}
use Rattle.std.proofs.lemmas.Bool.{eqb-true, eqb-false}
use Rattle.std.proofs.lemmas.Str.Parse.{IsNumeralModel, numerals_by_value, tells_all_ascii_digits, parse_signed_minus, parse_signed_plus, parse_signed_plain}
use Rattle.yaml_words.specs.declared.numbers.Numeral.TheVariants.{Refused}
use Rattle.yaml_words.specs.Places.{is_empty, begins_with}
use Rattle.yaml_words.specs.Numbers.{after_digits, begins_with_digit, is_digits, unsigned, within_64_bits}

passes : (b : ℕ) (bytes : List ℕ) → is_ascii_digit b ≡ true → after_digits (b ∷ bytes) ≡ after_digits bytes
passes b bytes e = rw e refl

-- a digit is passed over
pub digit_passes : (text : List ℕ) (at : ℕ) → at < length text → begins_with_digit (drop at text) ≡ true → after_digits (drop at text) ≡ after_digits (drop (at + 1) text)
digit_passes text at h e =
    let c = drop-cons text at 0 h in
    rw add-one (ap after_digits c ∙ passes (get_or text at 0) (drop (suc at) text) (rw c at e))

stays : (text : List ℕ) → begins_with_digit text ≡ false → after_digits text ≡ text
stays [] e = refl
stays (b ∷ bytes) e = rw e refl

pub no_digit_stays : (text : List ℕ) (at : ℕ) → begins_with_digit (drop at text) ≡ false → after_digits (drop at text) ≡ drop at text
no_digit_stays text at e = stays (drop at text) e

pub own : IsNumeralModel (λ ds. all_ascii_digits ds ≡ true) (digits_value 10)
own = numerals_by_value (λ ds. all_ascii_digits ds ≡ true) tells_all_ascii_digits

and_left : (a b : Bool) → a && b ≡ true → a ≡ true
and_left true b e = refl
and_left false b e = cc

and_right : (a b : Bool) → a && b ≡ true → b ≡ true
and_right true b e = e
and_right false b e = cc

all_step : (b : ℕ) (bytes : List ℕ) (is : Bool) → is_ascii_digit b ≡ is → is_empty (after_digits (b ∷ bytes)) ≡ true → (is_empty (after_digits bytes) ≡ true → all_ascii_digits bytes ≡ true) → all_ascii_digits (b ∷ bytes) ≡ true
all_step b bytes true e h ih = rw e (ih (rw e at h))
all_step b bytes false e h ih = let no : false ≡ true = rw e at h in cc

all_digits : (ds : List ℕ) → is_empty (after_digits ds) ≡ true → all_ascii_digits ds ≡ true
all_digits [] h = refl
all_digits (b ∷ bytes) h = all_step b bytes (is_ascii_digit b) refl h (all_digits bytes)

some_digits : (ds : List ℕ) → begins_with_digit ds ≡ true → 0 < length ds
some_digits [] e = cc
some_digits (b ∷ bytes) e = omega arith

over : (n : ℕ) → (n ≤ 2 ^ 63 → ⊥) → Refused ≡ within_64_bits true n
over n h = grind arith

over_plain : (n : ℕ) → (n < 2 ^ 63 → ⊥) → Refused ≡ within_64_bits false n
over_plain n h = grind arith

minus_case : {E : Type 0} (b : ℕ) (bytes : List ℕ) (e : E) → (b == 45) ≡ true → is_digits bytes ≡ true → ParsesSigned w64 10 (b ∷ bytes) (Err e) → Refused ≡ within_64_bits true (digits_value 10 bytes)
minus_case {E} b bytes e m d h =
    let told = parse_signed_minus own {E = E} w64 (b ∷ bytes) (Err e) h (eqb-true b 45 m) in
    over (digits_value 10 bytes) (λ k. told (all_digits bytes (and_right (begins_with_digit bytes) (is_empty (after_digits bytes)) d), some_digits bytes (and_left (begins_with_digit bytes) (is_empty (after_digits bytes)) d), k))

plus_case : {E : Type 0} (b : ℕ) (bytes : List ℕ) (e : E) → (b == 43) ≡ true → is_digits bytes ≡ true → ParsesSigned w64 10 (b ∷ bytes) (Err e) → Refused ≡ within_64_bits false (digits_value 10 bytes)
plus_case {E} b bytes e p d h =
    let told = parse_signed_plus own {E = E} w64 (b ∷ bytes) (Err e) h (eqb-true b 43 p) in
    over_plain (digits_value 10 bytes) (λ k. told (all_digits bytes (and_right (begins_with_digit bytes) (is_empty (after_digits bytes)) d), some_digits bytes (and_left (begins_with_digit bytes) (is_empty (after_digits bytes)) d), k))

no_sign_case : {E : Type 0} (b : ℕ) (bytes : List ℕ) (e : E) → (b == 45) ≡ false → (b == 43) ≡ false → is_digits (b ∷ bytes) ≡ true → ParsesSigned w64 10 (b ∷ bytes) (Err e) → Refused ≡ within_64_bits false (digits_value 10 (b ∷ bytes))
no_sign_case {E} b bytes e m p d h =
    let told = parse_signed_plain own {E = E} w64 (b ∷ bytes) (Err e) h (eqb-false b 43 p) (eqb-false b 45 m) in
    over_plain (digits_value 10 (b ∷ bytes)) (λ k. told (all_digits (b ∷ bytes) (and_right (is_ascii_digit b) (is_empty (after_digits (b ∷ bytes))) d), omega arith, k))

refused_by_sign : {E : Type 0} (b : ℕ) (bytes : List ℕ) (e : E) (minus plus : Bool) → (b == 45) ≡ minus → (b == 43) ≡ plus → is_digits (unsigned (b ∷ bytes)) ≡ true
    → ParsesSigned w64 10 (b ∷ bytes) (Err e) → Refused ≡ within_64_bits (begins_with 45 (b ∷ bytes)) (digits_value 10 (unsigned (b ∷ bytes)))
refused_by_sign {E} b bytes e true true m p d h = rw (p, m) (minus_case {E = E} b bytes e m (rw p at d) h)
refused_by_sign {E} b bytes e true false m p d h = rw (p, m) (minus_case {E = E} b bytes e m (rw (p, m) at d) h)
refused_by_sign {E} b bytes e false true m p d h = rw (p, m) (plus_case {E = E} b bytes e p (rw p at d) h)
refused_by_sign {E} b bytes e false false m p d h = rw (p, m) (no_sign_case {E = E} b bytes e m p (rw (p, m) at d) h)

-- digits that are read as no number are out of range
pub refused_digits : {E : Type 0} (text : List ℕ) (e : E) → is_digits (unsigned text) ≡ true → ParsesSigned w64 10 text (Err e) → Refused ≡ within_64_bits (begins_with 45 text) (digits_value 10 (unsigned text))
refused_digits {E} [] e d h = cc
refused_digits {E} (b ∷ bytes) e d h = refused_by_sign {E = E} b bytes e (b == 45) (b == 43) refl refl d h
