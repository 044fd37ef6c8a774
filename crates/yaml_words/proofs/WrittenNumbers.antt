-- A whole number in decimal digits is read as it was.
use Rattle.std.proofs.Common.{◌≡◌, ℕ, zero, suc, ◌<◌, ◌≤◌, ◌^◌, true, false, List, [], ◌∷◌, get_or, refl, ap, ◌∙◌, arith}
use Rattle.std.specs.Prelude.{◌==◌, Ok, decimal, pos, negsuc, neg_ℤ, ℤ, FitsSigned}
use Rattle.std.specs.Char.{is_ascii_digit}
use Rattle.std.specs.Int.{w64, IsInRange}
use Rattle.std.specs.Fmt.{signed_decimal}
use Rattle.std.specs.List.{list_any}
use Rattle.std.specs.Str.{all_ascii_digits}
use Rattle.std.specs.Str.Parse.{digits_value}
use Rattle.std.proofs.lemmas.Fmt.{decimal_digit, first_decimal, digits_decimal, digits_value-decimal}
use Rattle.std.proofs.lemmas.Int.{ints}
use Rattle.std.proofs.lemmas.Str.Parse.{tells_all_ascii_digits}
use Rattle.salt_value.specs.declared.value.Value.TheVariants as v
use Rattle.yaml_words.specs.declared.flow.FlowNode.TheVariants as w
use Rattle.yaml_words.specs.declared.numbers.Numeral.TheVariants.{Whole}
use Rattle.yaml_words.specs.Spaces.{trimmed, onto_trimmed, uncommented}
use Rattle.yaml_words.specs.Numbers.{numeral, after_digits, within_64_bits}
use Rattle.yaml_words.specs.Plain.{plain, may_begin}
use Rattle.salt_value.specs.Readers.{◌>>=◌}
use Rattle.yaml_words.specs.FlowNodes.{flow_node, plain_node, plain_part, scalar}
use Rattle.yaml_words.proofs.NumberLemmas.{own}

ne : (a b : ℕ) → (a ≡ b → ⊥) → (a == b) ≡ false
ne a b h = grind arith

digit : (c : ℕ) → IsInRange 48 57 c → is_ascii_digit c ≡ true
digit c h = let low : 48 ≤ c = h.0 in let high : c ≤ 57 = h.1 in grind arith

after_all : (ds : List ℕ) → all_ascii_digits ds ≡ true → after_digits ds ≡ []
after_all [] h = refl
after_all (c ∷ cs) h = let p = tells_all_ascii_digits.parts c cs h in rw (digit c p.0) (after_all cs p.1)

trimmed_digits : (ds : List ℕ) → all_ascii_digits ds ≡ true → trimmed ds ≡ ds
trimmed_digits [] h = refl
trimmed_digits (c ∷ []) h = let p = tells_all_ascii_digits.parts c [] h in let low : 48 ≤ c = p.0.0 in rw (ne c 32 (λ e. omega (arith, e))) refl
trimmed_digits (c ∷ d ∷ cs) h = let p = tells_all_ascii_digits.parts c (d ∷ cs) h in ap (onto_trimmed c) (trimmed_digits (d ∷ cs) p.1)

comment_digits : (ds : List ℕ) → all_ascii_digits ds ≡ true → uncommented ds ≡ ds
comment_digits [] h = refl
comment_digits (c ∷ cs) h =
    let p = tells_all_ascii_digits.parts c cs h in
    let low : 48 ≤ c = p.0.0 in
    rw (ne c 32 (λ e. omega (arith, e))) (ap (λ t. c ∷ t) (comment_digits cs p.1))

begins : (c : ℕ) → IsInRange 48 57 c → list_any (λ k. c == k) (42 ∷ 38 ∷ 33 ∷ 124 ∷ 62 ∷ 37 ∷ 64 ∷ 123 ∷ 125 ∷ 91 ∷ 93 ∷ 44 ∷ 35 ∷ 96 ∷ []) ≡ false
begins c h =
    let low : 48 ≤ c = h.0 in
    let high : c ≤ 57 = h.1 in
    rw (
      ne c 42 (λ e. omega (arith, e)),
      ne c 38 (λ e. omega (arith, e)),
      ne c 33 (λ e. omega (arith, e)),
      ne c 124 (λ e. omega (arith, e)),
      ne c 62 (λ e. omega (arith, e)),
      ne c 37 (λ e. omega (arith, e)),
      ne c 64 (λ e. omega (arith, e)),
      ne c 123 (λ e. omega (arith, e)),
      ne c 125 (λ e. omega (arith, e)),
      ne c 91 (λ e. omega (arith, e)),
      ne c 93 (λ e. omega (arith, e)),
      ne c 44 (λ e. omega (arith, e)),
      ne c 35 (λ e. omega (arith, e)),
      ne c 96 (λ e. omega (arith, e)),
    ) refl

positive : (n : ℕ) → n < 2 ^ 63 → within_64_bits false n ≡ Whole (pos n)
positive n h = grind arith

negative : (n : ℕ) → n ≤ 2 ^ 63 → within_64_bits true n ≡ Whole (neg_ℤ (pos n))
negative n h = grind arith

-- digits of which the first is none of `0`
digits_number : (c : ℕ) (cs : List ℕ) (n : ℕ) → all_ascii_digits (c ∷ cs) ≡ true → 48 < c → digits_value 10 (c ∷ cs) ≡ n → n < 2 ^ 63 → numeral (c ∷ cs) ≡ Whole (pos n)
digits_number c cs n h above e small =
    let p = tells_all_ascii_digits.parts c cs h in
    let low : 48 ≤ c = p.0.0 in
    let high : c ≤ 57 = p.0.1 in
    rw (ne c 43 (λ x. omega (arith, x)), ne c 45 (λ x. omega (arith, x)), digit c p.0, after_all cs p.1, ne c 48 (λ x. omega (arith, x)), e) (positive n small)

minus_number : (c : ℕ) (cs : List ℕ) (n : ℕ) → all_ascii_digits (c ∷ cs) ≡ true → 48 < c → digits_value 10 (c ∷ cs) ≡ n → n ≤ 2 ^ 63 → numeral (45 ∷ c ∷ cs) ≡ Whole (neg_ℤ (pos n))
minus_number c cs n h above e small =
    let p = tells_all_ascii_digits.parts c cs h in
    rw (digit c p.0, after_all cs p.1, ne c 48 (λ x. omega (arith, x)), e) (negative n small)

plain_whole : (line : ℕ) (text : List ℕ) (z : ℤ) → may_begin text ≡ true → numeral text ≡ Whole z → plain line text ≡ Ok (v.Int z)
plain_whole line text z m e = rw (m, e) refl

may_begin_digit : (c : ℕ) (cs : List ℕ) → IsInRange 48 57 c → may_begin (c ∷ cs) ≡ true
may_begin_digit c cs h =
    let low : 48 ≤ c = h.0 in
    let high : c ≤ 57 = h.1 in
    rw (begins c h) (rw (ne c 123 (λ x. omega (arith, x))) refl)

digits_plain : (levels line c : ℕ) (cs : List ℕ) → IsInRange 48 57 c → flow_node levels line (c ∷ cs) ≡ plain_node line (c ∷ cs)
digits_plain levels line c cs h =
    let low : 48 ≤ c = h.0 in
    let high : c ≤ 57 = h.1 in
    rw (ne c 39 (λ x. omega (arith, x)), ne c 34 (λ x. omega (arith, x)), ne c 91 (λ x. omega (arith, x)), ne c 123 (λ x. omega (arith, x))) refl

digits_part : (c : ℕ) (cs : List ℕ) → all_ascii_digits (c ∷ cs) ≡ true → plain_part (c ∷ cs) ≡ c ∷ cs
digits_part c cs h =
    let p = tells_all_ascii_digits.parts c cs h in
    let low : 48 ≤ c = p.0.0 in
    let high : c ≤ 57 = p.0.1 in
    rw (ne c 123 (λ x. omega (arith, x))) (ap trimmed (comment_digits (c ∷ cs) h) ∙ trimmed_digits (c ∷ cs) h)

digits_node : (levels line c : ℕ) (cs : List ℕ) (z : ℤ) → all_ascii_digits (c ∷ cs) ≡ true → numeral (c ∷ cs) ≡ Whole z → flow_node levels line (c ∷ cs) ≡ Ok (w.Scalar (v.Int z))
digits_node levels line c cs z h e =
    let p = tells_all_ascii_digits.parts c cs h in
    digits_plain levels line c cs p.0
    ∙ ap (λ t. plain line t >>= scalar) (digits_part c cs h)
    ∙ ap (λ r. r >>= scalar) (plain_whole line (c ∷ cs) z (may_begin_digit c cs p.0) e)

minus_part : (c : ℕ) (cs : List ℕ) → all_ascii_digits (c ∷ cs) ≡ true → plain_part (45 ∷ c ∷ cs) ≡ 45 ∷ c ∷ cs
minus_part c cs h = ap (λ t. trimmed (45 ∷ t)) (comment_digits (c ∷ cs) h) ∙ ap (onto_trimmed 45) (trimmed_digits (c ∷ cs) h)

minus_node : (levels line c : ℕ) (cs : List ℕ) (z : ℤ) → all_ascii_digits (c ∷ cs) ≡ true → numeral (45 ∷ c ∷ cs) ≡ Whole z → flow_node levels line (45 ∷ c ∷ cs) ≡ Ok (w.Scalar (v.Int z))
minus_node levels line c cs z h e =
    ap (λ t. plain line t >>= scalar) (minus_part c cs h) ∙ ap (λ r. r >>= scalar) (plain_whole line (45 ∷ c ∷ cs) z refl e)

positive_node : (levels line : ℕ) (ds : List ℕ) (n : ℕ) → all_ascii_digits ds ≡ true → 48 < get_or ds 0 0 → digits_value 10 ds ≡ n → n < 2 ^ 63 → flow_node levels line ds ≡ Ok (w.Scalar (v.Int (pos n)))
positive_node levels line [] n h a e small = absurd (omega arith)
positive_node levels line (c ∷ cs) n h a e small = digits_node levels line c cs (pos n) h (digits_number c cs n h a e small)

negative_node : (levels line : ℕ) (ds : List ℕ) (n : ℕ) → all_ascii_digits ds ≡ true → 48 < get_or ds 0 0 → digits_value 10 ds ≡ n → n ≤ 2 ^ 63 → flow_node levels line (45 ∷ ds) ≡ Ok (w.Scalar (v.Int (neg_ℤ (pos n))))
negative_node levels line [] n h a e small = absurd (omega arith)
negative_node levels line (c ∷ cs) n h a e small = minus_node levels line c cs (neg_ℤ (pos n)) h (minus_number c cs n h a e small)

zero_node : (levels line : ℕ) → flow_node levels line (decimal 0) ≡ Ok (w.Scalar (v.Int (pos 0)))
zero_node levels line = ap (flow_node levels line) (decimal_digit 0 (omega arith))

-- a whole number of 64 bits with its sign
pub number_node : (levels line : ℕ) (z : ℤ) → FitsSigned w64 z → flow_node levels line (signed_decimal z) ≡ Ok (w.Scalar (v.Int z))
number_node levels line (pos zero) h = zero_node levels line
number_node levels line (pos (suc n)) h =
    let small : suc n < 2 ^ 63 = omega (arith, ints, h) in
    let fits : suc n < 2 ^ 64 = omega arith in
    positive_node levels line (decimal (suc n)) (suc n) (digits_decimal own (suc n) fits) (first_decimal (suc n) (omega arith) fits) (digits_value-decimal own (suc n) fits) small
number_node levels line (negsuc n) h =
    let small : n < 2 ^ 63 = omega (arith, ints, h) in
    let fits : suc n < 2 ^ 64 = omega arith in
    negative_node levels line (decimal (suc n)) (suc n) (digits_decimal own (suc n) fits) (first_decimal (suc n) (omega arith) fits) (digits_value-decimal own (suc n) fits) (omega arith)
