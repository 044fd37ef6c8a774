-- Numbers.
use Rattle.std.specs.Prelude.{ℕ, ◌==◌, ◌&&◌, ◌||◌, ◌^◌, nat_lt, nat_le, Bool, true, false, List, [], ◌∷◌, bytes_eq, codes, pos, neg_ℤ, if◌then◌else◌}
use Rattle.std.specs.Char.{is_ascii_digit}
use Rattle.std.specs.Str.Parse.{digits_value}
use Rattle.yaml_words.specs.declared.numbers.Numeral.{Numeral}
use Rattle.yaml_words.specs.declared.numbers.Numeral.TheVariants.{Whole, Refused, Other}
use Rattle.yaml_words.specs.Places.{is_empty, begins_with}

-- `+` or `-`
abbrev pub is_sign : ℕ → Bool
is_sign b = b == 43 || b == 45

-- without its sign
abbrev pub unsigned : List ℕ → List ℕ
unsigned [] = []
unsigned (b ∷ bytes) = if is_sign b then bytes else b ∷ bytes

-- is the first byte a digit
abbrev pub begins_with_digit : List ℕ → Bool
begins_with_digit [] = false
begins_with_digit (b ∷ bytes) = is_ascii_digit b

-- what stands after the digits at the front
abbrev pub after_digits : List ℕ → List ℕ
after_digits [] = []
after_digits (b ∷ bytes) = if is_ascii_digit b then after_digits bytes else b ∷ bytes

-- is it a digit or more, and nothing else
abbrev pub is_digits : List ℕ → Bool
is_digits text = begins_with_digit text && is_empty (after_digits text)

-- what stands after a fraction at the front, `.` and digits or nothing
abbrev pub after_fraction : List ℕ → List ℕ
after_fraction [] = []
after_fraction (b ∷ bytes) = if b == 46 then after_digits bytes else b ∷ bytes

-- `e` or `E`
abbrev pub is_exponent : ℕ → Bool
is_exponent b = b == 101 || b == 69

-- what stands after an exponent at the front: `e` or `E`, a sign or none, digits
abbrev pub after_exponent : List ℕ → List ℕ
after_exponent [] = []
after_exponent (b ∷ bytes) =
    if is_exponent b && begins_with_digit (unsigned bytes) then after_digits (unsigned bytes) else b ∷ bytes

-- is it digits, and then a fraction, an exponent, both or neither
abbrev pub is_decimal : List ℕ → Bool
is_decimal text = begins_with_digit text && is_empty (after_exponent (after_fraction (after_digits text)))

-- a number, with its sign, where it is within 64 bits
abbrev pub within_64_bits : Bool → ℕ → Numeral
within_64_bits true n = if nat_le n (2 ^ 63) then Whole (neg_ℤ (pos n)) else Refused
within_64_bits false n = if nat_lt n (2 ^ 63) then Whole (pos n) else Refused

-- the number that digits are, with the sign before them
abbrev pub signed_number : List ℕ → Numeral
signed_number text = within_64_bits (begins_with 45 text) (digits_value 10 (unsigned text))

-- a sign or none and digits: `0` is a number, and with a sign a text; no other leading zero is taken
abbrev pub whole_number : List ℕ → Numeral
whole_number text =
    if bytes_eq text (codes "0") then Whole (pos 0)
    else if bytes_eq (unsigned text) (codes "0") then Other
    else if begins_with 48 (unsigned text) then Refused
    else signed_number text

-- a plain scalar as a number: a whole one, one that is refused, or none
abbrev pub numeral : List ℕ → Numeral
numeral text =
    if is_digits (unsigned text) then whole_number text
    else if is_decimal (unsigned text) then Refused
    else Other
