-- Plain scalars.
use Rattle.std.specs.Prelude.{ℕ, suc, ◌+◌, ◌==◌, ◌&&◌, ◌||◌, not, nat_lt, nat_le, Bool, true, false, List, [], ◌∷◌, length, drop, Option, None, Some, Result, Ok, if◌then◌else◌, codes, bytes_eq}
use Rattle.std.specs.List.{list_any}
use Rattle.salt_value.specs.declared.value.Value.{Value}
use Rattle.salt_value.specs.declared.value.Value.TheVariants as v
use Rattle.yaml_words.specs.declared.fault.YamlCause.{YamlCause}
use Rattle.yaml_words.specs.declared.fault.YamlCause.TheVariants.{Number, BadMark, TooLarge, Unsupported}
use Rattle.yaml_words.specs.declared.fault.YamlFault.{YamlFault}
use Rattle.yaml_words.specs.declared.numbers.Numeral.{Numeral}
use Rattle.yaml_words.specs.declared.numbers.Numeral.TheVariants.{Whole, Refused, Other}
use Rattle.yaml_words.specs.declared.places.Delimiter.{Delimiter}
use Rattle.yaml_words.specs.declared.places.Delimiter.TheVariants.{Stray, Open, Close, Return}
use Rattle.yaml_words.specs.Faults.{refused, unless}
use Rattle.yaml_words.specs.Places.{is_at, place}
use Rattle.yaml_words.specs.Numbers.{numeral}

-- the bytes of the longest scalar
abbrev pub most_scalar_bytes : ℕ
most_scalar_bytes = 65536

-- the bytes with which no plain scalar begins
abbrev pub no_first_bytes : List ℕ
no_first_bytes = codes "*&!|>%@{}[],#`"

-- may a plain scalar begin so: with `{{`, or with another byte than these
abbrev pub may_begin : List ℕ → Bool
may_begin [] = false
may_begin (b ∷ bytes) = is_at Open (b ∷ bytes) || not (list_any (λ c. b == c) no_first_bytes)

-- how many bytes stand up to the end of the last `}}`, none where there is none
abbrev pub closed_front : List ℕ → ℕ
closed_front [] = 0
closed_front (b ∷ bytes) =
    if nat_lt 0 (closed_front bytes) then suc (closed_front bytes)
    else if is_at Close (b ∷ bytes) then 2
    else 0

-- the place of the first `{{` that no `}}` follows
abbrev pub unclosed : List ℕ → ℕ
unclosed text = closed_front text + place Open (drop (closed_front text) text)

-- The first fault from the left of a text with so many bytes: at `bad` it has a mark that may not stand, at `stray` what is no text. The
-- byte after the longest scalar's is where it is too large. At one place the order is that of the causes.
abbrev pub text_fault : ℕ → ℕ → ℕ → Option YamlCause
text_fault stray bad size =
    if nat_lt stray bad && nat_lt stray most_scalar_bytes then Some Unsupported
    else if nat_lt bad size && nat_le bad most_scalar_bytes then Some BadMark
    else if nat_lt most_scalar_bytes size then Some TooLarge
    else None

-- what no such plain scalar may hold: where it begins with `{{`, a colon may stand
abbrev pub stray : List ℕ → Delimiter
stray text = if is_at Open text then Return else Stray

-- the words for null and for flags
abbrev pub null_words : List (List ℕ)
null_words = codes "null" ∷ codes "~" ∷ []

abbrev pub true_words : List (List ℕ)
true_words = codes "true" ∷ codes "True" ∷ codes "TRUE" ∷ []

abbrev pub false_words : List (List ℕ)
false_words = codes "false" ∷ codes "False" ∷ codes "FALSE" ∷ []

abbrev pub is_one_of : List (List ℕ) → List ℕ → Bool
is_one_of words word = list_any (bytes_eq word) words

-- what a plain scalar that is no number means
abbrev pub plain_value : List ℕ → Value
plain_value text =
    if is_one_of null_words text then v.Null
    else if is_one_of true_words text then v.Flag true
    else if is_one_of false_words text then v.Flag false
    else v.Str text

-- the first fault of a plain scalar that is no number
abbrev pub plain_fault : List ℕ → Option YamlCause
plain_fault text = text_fault (place (stray text) text) (unclosed text) (length text)

-- a plain scalar that is no number
abbrev pub plain_text : ℕ → List ℕ → Result Value YamlFault
plain_text line text = unless line (plain_fault text) (plain_value text)

-- by the number that it is
abbrev pub by_numeral : ℕ → List ℕ → Numeral → Result Value YamlFault
by_numeral line text (Whole n) = Ok (v.Int n)
by_numeral line text Refused = refused line Number
by_numeral line text Other = plain_text line text

-- a plain scalar, or its first fault from the left
abbrev pub plain : ℕ → List ℕ → Result Value YamlFault
plain line text = if may_begin text then by_numeral line text (numeral text) else refused line Unsupported
