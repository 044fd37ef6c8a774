-- Items and keys at the front of a line.
use Rattle.std.specs.Prelude.{ℕ, ◌+◌, ◌-◌, ◌==◌, ◌&&◌, ◌||◌, nat_lt, Bool, false, List, [], ◌∷◌, length, take, drop, Option, None, Some, Result, if◌then◌else◌}
use Rattle.yaml_words.specs.declared.fault.YamlCause.TheVariants.{Unsupported}
use Rattle.yaml_words.specs.declared.fault.YamlFault.{YamlFault}
use Rattle.yaml_words.specs.declared.places.Delimiter.TheVariants.{KeyEnd, Stray, Open}
use Rattle.yaml_words.specs.declared.quotes.QuoteKind.{QuoteKind}
use Rattle.yaml_words.specs.declared.quotes.QuoteKind.TheVariants.{Single, Double}
use Rattle.salt_value.specs.Readers.{◌>>=◌}
use Rattle.yaml_words.specs.Faults.{refused, unless}
use Rattle.yaml_words.specs.Places.{begins_with, is_at, place}
use Rattle.yaml_words.specs.Spaces.{uncommented, after_spaces}
use Rattle.yaml_words.specs.Quotes.{quoted_text, after_quote}
use Rattle.yaml_words.specs.Plain.{may_begin, text_fault}

-- is it `-`, or does it begin with `- `
abbrev pub is_item : List ℕ → Bool
is_item [] = false
is_item (b ∷ []) = b == 45
is_item (b ∷ c ∷ bytes) = b == 45 && c == 32

-- what stands after `-`
abbrev pub after_mark : List ℕ → List ℕ
after_mark text = after_spaces (drop 1 text)

-- how many bytes a key in quotes has, where `rest` stands after its closing quote
abbrev pub quoted_key_size : List ℕ → List ℕ → Option ℕ
quoted_key_size text rest = if is_at KeyEnd rest then Some (length text - length rest) else None

-- how many bytes a plain key has
abbrev pub plain_key_size : List ℕ → Option ℕ
plain_key_size text = if nat_lt (place KeyEnd text) (length text) then Some (place KeyEnd text) else None

-- how many bytes the key has with which a line begins, where it begins with one
abbrev pub key_size : List ℕ → Option ℕ
key_size text =
    if begins_with 91 text || begins_with 123 text then None
    else if begins_with 39 text then quoted_key_size text (after_quote Single (drop 1 text))
    else if begins_with 34 text then quoted_key_size text (after_quote Double (drop 1 text))
    else plain_key_size (uncommented text)

abbrev pub cut_key : List ℕ → Option ℕ → Option (List ℕ × List ℕ)
cut_key text None = None
cut_key text (Some size) = Some (take size text, after_spaces (drop (size + 1) text))

-- a line that begins with a key: the key as it is written, and what stands after its colon
abbrev pub split_key : List ℕ → Option (List ℕ × List ℕ)
split_key text = cut_key text (key_size text)

-- the text of a key after its opening quote, or its first fault
abbrev pub quoted_key : ℕ → QuoteKind → List ℕ → Result (List ℕ) YamlFault
quoted_key line quote text =
    quoted_text line quote text >>= λ t. unless line (text_fault (length t) (place Open t) (length t)) t

-- the text of a plain key, or its first fault
abbrev pub plain_key : ℕ → List ℕ → Result (List ℕ) YamlFault
plain_key line text =
    if may_begin text then unless line (text_fault (place Stray text) (place Open text) (length text)) text
    else refused line Unsupported

-- the text of a key that is written so, or its first fault from the left
abbrev pub key : ℕ → List ℕ → Result (List ℕ) YamlFault
key line text =
    if begins_with 39 text then quoted_key line Single (drop 1 text)
    else if begins_with 34 text then quoted_key line Double (drop 1 text)
    else plain_key line text
