-- Texts in quotes.
use Rattle.std.specs.Prelude.{◌≡◌, ℕ, ◌-◌, ◌==◌, List, [], ◌∷◌, ◌++◌, length, take, drop, Option, None, Some, option_map, Result, Ok, if◌then◌else◌}
use Rattle.yaml_words.specs.declared.fault.YamlCause.TheVariants.{Quote, Unsupported}
use Rattle.yaml_words.specs.declared.fault.YamlFault.{YamlFault}
use Rattle.yaml_words.specs.declared.places.Delimiter.TheVariants.{Return}
use Rattle.yaml_words.specs.declared.quotes.QuoteKind.{QuoteKind}
use Rattle.yaml_words.specs.declared.quotes.QuoteKind.TheVariants.{Single, Double}
use Rattle.yaml_words.specs.Faults.{refused}
use Rattle.yaml_words.specs.Places.{closing_byte, escape_byte, begins_with, has}

-- What an escape stands for, by its second byte: `''` is one quote; `\\`, `\"`, `\n`, `\r`, `\t`.
abbrev pub escaped : QuoteKind → ℕ → Option ℕ
escaped Single c = if c == 39 then Some 39 else None
escaped Double c =
    if c == 92 then Some 92
    else if c == 34 then Some 34
    else if c == 110 then Some 10
    else if c == 114 then Some 13
    else if c == 116 then Some 9
    else None

-- what is read, with this text before
abbrev pub with_text : List ℕ → Option (List ℕ × List ℕ) → Option (List ℕ × List ℕ)
with_text front None = None
with_text front (Some p) = Some (front ++ p.0, p.1)

-- what two bytes begin that are no plain ones: an escape, a closing quote, an escape that there is not
abbrev pub by_escape : QuoteKind → ℕ → List ℕ → Option ℕ → Option (List ℕ × List ℕ) → Option (List ℕ × List ℕ)
by_escape quote b after (Some c) more = with_text (c ∷ []) more
by_escape quote b after None more = if b == closing_byte quote then Some ([], after) else None

-- A text after its opening quote: the text, and what stands after the closing quote. None where it isn't closed, or an escape is another.
abbrev pub quoted : QuoteKind → List ℕ → Option (List ℕ × List ℕ)
quoted quote [] = None
quoted quote (b ∷ []) = if b == closing_byte quote then Some ([], []) else None
quoted quote (b ∷ c ∷ bytes) =
    if b == escape_byte quote then by_escape quote b (c ∷ bytes) (escaped quote c) (quoted quote bytes)
    else if b == closing_byte quote then Some ([], c ∷ bytes)
    else with_text (b ∷ []) (quoted quote (c ∷ bytes))

-- No public contract cites it. A text after its opening quote is this text, and then what the rest is.
abbrev pub ReadsPiece : QuoteKind → List ℕ → List ℕ → List ℕ → Type 0
ReadsPiece quote text front rest = quoted quote text ≡ with_text front (quoted quote rest)

-- No public contract cites it. A rest that begins with no escape and no plain byte: it begins with the closing quote, or isn't closed.
abbrev pub at_closing : QuoteKind → List ℕ → Option (List ℕ × List ℕ)
at_closing quote text = if begins_with (closing_byte quote) text then Some ([], drop 1 text) else None

-- the text, where it is closed
abbrev pub unquoted : QuoteKind → List ℕ → Option (List ℕ)
unquoted quote text = option_map (λ p. p.0) (quoted quote text)

abbrev pub rest_of : Option (List ℕ × List ℕ) → List ℕ
rest_of None = []
rest_of (Some p) = p.1

-- what stands after the closing quote, nothing where there is none
abbrev pub after_quote : QuoteKind → List ℕ → List ℕ
after_quote quote text = rest_of (quoted quote text)

-- the text as it is written, with its closing quote
abbrev pub written : QuoteKind → List ℕ → List ℕ
written quote text = take (length text - length (after_quote quote text)) text

abbrev pub returnless : ℕ → List ℕ → Option (List ℕ) → Result (List ℕ) YamlFault
returnless line raw None = refused line Quote
returnless line raw (Some text) = if has Return raw then refused line Unsupported else Ok text

-- The text after an opening quote, or why it is none: it isn't closed, or has a carriage return.
abbrev pub quoted_text : ℕ → QuoteKind → List ℕ → Result (List ℕ) YamlFault
quoted_text line quote text = returnless line (written quote text) (unquoted quote text)
