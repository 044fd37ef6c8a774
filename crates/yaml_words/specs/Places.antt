-- Places in a line: what stands there, and where it stands first.
use Rattle.std.specs.Prelude.{◌≡◌, ◌<◌, slice_index, drop, ℕ, suc, ◌==◌, ◌&&◌, ◌||◌, nat_lt, Bool, true, false, List, [], ◌∷◌, length, if◌then◌else◌}
use Rattle.yaml_words.specs.declared.quotes.QuoteKind.{QuoteKind}
use Rattle.yaml_words.specs.declared.quotes.QuoteKind.TheVariants.{Single, Double}
use Rattle.yaml_words.specs.declared.places.Delimiter.{Delimiter}
use Rattle.yaml_words.specs.declared.places.Delimiter.TheVariants.{Comment, KeyEnd, Stray, Open, Close, Return, Feed, ItemEnd, PlainEnd, Special}

-- is there no byte
abbrev pub is_empty : List ℕ → Bool
is_empty [] = true
is_empty (b ∷ bytes) = false

-- is the first byte this one
abbrev pub begins_with : ℕ → List ℕ → Bool
begins_with a [] = false
begins_with a (b ∷ bytes) = b == a

-- the first byte is this one, and this is what stands after it
abbrev pub IsAfterByte : ℕ → List ℕ → List ℕ → Type 0
IsAfterByte byte text rest = (begins_with byte text ≡ true) × (rest ≡ drop 1 text)

-- is there no byte, or is the first one this one
abbrev pub ends_or : ℕ → List ℕ → Bool
ends_or a [] = true
ends_or a (b ∷ bytes) = b == a

-- the byte that closes a text in such quotes
abbrev pub closing_byte : QuoteKind → ℕ
closing_byte Single = 39
closing_byte Double = 34

-- the byte that begins an escape in such quotes
abbrev pub escape_byte : QuoteKind → ℕ
escape_byte Single = 39
escape_byte Double = 92

-- a space and `#`
abbrev pub is_comment : ℕ → List ℕ → Bool
is_comment b bytes = b == 32 && begins_with 35 bytes

-- a colon, and then a space or nothing
abbrev pub is_key_end : ℕ → List ℕ → Bool
is_key_end b bytes = b == 58 && ends_or 32 bytes

-- `,` or `]`
abbrev pub is_item_end : ℕ → Bool
is_item_end b = b == 44 || b == 93

-- Does a text begin with this: a comment, the end of a key, what no plain scalar holds (the end of a key, a carriage return), `{{`, `}}`,
-- a carriage return, a line feed, the end of an item of a list, the end of a plain item, what is no text in quotes.
abbrev pub is_at : Delimiter → List ℕ → Bool
is_at d [] = false
is_at Comment (b ∷ bytes) = is_comment b bytes
is_at KeyEnd (b ∷ bytes) = is_key_end b bytes
is_at Stray (b ∷ bytes) = b == 13 || is_key_end b bytes
is_at Open (b ∷ bytes) = b == 123 && begins_with 123 bytes
is_at Close (b ∷ bytes) = b == 125 && begins_with 125 bytes
is_at Return (b ∷ bytes) = b == 13
is_at Feed (b ∷ bytes) = b == 10
is_at ItemEnd (b ∷ bytes) = is_item_end b
is_at PlainEnd (b ∷ bytes) = is_item_end b || is_comment b bytes
is_at (Special q) (b ∷ bytes) = b == closing_byte q || b == escape_byte q

-- a place within a text, before an ASCII byte
abbrev pub IsAsciiPlace : List ℕ → ℕ → Type 0
IsAsciiPlace text at = (at < length text) × (slice_index text at < 128)

-- how many bytes stand before the first such place, all where there is none
abbrev pub place : Delimiter → List ℕ → ℕ
place d [] = 0
place d (b ∷ bytes) = if is_at d (b ∷ bytes) then 0 else suc (place d bytes)

-- is there such a place
abbrev pub has : Delimiter → List ℕ → Bool
has d text = nat_lt (place d text) (length text)
