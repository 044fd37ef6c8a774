-- Decoding from left to right, as a function: what stands at the front of some bytes, and the bytes after it, or the first fault.
use Rattle.std.specs.Prelude.{◌≡◌, ℕ, ℤ, zero, suc, ◌-◌, ◌<◌, slice_index, true, false, List, [], ◌∷◌, length, take, drop, min, Option, Some, None, Result, Ok, Err, nat_lt, ◌==◌, if◌then◌else◌}
use Rattle.std.specs.Str.{is_utf8}
use Rattle.std.specs.Int.{Width, w32, w64, byte_len, from_be_bytes, cast_signed}
use Rattle.salt_value.specs.declared.fault.Misread.{Misread}
use Rattle.salt_value.specs.declared.fault.Misread.TheVariants.{Short, BadTag, Unsorted, NotUtf8, TooDeep}
use Rattle.salt_value.specs.declared.fault.ValueFault.{ValueFault}
use Rattle.salt_value.specs.declared.value.Value.{Value}
use Rattle.salt_value.specs.declared.value.Value.TheVariants as v
use Rattle.salt_value.specs.Keys.{comes_after}
use Rattle.salt_value.specs.Limits.{most_value_levels, most_value_bytes}
use Rattle.salt_value.specs.Tags as tag
use Rattle.salt_value.specs.Tags.{Tag, tag_of}
use Rattle.salt_value.specs.Readers.{Reader, ◌>>=◌, several}
use Rattle.salt_value.specs.FirstFault.{value_fault}

-- each of the numbers is a byte
abbrev pub IsBytes : List ℕ → Type 0
IsBytes bytes = (i : ℕ) → slice_index bytes i < 256

-- ---- numbers and texts, with the faults that the caller names

-- the number of so many bytes at the front, the highest byte first
abbrev pub number_or : {F : Type 0} → Width → F → List ℕ → Result (ℕ × List ℕ) F
number_or w short bytes = if nat_lt (length bytes) (byte_len w) then Err short else Ok (from_be_bytes w (take (byte_len w) bytes), drop (byte_len w) bytes)

-- the text at the front: the four bytes of its length, and so many bytes of UTF-8
unfoldable pub text_or : {F : Type 0} → F → F → List ℕ → Result (List ℕ × List ℕ) F
text_or short bad bytes = do
  n ← number_or w32 short bytes
  if nat_lt (length n.1) n.0 then Err short else (if is_utf8 (take n.0 n.1) then Ok (take n.0 n.1, drop n.0 n.1) else Err bad)

-- a function returned, seen by view, what decoding gives
abbrev pub Returns : {X Y F : Type 0} → (X → Y) → Result X F → Result Y F → Type 0
Returns view (Ok x) read = read ≡ Ok (view x)
Returns view (Err e) read = read ≡ Err e

-- ---- values. Places are counted from the end: a place is the number of bytes from there on

-- a number of 32 bits
abbrev pub count_at : Reader Misread ℕ
count_at = number_or w32 Short

-- a number of 64 bits in two's complement
abbrev pub int_at : Reader Misread ℤ
int_at bytes = do
  n ← number_or w64 Short bytes
  Ok (cast_signed w64 n.0, n.1)

-- a text, whose fault is at its first byte after the length
abbrev pub text_at : Reader Misread (List ℕ)
text_at bytes = text_or Short (NotUtf8 (length bytes - 4)) bytes

-- a key that stands after the one before it
unfoldable pub key_at : Option (List ℕ) → Reader Misread (List ℕ)
key_at last bytes = do
  key ← text_at bytes
  if comes_after last key.0 then Ok key else Err (Unsorted (length bytes - 4))

-- no member has room on the last level
abbrev pub room_at : ℕ → Reader Misread (Unit {0})
room_at d bytes = if d == 0 then Err TooDeep else Ok (tt, bytes)

-- a key and its value
unfoldable pub pair_at : {A : Type 0} → ℕ → Reader Misread A → Option (List ℕ) → Reader Misread (List ℕ × A)
pair_at d item last bytes = do
  room ← room_at d bytes
  key ← key_at last room.1
  value ← item key.1
  Ok ((key.0, value.0), value.1)

-- so many pairs, each key after the one before it
unfoldable pub pairs_at : {A : Type 0} → ℕ → Reader Misread A → Option (List ℕ) → ℕ → Reader Misread (List (List ℕ × A))
pairs_at d item last zero bytes = Ok ([], bytes)
pairs_at d item last (suc n) bytes = do
  first ← pair_at d item last bytes
  others ← pairs_at d item (Some first.0.0) n first.1
  Ok (first.0 ∷ others.0, others.1)

-- what stands after a tag of a value that may have d levels below its own
unfoldable pub after_tag : ℕ → Reader Misread Value → Option Tag → Reader Misread Value
after_tag d item (Some tag.Null) bytes = Ok (v.Null, bytes)
after_tag d item (Some tag.False) bytes = Ok (v.Flag false, bytes)
after_tag d item (Some tag.True) bytes = Ok (v.Flag true, bytes)
after_tag d item (Some tag.Int) bytes = do
  z ← int_at bytes
  Ok (v.Int z.0, z.1)
after_tag d item (Some tag.Str) bytes = do
  t ← text_at bytes
  Ok (v.Str t.0, t.1)
after_tag d item (Some tag.List) bytes = do
  n ← count_at bytes
  items ← several item n.0 n.1
  Ok (v.List items.0, items.1)
after_tag d item (Some tag.Map) bytes = do
  n ← count_at bytes
  pairs ← pairs_at d item None n.0 n.1
  Ok (v.Map pairs.0, pairs.1)
after_tag d item None bytes = Err (BadTag (suc (length bytes)))

-- a value that may have so many levels
unfoldable pub value_at : ℕ → Reader Misread Value
value_at zero bytes = Err TooDeep
value_at (suc d) [] = Err Short
value_at (suc d) (code ∷ bytes) = after_tag d (value_at d) (tag_of code) bytes

-- ---- a whole input, with places counted from its front

-- a value and how many bytes it takes, or the fault by its place
abbrev pub from_front : ℕ → Result (Value × List ℕ) Misread → Result (Value × ℕ) ValueFault
from_front n (Ok x) = Ok (x.0, min n most_value_bytes - length x.1)
from_front n (Err e) = Err (value_fault n (min n most_value_bytes) e)

-- the value that begins an input and how many bytes it takes, or the first fault of its first 65,536 bytes
unfoldable pub read_at : List ℕ → Result (Value × ℕ) ValueFault
read_at input = from_front (length input) (value_at most_value_levels (take most_value_bytes input))
