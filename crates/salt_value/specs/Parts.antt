-- The parts of a value as they are read and written. No public contract cites it.
use Rattle.std.specs.Prelude.{◌≡◌, ℕ, true, List, ◌++◌, length, map, Option, Result}
use Rattle.std.specs.Borrow.{Bor}
use Rattle.std.specs.Int.{w32, to_be_bytes}
use Rattle.std.specs.Str.{is_utf8}
use Rattle.salt_value.specs.declared.fault.Misread.{Misread}
use Rattle.salt_value.specs.declared.fault.Misread.TheVariants.{NoMemory}
use Rattle.salt_value.specs.declared.value.Value.{Value}
use Rattle.salt_value.specs.Decoding.{value_at, pair_at}
use Rattle.salt_value.specs.Readers.{Gives}
use Rattle.salt_value.specs.Spelling.{bytes, concatenation, pairs_spelling, spelled_pairs}

-- the text has these bytes, and they are UTF-8
abbrev pub IsUtf8Of : List ℕ → List ℕ → Type 0
IsUtf8Of bytes text = (is_utf8 bytes ≡ true) × (text ≡ bytes)

-- a part and the bytes after it are what reading gives, unless no memory was found
abbrev pub ReadsPart : {A : Type 0} → Result (A × Bor (List ℕ)) Misread → Result (A × List ℕ) Misread → Type 0
ReadsPart result read = Gives NoMemory (λ x. (x.0, x.1.now)) result read

-- so are a key after this one, its value, which may have so many levels, and the bytes after them
abbrev pub ReadsPair : ℕ → Option (List ℕ) → List ℕ → Result (List ℕ × Value × Bor (List ℕ)) Misread → Type 0
ReadsPair levels last bytes result = Gives NoMemory (λ x. ((x.0, x.1), x.2.now)) result (pair_at levels (value_at levels) last bytes)

-- the four bytes of a count of values, and their spellings
abbrev pub counted_items : List Value → List ℕ
counted_items vs = to_be_bytes w32 (length vs) ++ concatenation (map bytes vs)

-- the four bytes of a count of pairs, and their spellings
abbrev pub counted_pairs : List (List ℕ × Value) → List ℕ
counted_pairs ps = to_be_bytes w32 (length ps) ++ pairs_spelling (spelled_pairs ps)
