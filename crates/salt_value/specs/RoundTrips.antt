-- What is written is read again, and what is read was written so.
use Rattle.std.specs.Prelude.{◌≡◌, ◌<◌, ◌≤◌, ◌^◌, ◌++◌, ℕ, List, length, true, Ok}
use Rattle.std.specs.Int.{Width, byte_len, to_be_bytes}
use Rattle.salt_value.specs.declared.value.Value.{Value}
use Rattle.salt_value.specs.Spelling.{bytes, text}
use Rattle.salt_value.specs.WellFormed.{ValueFits, is_text}
use Rattle.salt_value.specs.Decoding.{IsBytes, number_or, text_or, read_at}

-- numbers of up to 8 bytes that are written are read again, whatever follows them
abbrev pub AreNumbersRead : Type 0 → Type 0
AreNumbersRead F = (w : Width) (short : F) (n : ℕ) (rest : List ℕ) → byte_len w ≤ 8 → n < 256 ^ byte_len w
    → number_or w short (to_be_bytes w n ++ rest) ≡ Ok (n, rest)

-- a number of up to 8 bytes that is read was written so
abbrev pub AreNumbersWritten : Type 0 → Type 0
AreNumbersWritten F = (w : Width) (short : F) (input : List ℕ) (n : ℕ) (rest : List ℕ) → byte_len w ≤ 8 → IsBytes input
    → number_or w short input ≡ Ok (n, rest) → (n < 256 ^ byte_len w) × (input ≡ to_be_bytes w n ++ rest) × IsBytes rest

-- texts that are written are read again, whatever follows them
abbrev pub AreTextsRead : Type 0 → Type 0
AreTextsRead F = (short bad : F) (t rest : List ℕ) → is_text t ≡ true → text_or short bad (text t ++ rest) ≡ Ok (t, rest)

-- a text that is read was written so
abbrev pub AreTextsWritten : Type 0 → Type 0
AreTextsWritten F = (short bad : F) (input : List ℕ) (t rest : List ℕ) → IsBytes input → text_or short bad input ≡ Ok (t, rest)
    → (is_text t ≡ true) × (input ≡ text t ++ rest) × IsBytes rest

-- values within the limits that are written are read again, whatever follows them
abbrev pub AreValuesRead : Type 0
AreValuesRead = (v : Value) (rest : List ℕ) → ValueFits v → read_at (bytes v ++ rest) ≡ Ok (v, length (bytes v))

-- a value that is read is within the limits, and was written so
abbrev pub AreValuesWritten : Type 0
AreValuesWritten = (input : List ℕ) (v : Value) (n : ℕ) → IsBytes input → read_at input ≡ Ok (v, n)
    → ValueFits v × (n ≡ length (bytes v)) × ((rest : List ℕ) × (input ≡ bytes v ++ rest) × IsBytes rest)

-- no spelling of a value within the limits begins another one
abbrev pub AreSpellingsPrefixFree : Type 0
AreSpellingsPrefixFree = (v w : Value) (x y : List ℕ) → ValueFits v → ValueFits w → bytes v ++ x ≡ bytes w ++ y → (v ≡ w) × (x ≡ y)
