-- What a source has left and what a sink holds: the bytes where it is told, and None where it isn't.
use Rattle.std.specs.Prelude.{◌≡◌, ℕ, ◌<◌, ◌≤◌, List, [], ◌++◌, length, take, Option, None, Some, option_map, Result, IfOk, OnOk}

-- the sink's bytes after these were written
abbrev pub contents_after : Option (List ℕ) → List ℕ → Option (List ℕ)
contents_after held bytes = option_map (λ h. h ++ bytes) held

-- At Ok the sink holds what it held, and then all these bytes.
abbrev pub WritesAll : {S T E : Type 0} → (S → Option (List ℕ)) → S → S → List ℕ → Result T E → Type 0
WritesAll held old new bytes result = OnOk result (held new ≡ contents_after (held old) bytes)

-- A front of the text was written, and no more.
pub record IsPart (old new : Option (List ℕ)) (text : List ℕ) : Type 0 where
  pub front : List ℕ
  pub rest : List ℕ
  pub whole : front ++ rest ≡ text
  pub written : new ≡ contents_after old front

-- these bytes, and then what is left
abbrev pub left_before : List ℕ → Option (List ℕ) → Option (List ℕ)
left_before bytes left = option_map (λ l. bytes ++ l) left

-- At Ok the front of the buffer has so many bytes of what was left, and the source has left what comes after them.
abbrev pub ReadsFront : {S E : Type 0} → (S → Option (List ℕ)) → S → S → List ℕ → Result ℕ E → Type 0
ReadsFront left old new into result = IfOk result (λ count. left old ≡ left_before (take count into) (left new))

-- A front of what was left was read, and no more.
pub record IsRest (old new : Option (List ℕ)) : Type 0 where
  pub front : List ℕ
  pub whole : old ≡ left_before front new

-- Where it is told, nothing is left.
abbrev pub IsAtEnd : Option (List ℕ) → Type 0
IsAtEnd None = Unit {0}
IsAtEnd (Some l) = l ≡ []

-- Where it is told, more bytes than these are left.
abbrev pub HasMoreThan : ℕ → Option (List ℕ) → Type 0
HasMoreThan limit None = Unit {0}
HasMoreThan limit (Some l) = limit < length l

-- Where it is told, at most so many bytes are left.
abbrev pub HasAtMost : ℕ → Option (List ℕ) → Type 0
HasAtMost limit None = Unit {0}
HasAtMost limit (Some l) = length l ≤ limit
