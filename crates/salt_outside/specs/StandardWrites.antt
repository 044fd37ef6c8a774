-- What a write that may end early does to the bytes that a writer of std holds.
use Rattle.std.specs.Prelude.{◌≡◌, List, ◌++◌, ℕ, Option, Result, OnOk}
use Rattle.std.specs.Io.KnownBytes.{Appends, ReadConsumes}

-- Known bytes grew by a front of the text, and by no more.
pub record AppendsPart (old new : Option (List ℕ)) (text : List ℕ) : Type 0 where
  pub front : List ℕ
  pub rest : List ℕ
  pub whole : front ++ rest ≡ text
  pub written : Appends old new front

-- At Ok the known bytes grew by all of the text.
abbrev pub AppendsAll : {S T E : Type 0} → (S → Option (List ℕ)) → S → S → List ℕ → Result T E → Type 0
AppendsAll contents old new bytes result = OnOk result (Appends (contents old) (contents new) bytes)

-- Whatever the answer is, they grew by a front of the text.
abbrev pub AppendsFront : {S : Type 0} → (S → Option (List ℕ)) → S → S → List ℕ → Type 0
AppendsFront contents old new bytes = AppendsPart (contents old) (contents new) bytes

-- What a read did to the bytes that remain, where they are known: it took those that it gave.
abbrev pub ReadsKnown : {S E : Type 0} → (S → Option (List ℕ)) → S → S → List ℕ → Result ℕ E → Type 0
ReadsKnown remaining old new into result = ReadConsumes (remaining old) (remaining new) result into
