-- What is written is read again, and what is read was written so.
use Rattle.std.specs.Prelude.{◌≡◌, ℕ, ◌+◌, List, ◌++◌, length, drop, Result, Ok}
use Rattle.salt_value.specs.Readers.{Reader, Answers}
use Rattle.salt_wire.specs.declared.fault.Misread.{Misread}
use Rattle.salt_value.specs.Decoding.{IsBytes}
use Rattle.salt_wire.specs.declared.fault.WireFault.{WireFault}
use Rattle.salt_wire.specs.declared.fault.WireFault.TheVariants as faults
use Rattle.salt_wire.specs.declared.message.Message.{Message}
use Rattle.salt_wire.specs.Spelling as spelling
use Rattle.salt_wire.specs.Limits.{Within}

-- what was read is within its limits, and the bytes begin with its spelling
abbrev pub Took : {A : Type 0} → (A → List ℕ) → (A → Type 0) → List ℕ → A × List ℕ → Type 0
Took spell Fits bytes x = Fits x.0 × (bytes ≡ spell x.0 ++ x.1) × IsBytes x.1

-- a spelling and a reading that undo each other, whatever bytes follow
pub record IsReadBack {A : Type 0} (spell : A → List ℕ) (Fits : A → Type 0) (read : Reader Misread A) : Type 0 where
  pub written : (x : A) (rest : List ℕ) → Fits x → read (spell x ++ rest) ≡ Ok (x, rest)
  pub took : (bytes : List ℕ) (x : A × List ℕ) → IsBytes bytes → read bytes ≡ Ok x → Took spell Fits bytes x

-- this part stands in a body from one place up to another
abbrev pub Spans : {A : Type 0} → (A → List ℕ) → List ℕ → ℕ → A × ℕ → Type 0
Spans spell body at x = (x.1 ≡ at + length (spell x.0)) × ((rest : List ℕ) × (drop at body ≡ spell x.0 ++ rest))

-- the part within its limits that stands at a place of a body is answered, with the place after it
abbrev pub AnswersPart : {A : Type 0} → (A → List ℕ) → (A → Type 0) → List ℕ → ℕ → Result (A × ℕ) WireFault → Type 0
AnswersPart {A} spell Fits body at result =
    (x : A) (rest : List ℕ) → Fits x → drop at body ≡ spell x ++ rest → result ≡ Ok (x, at + length (spell x))

-- the same, unless memory runs out
abbrev pub AnswersPartIfMemory : {A : Type 0} → (A → List ℕ) → (A → Type 0) → List ℕ → ℕ → Result (A × ℕ) WireFault → Type 0
AnswersPartIfMemory {A} spell Fits body at result =
    (x : A) (rest : List ℕ) → Fits x → drop at body ≡ spell x ++ rest → Answers faults.NoMemory result (Ok (x, at + length (spell x)))

-- the message within its limits that has this body is answered, unless memory runs out
abbrev pub AnswersMessage : List ℕ → Result Message WireFault → Type 0
AnswersMessage body result = (message : Message) → Within message → body ≡ spelling.body message → Answers faults.NoMemory result (Ok message)
