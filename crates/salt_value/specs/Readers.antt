-- Readers of bytes, over any type of faults F: what stands at the front of some bytes, or the first fault.
use Rattle.std.specs.Prelude.{◌≡◌, ◌⊎◌, ℕ, zero, suc, Bool, List, [], ◌∷◌, Option, Some, None, Result, Ok, Err, if◌then◌else◌}

-- something at the front of some bytes, and the bytes after it, or a fault
abbrev pub Reader : Type 0 → Type 0 → Type 0
Reader F A = List ℕ → Result (A × List ℕ) F

-- one step, and then the next one on what it gave
infixl 10 ◌>>=◌
abbrev pub ◌>>=◌ : {A B F : Type 0} → Result A F → (A → Result B F) → Result B F
(Ok x) >>= f = f x
(Err e) >>= f = Err e

-- what was read, if it keeps this rule
abbrev pub when : {A F : Type 0} → Bool → F → A → Result A F
when rule f x = if rule then Ok x else Err f

-- what was read, if there is such a thing
abbrev pub option_reader : {A F : Type 0} → F → Option A → List ℕ → Result (A × List ℕ) F
option_reader f None rest = Err f
option_reader f (Some x) rest = Ok (x, rest)

-- so many of them, one after the other
unfoldable pub several : {F A : Type 0} → Reader F A → ℕ → Reader F (List A)
several item zero bytes = Ok ([], bytes)
several item (suc n) bytes = do
  first ← item bytes
  others ← several item n first.1
  Ok (first.0 ∷ others.0, others.1)

-- a call answered this fault: it found no memory, or reading gives the fault
abbrev pub Fails : {F Y : Type 0} → F → F → Result Y F → Type 0
Fails no_memory e read = (e ≡ no_memory) ⊎ (read ≡ Err e)

-- a call answered, seen by view, what reading gives, unless it found no memory
abbrev pub Gives : {X Y F : Type 0} → F → (X → Y) → Result X F → Result Y F → Type 0
Gives no_memory view (Ok x) read = read ≡ Ok (view x)
Gives no_memory view (Err e) read = Fails no_memory e read

-- a call answered what reading gives, unless it found no memory
abbrev pub Answers : {Y F : Type 0} → F → Result Y F → Result Y F → Type 0
Answers no_memory result read = Gives no_memory (λ x. x) result read
