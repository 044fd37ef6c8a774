-- The count of an object's faults, and when an answer may say that it failed.
use Rattle.std.specs.Prelude.{◌≡◌, ℕ, ◌+◌, ◌-◌, ◌^◌, ◌≤◌, min, Result, IsErrOf}

-- the last value of a count of 64 bits
abbrev pub last_count : ℕ
last_count = 2 ^ 64 - 1

-- the count after one fault more: it stands still at its last value
abbrev pub next_count : ℕ → ℕ
next_count count = min (count + 1) last_count

-- the count rose, or stands at its last value
abbrev pub Rose : ℕ → ℕ → Type 0
Rose before now = next_count before ≤ now

-- The count rose where the answer says that the object failed, is as before after every other answer, and never falls.
pub record CountsFaults (failed : Type 0) (before now : ℕ) : Type 0 where
  pub rose : failed → Rose before now
  pub kept : (failed → ⊥) → now ≡ before
  pub later : before ≤ now

-- The object's own count of faults goes on with this answer: it counts the answers that are this error, and no other.
abbrev pub CountsFailures : {S T E : Type 0} → (S → ℕ) → E → S → S → Result T E → Type 0
CountsFailures faults failure old new result = CountsFaults (IsErrOf result failure) (faults old) (faults new)
