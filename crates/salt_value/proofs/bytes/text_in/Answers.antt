use Rattle.std.proofs.Common.{◌≡◌, Bool, true, false, refl, List, ℕ}
use Rattle.std.specs.Str.{is_utf8, IsUtf8}
use Rattle.std.proofs.lemmas.Str.{is_utf8-from_IsUtf8, IsUtf8-from_is_utf8}
use Rattle.salt_value.proofs.bytes.text_in.Goals as goal

not_text : (bs : List ℕ) → ¬ IsUtf8 bs → is_utf8 bs ≡ false
not_text bs h = no (is_utf8 bs) (λ e. h (IsUtf8-from_is_utf8 bs e)) where
  no : (b : Bool) → (b ≡ true → ⊥) → b ≡ false
  no true f = absurd (f refl)
  no false f = refl

pub returns-in-Ok : goal.returns-in-Ok
returns-in-Ok c = (is_utf8-from_IsUtf8 _ c.in-Ok.ensures.cases.1, c.in-Ok.ensures.cases.0)

pub returns-in-Err : goal.returns-in-Err
returns-in-Err c = not_text _ c.in-Err.ensures.cases.0
