-- Parts of turns.
use Rattle.std.proofs.Common.{◌≡◌, ℕ, ◌+◌, ◌<◌, ◌^◌, ◌%◌, Bool, true, false, List, [], ◌∷◌, ◌++◌, refl, arith}
use Rattle.std.specs.Prelude.{◌==◌, decimal, IsUtf8, ◌&&◌}
use Rattle.std.specs.List.{list_all}
use Rattle.std.proofs.lemmas.Fmt.{decimal_by_steps}
use Rattle.std.proofs.lemmas.Str.{IsUtf8-from_ascii}
use Rattle.std.proofs.Common.{get_or, zero, suc, lit<}
use Rattle.script_text.specs.Lines.{Lacks}
use Rattle.script_text.specs.Script.{is_pattern_byte}

lacks_more : (mark : ℕ) (xs : List ℕ) (x : ℕ) → Lacks mark xs → (x == mark) ≡ false → Lacks mark (xs ++ x ∷ [])
lacks_more mark [] x all h = (h, tt)
lacks_more mark (y ∷ ys) x all h = (all.0, lacks_more mark ys x all.1 h)

digit_solid : (d : ℕ) → (48 + d == 32) ≡ false
digit_solid d = grind arith

-- no number has a space
pub solid_number : (n : ℕ) → n < 2 ^ 64 → Lacks 32 (decimal n)
solid_number n h =
    decimal_by_steps (λ _ ds. Lacks 32 ds) (λ n low. (digit_solid n, tt)) (λ n ds low all. lacks_more 32 ds (48 + n % 10) all (digit_solid (n % 10))) n h

and_both : (x y : Bool) → (x && y) ≡ true → (x ≡ true) × (y ≡ true)
and_both true y e = (refl, e)
and_both false y e = cc

small_byte : (b : ℕ) → is_pattern_byte b ≡ true → b < 128
small_byte b e = grind arith

ascii_at : (bytes : List ℕ) → list_all is_pattern_byte bytes ≡ true → (i : ℕ) → get_or bytes i 0 < 128
ascii_at [] e i = lit< tt
ascii_at (b ∷ bytes) e zero = small_byte b (and_both _ _ e).0
ascii_at (b ∷ bytes) e (suc i) = ascii_at bytes (and_both _ _ e).1 i

-- a pattern is text
pub utf8_pattern : (bytes : List ℕ) → list_all is_pattern_byte bytes ≡ true → IsUtf8 bytes
utf8_pattern bytes e = IsUtf8-from_ascii bytes (ascii_at bytes e)
