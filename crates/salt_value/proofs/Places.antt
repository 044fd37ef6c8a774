-- The first byte that fails a test, and a list padded to an array.
use Rattle.std.proofs.Common.{◌≡◌, ℕ, suc, ◌+◌, ◌-◌, ◌<◌, ◌≤◌, ◌&&◌, Bool, true, false, not, cond, List, [], ◌∷◌, ◌++◌, length, take, set, get_or, replicate, refl, sym, ap, ◌∙◌, append_assoc, arith}
use Rattle.std.specs.Prelude.{position, None, Some, nat_lt}
use Rattle.std.specs.List.{list_all, prefix_len}
use Rattle.std.proofs.lemmas.List.{take_more, length-take-le}
use Rattle.std.proofs.lemmas.Bool.Decides.{nat_tests}
use Rattle.std.proofs.Math.Seq.{set-append_seam}

step : (b rest : Bool) (n m : ℕ) → (n ≤ m → rest ≡ true) → suc n ≤ cond (not (not b)) (1 + m) 0 → (b && rest) ≡ true
step true rest n m ih h = ih (omega arith)
step false rest n m ih h = absurd (omega arith)

-- where no element fails the test, each passes
all_from_prefix_len : (p : ℕ → Bool) (xs : List ℕ) → length xs ≤ prefix_len (λ x. not (not (p x))) xs → list_all p xs ≡ true
all_from_prefix_len p [] h = refl
all_from_prefix_len p (x ∷ xs) h =
    step (p x) (list_all p xs) (length xs) (prefix_len (λ y. not (not (p y))) xs) (all_from_prefix_len p xs) h

none_past : (n m : ℕ) → cond (nat_lt n m) (Some n) None ≡ None → m ≤ n
none_past n m e = grind arith

pub all_from_none : (p : ℕ → Bool) (xs : List ℕ) → position (λ b. not (p b)) xs ≡ None → list_all p xs ≡ true
all_from_none p xs e = all_from_prefix_len p xs (none_past _ _ e)

less : (b rest : Bool) (n m : ℕ) → (b && rest) ≡ true → (rest ≡ true → n ≤ m) → suc n ≤ cond (not (not b)) (1 + m) 0
less true rest n m e ih = let low : n ≤ m = ih e in omega arith
less false rest n m e ih = absurd (cc)

-- and where each passes, none fails
prefix_len_from_all : (p : ℕ → Bool) (xs : List ℕ) → list_all p xs ≡ true → length xs ≤ prefix_len (λ x. not (not (p x))) xs
prefix_len_from_all p [] e = omega arith
prefix_len_from_all p (x ∷ xs) e =
    less (p x) (list_all p xs) (length xs) (prefix_len (λ y. not (not (p y))) xs) e (prefix_len_from_all p xs)

never_at : (n m at : ℕ) → m ≤ n → cond (nat_lt n m) (Some n) None ≡ Some at → ⊥
never_at n m at h e = grind (arith, nat_tests)

pub none_from_all : (p : ℕ → Bool) (xs : List ℕ) (at : ℕ) → position (λ b. not (p b)) xs ≡ Some at → list_all p xs ≡ true → ⊥
none_from_all p xs at e all = never_at _ _ at (prefix_len_from_all p xs all) e

-- one byte more of an array that begins with a text and ends with zeros
pub padded_step : (text : List ℕ) (i : ℕ) → i < length text → length text ≤ 64
    → set (take i text ++ replicate (64 - i) 0) i (get_or text i 0) ≡ take (i + 1) text ++ replicate (64 - (i + 1)) 0
padded_step text i h k =
    let more : 64 - i ≡ suc (64 - (i + 1)) = omega arith in
    let long : length (take i text) ≡ i = length-take-le i text (omega arith) in
    ap (λ (n : ℕ). set (take i text ++ replicate n 0) i (get_or text i 0)) more
    ∙ ap (λ (n : ℕ). set (take i text ++ 0 ∷ replicate (64 - (i + 1)) 0) n (get_or text i 0)) (sym long)
    ∙ set-append_seam (take i text) 0 (replicate (64 - (i + 1)) 0) (get_or text i 0)
    ∙ sym (append_assoc (take i text) (get_or text i 0 ∷ []) (replicate (64 - (i + 1)) 0))
    ∙ ap (λ (xs : List ℕ). xs ++ replicate (64 - (i + 1)) 0) (sym (take_more text i 0 h))
