-- The members of a class from left to right.
use Rattle.std.proofs.Common.{◌≡◌, ℕ, ◌+◌, ◌<◌, ◌==◌, Bool, true, false, ◌&&◌, ◌||◌, List, [], ◌∷◌, length, drop, get_or, refl, sym, ap, ◌∙◌, arith}
use Rattle.std.specs.Prelude.{nat_le, if◌then◌else◌}
use Rattle.std.proofs.lemmas.List.{drop_more, get_or-drop, length-drop}
use Rattle.std.proofs.lemmas.Bool.Decides.{nat_tests}
use Rattle.salt_glob.specs.Classes.{is_member}

range_of : (b x dash y : ℕ) (rest : List ℕ) → dash ≡ 45 → is_member b (x ∷ dash ∷ y ∷ rest) ≡ ((nat_le x b && nat_le b y) || is_member b rest)
range_of b x dash y rest e = rw e refl

-- a range and the members after it
pub range_front : (b : ℕ) (xs : List ℕ) (i : ℕ) → i + 2 < length xs → get_or xs (i + 1) 0 ≡ 45
    → is_member b (drop i xs) ≡ ((nat_le (get_or xs i 0) b && nat_le b (get_or xs (i + 2) 0)) || is_member b (drop (i + 3) xs))
range_front b xs i h e =
    let two : i + 1 + 1 ≡ i + 2 = omega arith in
    let three : i + 2 + 1 ≡ i + 3 = omega arith in
    let tail : drop (i + 1) xs ≡ get_or xs (i + 1) 0 ∷ get_or xs (i + 2) 0 ∷ drop (i + 3) xs =
    drop_more xs (i + 1) 0 (omega arith) ∙ ap (λ (ys : List ℕ). get_or xs (i + 1) 0 ∷ ys) (ap (λ (n : ℕ). drop n xs) two ∙ drop_more xs (i + 2) 0 h ∙ ap (λ (n : ℕ). get_or xs (i + 2) 0 ∷ drop n xs) three) in
    ap (is_member b) (drop_more xs i 0 (omega arith) ∙ ap (λ (ys : List ℕ). get_or xs i 0 ∷ ys) tail)
    ∙ range_of b (get_or xs i 0) (get_or xs (i + 1) 0) (get_or xs (i + 2) 0) (drop (i + 3) xs) e

not_dash : (d : ℕ) (a b : Bool) → (d ≡ 45 → ⊥) → (if d == 45 then a else b) ≡ b
not_dash d a b h = grind (arith, nat_tests)

or_false : (b : Bool) → b ≡ (b || false)
or_false true = refl
or_false false = refl

single_of : (b x : ℕ) (rest : List ℕ) → (1 < length rest → get_or rest 0 0 ≡ 45 → ⊥) → is_member b (x ∷ rest) ≡ ((b == x) || is_member b rest)
single_of b x [] h = or_false (b == x)
single_of b x (y ∷ []) h = refl
single_of b x (d ∷ y ∷ rest) h = not_dash d _ _ (h (omega arith))

-- one member and those after it
pub single_front : (b : ℕ) (xs : List ℕ) (i : ℕ) → i < length xs → (i + 2 < length xs → get_or xs (i + 1) 0 ≡ 45 → ⊥)
    → is_member b (drop i xs) ≡ ((b == get_or xs i 0) || is_member b (drop (i + 1) xs))
single_front b xs i h none =
    let first : get_or (drop (i + 1) xs) 0 0 ≡ get_or xs (i + 1) 0 = get_or-drop (i + 1) xs 0 0 ∙ ap (λ (n : ℕ). get_or xs n 0) (omega arith) in
    ap (is_member b) (drop_more xs i 0 h)
    ∙ single_of b (get_or xs i 0) (drop (i + 1) xs) (λ long e. none (omega (arith, long, length-drop (i + 1) xs)) (sym first ∙ e))
