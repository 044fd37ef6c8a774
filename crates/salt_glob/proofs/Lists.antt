-- Lists from a place on, and the `]` of a class.
use Rattle.std.proofs.Common.{◌≡◌, ℕ, zero, suc, ◌+◌, ◌-◌, ◌<◌, ◌≤◌, ◌==◌, Bool, true, false, not, cond, ◌||◌, List, [], ◌∷◌, inl, inr, length, take, drop, get_or, refl, sym, ap, ◌∙◌, length-drop, arith}
use Rattle.std.specs.Prelude.{nat_lt, position, None, Some, option_map, slice_range}
use Rattle.std.specs.List.{list_any, prefix_len}
use Rattle.std.proofs.Math.ListN.{drop_of_length-le}
use Rattle.std.proofs.lemmas.List.{take_more, drop_more, length-take-le, drop-append-le}
use Rattle.std.proofs.lemmas.List.Folds.{list_any-append}
use Rattle.std.proofs.lemmas.List.Quantifiers.{position-Some}
use Rattle.std.proofs.lemmas.Bool.{cases_lt}
use Rattle.std.proofs.lemmas.Bool.Decides.{nat_tests}
use Rattle.salt_glob.specs.Classes.{Class, class_after}

drop_nil : (k : ℕ) → drop k (let xs : List ℕ = [] in xs) ≡ []
drop_nil zero = refl
drop_nil (suc k) = refl

pub drop_add : (xs : List ℕ) (i k : ℕ) → drop k (drop i xs) ≡ drop (i + k) xs
drop_add xs zero k = ap (λ (n : ℕ). drop n xs) (omega arith)
drop_add [] (suc i) k = drop_nil k ∙ sym (drop_nil (suc i + k))
drop_add (x ∷ xs) (suc i) k = let e : suc i + k ≡ suc (i + k) = omega arith in drop_add xs i k ∙ ap (λ (n : ℕ). drop n (x ∷ xs)) (sym e)

abbrev pub closes : ℕ → Bool
closes b = b == 93

-- where a `]` is left, from a place on
abbrev pub LastClose : List ℕ → ℕ → Type 0
LastClose xs last = (k : ℕ) → list_any closes (drop k xs) ≡ nat_lt k last

before : (k i last : ℕ) (b : Bool) → k ≤ i → last ≤ i → (nat_lt k last || (b || false)) ≡ nat_lt k (cond b (i + 1) last)
before k i last b h l = grind (arith, nat_tests)

past : (k i last : ℕ) (b : Bool) → i < k → last ≤ i → false ≡ nat_lt k (cond b (i + 1) last)
past k i last b h l = grind (arith, nat_tests)

low_step : (xs : List ℕ) (i last k : ℕ) → i < length xs → last ≤ i → LastClose (take i xs) last → k ≤ i
    → list_any closes (drop k (take (i + 1) xs)) ≡ nat_lt k (cond (closes (get_or xs i 0)) (i + 1) last)
low_step xs i last k h l inv low =
    let long : length (take i xs) ≡ i = length-take-le i xs (omega arith) in
    ap (λ (ys : List ℕ). list_any closes (drop k ys)) (take_more xs i 0 h)
    ∙ ap (list_any closes) (drop-append-le k (take i xs) (get_or xs i 0 ∷ []) (omega arith))
    ∙ list_any-append closes (drop k (take i xs)) (get_or xs i 0 ∷ [])
    ∙ ap (λ (b : Bool). b || (closes (get_or xs i 0) || false)) (inv k)
    ∙ before k i last (closes (get_or xs i 0)) low l

high_step : (xs : List ℕ) (i last k : ℕ) → i < length xs → last ≤ i → i < k
    → list_any closes (drop k (take (i + 1) xs)) ≡ nat_lt k (cond (closes (get_or xs i 0)) (i + 1) last)
high_step xs i last k h l high =
    let long : length (take (i + 1) xs) ≡ i + 1 = length-take-le (i + 1) xs (omega arith) in
    ap (list_any closes) (drop_of_length-le (take (i + 1) xs) (omega arith)) ∙ past k i last (closes (get_or xs i 0)) high l

-- one byte more
pub last_step : (xs : List ℕ) (i last : ℕ) → i < length xs → last ≤ i → LastClose (take i xs) last
    → LastClose (take (i + 1) xs) (cond (closes (get_or xs i 0)) (i + 1) last)
last_step xs i last h l inv = λ k.
    elim (cases_lt i k) [ inl high ↦ high_step xs i last k h l high | inr low ↦ low_step xs i last k h l inv low ]

full_step : (b rest : Bool) (n m : ℕ) → (b || rest) ≡ false → (rest ≡ false → n ≤ m) → suc n ≤ cond (not b) (1 + m) 0
full_step true rest n m e ih = absurd cc
full_step false rest n m e ih = let low : n ≤ m = ih e in omega arith

full : (p : ℕ → Bool) (xs : List ℕ) → list_any p xs ≡ false → length xs ≤ prefix_len (λ x. not (p x)) xs
full p [] e = omega arith
full p (x ∷ xs) e = full_step (p x) (list_any p xs) (length xs) (prefix_len (λ y. not (p y)) xs) e (full p xs)

none_past : (n m : ℕ) → m ≤ n → cond (nat_lt n m) (Some n) None ≡ None
none_past n m h = grind (arith, nat_tests)

-- where no element passes, no position is found
pub position_none : (p : ℕ → Bool) (xs : List ℕ) → list_any p xs ≡ false → position p xs ≡ None
position_none p xs e = none_past _ _ (full p xs e)

-- what stands after the first byte of a list from a place on
pub second : (xs : List ℕ) (i : ℕ) → drop 1 (drop i xs) ≡ drop (i + 1) xs
second xs i = drop_add xs i 1

closed_none_of : (negated : Bool) (xs : List ℕ) → list_any closes (drop 1 xs) ≡ false → class_after negated xs ≡ None
closed_none_of negated [] e = refl
closed_none_of negated (x ∷ xs) e =
    ap (option_map (λ (n : ℕ). let c : Class = record { negated = negated; members = x ∷ take n xs } in c)) (position_none closes xs e)

-- no class is closed where no `]` stands after its first member
pub closed_none : (negated : Bool) (xs : List ℕ) (first last : ℕ) → LastClose xs last → last ≤ first + 1 → class_after negated (drop first xs) ≡ None
closed_none negated xs first last h l =
    closed_none_of negated (drop first xs) (ap (list_any closes) (second xs first) ∙ h (first + 1) ∙ grind (arith, nat_tests))

-- and else the first one closes it
pub closed_at : (negated : Bool) (xs : List ℕ) (first : ℕ) → first < length xs
    → class_after negated (drop first xs) ≡ option_map (λ (n : ℕ). let c : Class = record { negated = negated; members = get_or xs first 0 ∷ take n (drop (first + 1) xs) } in c) (position closes (drop (first + 1) xs))
closed_at negated xs first h = ap (class_after negated) (drop_more xs first 0 h)

members_of : (xs : List ℕ) (first n : ℕ) → first < length xs → slice_range xs first (first + 1 + n) ≡ get_or xs first 0 ∷ take n (drop (first + 1) xs)
members_of xs first n h =
    let e : first + 1 + n - first ≡ suc n = omega arith in
    ap (λ (k : ℕ). take k (drop first xs)) e ∙ ap (take (suc n)) (drop_more xs first 0 h)

-- the class by its places
pub closed_some : (negated : Bool) (xs : List ℕ) (first n : ℕ) → first < length xs → position closes (drop (first + 1) xs) ≡ Some n
    → (let c : Class = record { negated = negated; members = slice_range xs first (first + 1 + n) } in Some c) ≡ class_after negated (drop first xs)
closed_some negated xs first n h e =
    ap (λ (ms : List ℕ). let c : Class = record { negated = negated; members = ms } in Some c) (members_of xs first n h)
    ∙ sym (closed_at negated xs first h ∙ ap (option_map (λ (k : ℕ). let c : Class = record { negated = negated; members = get_or xs first 0 ∷ take k (drop (first + 1) xs) } in c)) e)

pub closed_none_found : (negated : Bool) (xs : List ℕ) (first : ℕ) → first < length xs → position closes (drop (first + 1) xs) ≡ None
    → class_after negated (drop first xs) ≡ None
closed_none_found negated xs first h e =
    closed_at negated xs first h ∙ ap (option_map (λ (k : ℕ). let c : Class = record { negated = negated; members = get_or xs first 0 ∷ take k (drop (first + 1) xs) } in c)) e

pub found_within : (xs : List ℕ) (first n : ℕ) → position closes (drop (first + 1) xs) ≡ Some n → first + 1 + n < length xs
found_within xs first n e =
    omega (arith, (position-Some closes (drop (first + 1) xs) n 0 e).0, length-drop (first + 1) xs)
