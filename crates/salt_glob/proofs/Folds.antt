-- Bytes as a matcher reads them.
use Rattle.std.proofs.Common.{◌≡◌, ◌≢◌, ℕ, ◌+◌, ◌-◌, ◌<◌, ◌≤◌, ◌==◌, ◌&&◌, ◌||◌, Bool, true, false, not, cond, List, [], ◌∷◌, length, take, drop, get_or, refl, sym, ap, ◌∙◌, arith, length-drop}
use Rattle.std.specs.Prelude.{position, nat_lt, Option, None, Some, IfSome, IfNone}
use Rattle.std.specs.Char.{to_ascii_lowercase, to_ascii_uppercase}
use Rattle.std.specs.List.{list_any, list_all, prefix_len}
use Rattle.std.proofs.Math.ListN.{get_or-map}
use Rattle.std.proofs.lemmas.List.{drop-map, take-map, length-map, take_all, get_or-drop}
use Rattle.memchr.specs.Find.{IsFirstByte, is_byte2}
use Rattle.std.proofs.lemmas.Bool.Decides.{nat_tests}
use Rattle.salt_glob.specs.LowerCase.{lower_case, matcher_bytes}

-- one byte as it is read
abbrev pub fold_byte : Bool → ℕ → ℕ
fold_byte true b = to_ascii_lowercase b
fold_byte false b = b

pub folded-length : (c : Bool) (xs : List ℕ) → length (matcher_bytes c xs) ≡ length xs
folded-length true xs = length-map xs to_ascii_lowercase
folded-length false xs = refl

pub folded-at : (c : Bool) (xs : List ℕ) (i : ℕ) → get_or (matcher_bytes c xs) i 0 ≡ fold_byte c (get_or xs i 0)
folded-at true xs i = get_or-map to_ascii_lowercase xs i 0
folded-at false xs i = refl

pub folded-drop : (c : Bool) (n : ℕ) (xs : List ℕ) → drop n (matcher_bytes c xs) ≡ matcher_bytes c (drop n xs)
folded-drop true n xs = drop-map to_ascii_lowercase n xs
folded-drop false n xs = refl

pub folded-take : (c : Bool) (n : ℕ) (xs : List ℕ) → take n (matcher_bytes c xs) ≡ matcher_bytes c (take n xs)
folded-take true n xs = take-map to_ascii_lowercase n xs
folded-take false n xs = refl

-- a test of a byte that is no letter
abbrev pub IsSame : (ℕ → Bool) → Type 0
IsSame p = (b : ℕ) → p (to_ascii_lowercase b) ≡ p b

any-lowered : (p : ℕ → Bool) → IsSame p → (xs : List ℕ) → list_any p (lower_case xs) ≡ list_any p xs
any-lowered p h [] = refl
any-lowered p h (x ∷ xs) = ap (λ b. b || list_any p (lower_case xs)) (h x) ∙ ap (λ b. p x || b) (any-lowered p h xs)

all-lowered : (p : ℕ → Bool) → IsSame p → (xs : List ℕ) → list_all p (lower_case xs) ≡ list_all p xs
all-lowered p h [] = refl
all-lowered p h (x ∷ xs) = ap (λ b. b && list_all p (lower_case xs)) (h x) ∙ ap (λ b. p x && b) (all-lowered p h xs)

prefix-lowered : (p : ℕ → Bool) → IsSame p → (xs : List ℕ) → prefix_len (λ b. not (p b)) (lower_case xs) ≡ prefix_len (λ b. not (p b)) xs
prefix-lowered p h [] = refl
prefix-lowered p h (x ∷ xs) =
    ap (λ b. cond (not b) (1 + prefix_len (λ b. not (p b)) (lower_case xs)) 0) (h x) ∙ ap (λ n. cond (not (p x)) (1 + n) 0) (prefix-lowered p h xs)

position-lowered : (p : ℕ → Bool) → IsSame p → (xs : List ℕ) → position p (lower_case xs) ≡ position p xs
position-lowered p h xs =
    ap (λ n. cond (nat_lt n (length (lower_case xs))) (Some n) None) (prefix-lowered p h xs)
    ∙ ap (λ m. cond (nat_lt (prefix_len (λ b. not (p b)) xs) m) (Some (prefix_len (λ b. not (p b)) xs)) None) (length-map xs to_ascii_lowercase)

closes_same : IsSame (λ b. b == 93)
closes_same b = grind (arith, nat_tests)

star_same : IsSame (λ b. b == 42)
star_same b = grind (arith, nat_tests)

pub closes-folded : (c : Bool) (k : ℕ) (xs : List ℕ) → list_any (λ b. b == 93) (drop k (matcher_bytes c xs)) ≡ list_any (λ b. b == 93) (drop k xs)
closes-folded true k xs = ap (list_any (λ b. b == 93)) (drop-map to_ascii_lowercase k xs) ∙ any-lowered (λ b. b == 93) closes_same (drop k xs)
closes-folded false k xs = refl

pub first-folded : (c : Bool) (k : ℕ) (xs : List ℕ) → position (λ b. b == 93) (drop k (matcher_bytes c xs)) ≡ position (λ b. b == 93) (drop k xs)
first-folded true k xs = ap (position (λ b. b == 93)) (drop-map to_ascii_lowercase k xs) ∙ position-lowered (λ b. b == 93) closes_same (drop k xs)
first-folded false k xs = refl

pub stars-folded : (c : Bool) (k : ℕ) (xs : List ℕ) → list_all (λ b. b == 42) (drop k (matcher_bytes c xs)) ≡ list_all (λ b. b == 42) (drop k xs)
stars-folded true k xs = ap (list_all (λ b. b == 42)) (drop-map to_ascii_lowercase k xs) ∙ all-lowered (λ b. b == 42) star_same (drop k xs)
stars-folded false k xs = refl

-- a byte that is read as another is that one or its capital
is_either : (x b : ℕ) → to_ascii_lowercase x ≡ b → ((x == b) || (x == to_ascii_uppercase b)) ≡ true
is_either x b e = grind (arith, nat_tests)

pub either_some : (r : Option ℕ) (xs : List ℕ) (b up : ℕ) → up ≡ to_ascii_uppercase b → IsFirstByte (is_byte2 b up) xs r
    → IfSome r (λ n. (n < length xs) × ((k : ℕ) → k < n → get_or (lower_case xs) k 0 ≢ b))
either_some None xs b up e h = tt
either_some (Some n) xs b up e h = (
  h.0.high,
  λ k lt same. h.0.before k (omega arith) lt
      (ap (λ u. (get_or xs k 0 == b) || (get_or xs k 0 == u)) e ∙ is_either (get_or xs k 0) b (sym (folded-at true xs k) ∙ same)),
)

pub either_none : (r : Option ℕ) (xs : List ℕ) (b up : ℕ) → up ≡ to_ascii_uppercase b → IsFirstByte (is_byte2 b up) xs r
    → IfNone r ((k : ℕ) → k < length xs → get_or (lower_case xs) k 0 ≢ b)
either_none (Some n) xs b up e h = tt
either_none None xs b up e h = λ k lt same. h k (omega arith) lt
    (ap (λ u. (get_or xs k 0 == b) || (get_or xs k 0 == u)) e ∙ is_either (get_or xs k 0) b (sym (folded-at true xs k) ∙ same))

-- what is read from a place on
pub seen : (i : ℕ) (xs : List ℕ) → take (length xs - i) (drop i xs) ≡ drop i xs
seen i xs = take_all (length xs - i) (drop i xs) (omega (arith, length-drop i xs))

from_here : (c : Bool) (xs : List ℕ) (i k : ℕ) → i ≤ k → get_or (matcher_bytes c xs) k 0 ≡ get_or (matcher_bytes c (drop i xs)) (k - i) 0
from_here c xs i k le =
    let e : i + (k - i) ≡ k = omega arith in
    folded-at c xs k ∙ ap (fold_byte c) (ap (λ n. get_or xs n 0) (sym e) ∙ sym (get_or-drop i xs (k - i) 0)) ∙ sym (folded-at c (drop i xs) (k - i))

-- no byte up to a place, from another one on
pub none_up_to : (c : Bool) (bs xs : List ℕ) (i n b : ℕ) → matcher_bytes c bs ≡ xs → ((k : ℕ) → k < n → get_or (matcher_bytes c (take (length bs - i) (drop i bs))) k 0 ≢ b)
    → (k : ℕ) → i ≤ k → k < i + n → get_or xs k 0 ≢ b
none_up_to c bs xs i n b e h k le lt same =
    h (k - i) (omega arith) (ap (λ l. get_or (matcher_bytes c l) (k - i) 0) (seen i bs) ∙ sym (from_here c bs i k le) ∙ ap (λ l. get_or l k 0) e ∙ same)
