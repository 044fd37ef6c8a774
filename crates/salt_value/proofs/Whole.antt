-- The whole input: its front of 65,536 bytes, and places from its front.
use Rattle.std.proofs.Common.{◌≡◌, inl, inr, ℕ, zero, suc, ◌+◌, ◌-◌, ◌≤◌, min, List, [], ◌∷◌, ◌++◌, length, take, drop, Result, Ok, Err, refl, sym, ap, subst, ◌∙◌, append_assoc, arith, length-append}
use Rattle.std.specs.Prelude.{IfOk}
use Rattle.std.proofs.lemmas.List.{drop_at, length-take, take-append-drop}
use Rattle.salt_value.specs.declared.fault.Misread.{Misread}
use Rattle.salt_value.specs.declared.fault.ValueFault.{ValueFault}
use Rattle.salt_value.specs.declared.fault.ValueFault.TheVariants as faults
use Rattle.salt_value.specs.declared.fault.Misread.TheVariants as misses
use Rattle.salt_value.specs.declared.value.Value.{Value}
use Rattle.salt_value.specs.Spelling.{bytes}
use Rattle.salt_value.specs.WellFormed.{ValueFits}
use Rattle.salt_value.specs.FirstFault.{value_fault}
use Rattle.salt_value.specs.Readers.{Answers, Fails}
use Rattle.salt_value.specs.Decoding.{IsBytes, value_at, from_front, read_at}
use Rattle.salt_value.proofs.ByteFields.{IsBytes-take, IsBytes-drop}
use Rattle.salt_value.proofs.ReadLemmas.{ok_is}
use Rattle.salt_value.proofs.ReadBack.{value_takes, value_again}

pub take_past : (xs ys : List ℕ) (n : ℕ) → length xs ≤ n → take n (xs ++ ys) ≡ xs ++ take (n - length xs) ys
take_past [] ys n h = ap (λ k. take k ys) (omega arith)
take_past (x ∷ xs) ys zero h = absurd (omega arith)
take_past (x ∷ xs) ys (suc n) h =
    let k : n - length xs ≡ suc n - length (x ∷ xs) = omega arith in
    ap (λ l. x ∷ l) (take_past xs ys n (omega arith)) ∙ ap (λ m. x ∷ (xs ++ take m ys)) k

take_none : (k : ℕ) → take {A = ℕ} k [] ≡ []
take_none zero = refl
take_none (suc k) = refl

pub take-min : (xs : List ℕ) (n : ℕ) → take (min (length xs) n) xs ≡ take n xs
take-min [] n = take_none (min (length {A = ℕ} []) n) ∙ sym (take_none n)
take-min (x ∷ xs) zero = let k : min (length (x ∷ xs)) 0 ≡ 0 = omega arith in ap (λ m. take m (x ∷ xs)) k
take-min (x ∷ xs) (suc n) = let k : min (length (x ∷ xs)) (suc n) ≡ suc (min (length xs) n) = omega arith in ap (λ m. take m (x ∷ xs)) k ∙ ap (λ l. x ∷ l) (take-min xs n)

pub whole_ok : (input cut : List ℕ) (seen : ℕ) (v : Value) (rest : List ℕ) → seen ≡ min (length input) 65536 → cut ≡ take seen input → value_at 32 cut ≡ Ok (v, rest) → read_at input ≡ Ok (v, seen - length rest)
unfolding read_at
whole_ok input cut seen v rest s c e =
    let same : take 65536 input ≡ cut = sym (take-min input 65536) ∙ ap (λ k. take k input) (sym s) ∙ sym c in
    ap (λ l. from_front (length input) (value_at 32 l)) same ∙ ap (from_front (length input)) e ∙ ap (λ k. Ok (v, k - length rest)) (sym s)

answers_of : (all seen : ℕ) (e : Misread) (r : Result (Value × List ℕ) Misread) → seen ≡ min all 65536 → Fails misses.NoMemory e r → Answers faults.NoMemory (Err (value_fault all seen e)) (from_front all r)
answers_of all seen e r s (inl h) = inl (ap (value_fault all seen) h)
answers_of all seen e r s (inr h) = inr (ap (from_front all) h ∙ ap (λ k. Err (value_fault all k e)) (sym s))

pub whole_err : (input cut : List ℕ) (seen : ℕ) (e : Misread) → seen ≡ min (length input) 65536 → cut ≡ take seen input → Fails misses.NoMemory e (value_at 32 cut) → Answers faults.NoMemory (Err (value_fault (length input) seen e)) (read_at input)
unfolding read_at
whole_err input cut seen e s c h =
    let same : cut ≡ take 65536 input = c ∙ ap (λ k. take k input) s ∙ take-min input 65536 in
    answers_of (length input) seen e (value_at 32 (take 65536 input)) s (subst (λ (l : List ℕ). Fails misses.NoMemory e (value_at 32 l)) same h)

-- ---- the two laws, of the whole input

from_front_ok : (n : ℕ) (r : Result (Value × List ℕ) Misread) (x : Value × ℕ) → from_front n r ≡ Ok x → (y : Value × List ℕ) × (r ≡ Ok y) × ((y.0, min n 65536 - length y.1) ≡ x)
from_front_ok n (Ok y) x e = (y, refl, cc)
from_front_ok n (Err f) x e = absurd cc

abbrev pub Found : List ℕ → Value × ℕ → Type 0
Found input x = ValueFits x.0 × (x.1 ≡ length (bytes x.0)) × (x.1 ≤ length input) × ((rest : List ℕ) × (input ≡ bytes x.0 ++ rest))

pub found_ok : (input : List ℕ) (x : Value × ℕ) → IsBytes input → read_at input ≡ Ok x → Found input x
unfolding read_at
found_ok input x fits e =
    let a = from_front_ok (length input) (value_at 32 (take 65536 input)) x e in
    let v = a.0.0 in
    let rest = a.0.1 in
    let t = value_takes 32 (take 65536 input) a.0 (IsBytes-take 65536 input fits) a.1 in
    let len : length (take 65536 input) ≡ length (bytes v) + length rest = ap length t.0.parts ∙ length-append (bytes v) rest in
    let cut : length (take 65536 input) ≡ min 65536 (length input) = length-take 65536 input in
    let short : length (bytes v) ≤ 65536 = omega (arith, len, cut) in
    let taken : min (length input) 65536 - length rest ≡ length (bytes v) = omega (arith, len, cut) in
    let parts : input ≡ bytes v ++ (rest ++ drop 65536 input) = sym (take-append-drop 65536 input) ∙ ap (λ l. l ++ drop 65536 input) t.0.parts ∙ append_assoc (bytes v) rest (drop 65536 input) in
    let within : min (length input) 65536 - length rest ≤ length input = omega arith in
    subst (λ (y : Value × ℕ). Found input y) a.2 (record { deep = t.2; long = short; well_formed = t.1 }, taken, within, (rest ++ drop 65536 input, parts))

pub found_whole : (input : List ℕ) (v : Value) (n : ℕ) → IsBytes input → read_at input ≡ Ok (v, n) → ValueFits v × (n ≡ length (bytes v)) × ((rest : List ℕ) × (input ≡ bytes v ++ rest) × IsBytes rest)
found_whole input v n fits e =
    let f = found_ok input (v, n) fits e in
    let after : drop (length (bytes v)) input ≡ f.3.0 = ap (drop (length (bytes v))) f.3.1 ∙ drop_at (bytes v) f.3.0 (length (bytes v)) refl in
    (f.0, f.1, (f.3.0, f.3.1, subst IsBytes after (IsBytes-drop (length (bytes v)) input fits)))

pub is_found : (input : List ℕ) (r : Result (Value × ℕ) ValueFault) → IsBytes input → Answers faults.NoMemory r (read_at input) → IfOk r (Found input)
is_found input (Ok x) fits given = found_ok input x fits given
is_found input (Err e) fits given = tt

pub is_spelled : (input : List ℕ) (r : Result (Value × ℕ) ValueFault) → IfOk r (Found input) → IfOk r (λ x. ValueFits x.0 × (x.1 ≡ length (bytes x.0)) × ((rest : List ℕ) × (input ≡ bytes x.0 ++ rest)))
is_spelled input (Ok x) f = (f.0, f.1, f.3)
is_spelled input (Err e) f = tt

pub is_within : (input : List ℕ) (r : Result (Value × ℕ) ValueFault) → IfOk r (Found input) → IfOk r (λ x. x.1 ≤ length input)
is_within input (Ok x) f = f.2
is_within input (Err e) f = tt

pub read_again : (v : Value) (rest : List ℕ) → ValueFits v → read_at (bytes v ++ rest) ≡ Ok (v, length (bytes v))
unfolding read_at
read_again v rest fits =
    let cut : take 65536 (bytes v ++ rest) ≡ bytes v ++ take (65536 - length (bytes v)) rest = take_past (bytes v) rest 65536 fits.long in
    let all : length (bytes v ++ rest) ≡ length (bytes v) + length rest = length-append (bytes v) rest in
    let left : length (take (65536 - length (bytes v)) rest) ≡ min (65536 - length (bytes v)) (length rest) = length-take (65536 - length (bytes v)) rest in
    let n : min (length (bytes v ++ rest)) 65536 - length (take (65536 - length (bytes v)) rest) ≡ length (bytes v) = omega (arith, all, left, fits.long) in
    ap (λ l. from_front (length (bytes v ++ rest)) (value_at 32 l)) cut
    ∙ ap (from_front (length (bytes v ++ rest))) (value_again 32 v (take (65536 - length (bytes v)) rest) fits.well_formed fits.deep)
    ∙ ap (λ k. Ok (v, k)) n

pub apart : (v w : Value) (x y : List ℕ) → ValueFits v → ValueFits w → bytes v ++ x ≡ bytes w ++ y → (v ≡ w) × (x ≡ y)
apart v w x y f g e =
    let left : Value × List ℕ = (v, x) in
    let well_formed : Value × List ℕ = (w, y) in
    let same : left ≡ well_formed = ok_is left well_formed (sym (value_again 32 v x f.well_formed f.deep) ∙ ap (value_at 32) e ∙ value_again 32 w y g.well_formed g.deep) in
    (ap (λ (p : Value × List ℕ). p.0) same, ap (λ (p : Value × List ℕ). p.1) same)
