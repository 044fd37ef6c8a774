-- A number or a text that is read is the one that was written, and what was written is read again.
use Rattle.std.proofs.Common.{◌≡◌, ℕ, ℤ, pos, negsuc, suc, ◌+◌, ◌-◌, ◌^◌, ◌<◌, ◌≤◌, Bool, true, false, ◌&&◌, cond, ltb, List, [], ◌∷◌, ◌++◌, length, take, drop, Option, Result, Ok, Err, refl, sym, ap, subst, ◌∙◌, append_assoc, arith, inl, inr}
use Rattle.std.specs.Int.{Width, w8, w16, w32, w64, w128, byte_len, from_be_bytes, to_be_bytes, cast_signed, cast_unsigned}
use mir.Val.{SFits}
use Rattle.std.specs.Str.{is_utf8}
use Rattle.std.proofs.lemmas.Bool.{cases_lt, ltb-false, le-ltb, ltb-true, lt-ltb}
use Rattle.std.proofs.lemmas.Int.{to_z-of_z, of_z-to_z}
use Rattle.std.proofs.lemmas.List.{take_at, drop_at, take-append-drop, length-append, length-take, get_or-drop, get_or-take, get_or_past}
use Rattle.std.proofs.lemmas.Nat.{be_bytes_2, be_bytes_4, be_bytes_8, from_be_bytes-to_be_bytes_2, from_be_bytes-to_be_bytes_4, from_be_bytes-to_be_bytes_8}
use Rattle.salt_value.specs.declared.fault.Misread.TheVariants.{Short, NotUtf8, Unsorted}
use Rattle.salt_value.specs.Spelling.{text}
use Rattle.salt_value.specs.Keys.{comes_after}
use Rattle.salt_value.specs.WellFormed.{is_text, is_int, is_count}
use Rattle.salt_value.specs.Readers.{◌>>=◌}
use Rattle.salt_value.specs.Decoding.{IsBytes, number_or, text_or, int_at, text_at, key_at}
use Rattle.salt_value.proofs.ReadLemmas.{bind_ok, guard_ok, guarded_ok, ok_is}
use Rattle.salt_value.proofs.WriteLemmas.{both_true}

pub IsBytes-drop : (n : ℕ) (bytes : List ℕ) → IsBytes bytes → IsBytes (drop n bytes)
IsBytes-drop n bytes h i = rw get_or-drop (h (n + i))

pub IsBytes-take : (n : ℕ) (bytes : List ℕ) → IsBytes bytes → IsBytes (take n bytes)
IsBytes-take n bytes h i =
    elim (cases_lt i n) [
      | inl lt ↦ rw (get_or-take n bytes i 0 lt) (h i)
      | inr le ↦ rw (get_or_past (take n bytes) i 0 (omega (arith, length-take n bytes))) (omega arith)
    ]

pub IsBytes-rest : (b : ℕ) (bytes : List ℕ) → IsBytes (b ∷ bytes) → IsBytes bytes
IsBytes-rest b bytes h i = h (suc i)

-- what a reader took from the front
pub record Takes (bytes text rest : List ℕ) : Type 0 where
  pub parts : bytes ≡ text ++ rest
  pub rest_fits : IsBytes rest

pub Takes-then : (a x b y c : List ℕ) → Takes a x b → Takes b y c → Takes a (x ++ y) c
Takes-then a x b y c p q = record { parts = p.parts ∙ ap (λ (t : List ℕ). x ++ t) q.parts ∙ sym (append_assoc x y c); rest_fits = q.rest_fits }

pub record IsWide (w : Width) (limit : ℕ) : Type 0 where
  pub len : (n : ℕ) → length (to_be_bytes w n) ≡ byte_len w
  pub back : (bytes : List ℕ) → length bytes ≡ byte_len w → IsBytes bytes → to_be_bytes w (from_be_bytes w bytes) ≡ bytes
  pub again : (n : ℕ) → n < limit → from_be_bytes w (to_be_bytes w n) ≡ n
  pub below : (bytes : List ℕ) → IsBytes bytes → from_be_bytes w bytes < limit

wide8 : IsWide w8 (2 ^ 8)
wide8 = record {
  len = λ n. refl;
  back = byte_is;
  again = λ n lt. omega (arith, lt);
  below = λ bytes fits. omega (arith, fits 0);
} where
  byte_is : (bytes : List ℕ) → length bytes ≡ 1 → IsBytes bytes → to_be_bytes w8 (from_be_bytes w8 bytes) ≡ bytes
  byte_is [] len fits = absurd (omega arith)
  byte_is (b ∷ []) len fits = let small = fits 0 in ap (λ n. n ∷ []) (omega (arith, small))
  byte_is (b ∷ c ∷ bytes) len fits = absurd (omega arith)

wide16 : IsWide w16 (2 ^ 16)
wide16 = record {
  len = λ n. refl;
  back = λ bytes len fits. be_bytes_2 bytes _ len fits refl;
  again = λ n lt. from_be_bytes-to_be_bytes_2 n lt;
  below = λ bytes fits. omega (arith, fits 0, fits 1);
}

pub wide32 : IsWide w32 (2 ^ 32)
wide32 = record {
  len = λ n. refl;
  back = λ bytes len fits. be_bytes_4 bytes _ len fits refl;
  again = λ n lt. from_be_bytes-to_be_bytes_4 n lt;
  below = λ bytes fits. omega (arith, fits 0, fits 1, fits 2, fits 3);
}

pub wide64 : IsWide w64 (2 ^ 64)
wide64 = record {
  len = λ n. refl;
  back = λ bytes len fits. be_bytes_8 bytes _ len fits refl;
  again = λ n lt. from_be_bytes-to_be_bytes_8 n lt;
  below = λ bytes fits. omega (arith, fits 0, fits 1, fits 2, fits 3, fits 4, fits 5, fits 6, fits 7);
}

pub wide : (w : Width) → byte_len w ≤ 8 → IsWide w (256 ^ byte_len w)
wide w8 le = wide8
wide w16 le = wide16
wide w32 le = wide32
wide w64 le = wide64
wide w128 le = absurd (omega arith)

pub number_takes : {F : Type 0} (w : Width) (limit : ℕ) (wide : IsWide w limit) (short : F) (bytes : List ℕ) (n : ℕ) (rest : List ℕ) → IsBytes bytes → number_or w short bytes ≡ Ok (n, rest) → Takes bytes (to_be_bytes w n) rest × (n < limit)
number_takes w limit wide short bytes n rest fits e =
    let g = guard_ok (ltb (length bytes) (byte_len w)) short (from_be_bytes w (take (byte_len w) bytes), drop (byte_len w) bytes) (n, rest) e in
    let long : byte_len w ≤ length bytes = ltb-false _ _ g.0 in
    let n-is : from_be_bytes w (take (byte_len w) bytes) ≡ n = ap (λ (p : ℕ × List ℕ). p.0) g.1 in
    let rest-is : drop (byte_len w) bytes ≡ rest = ap (λ (p : ℕ × List ℕ). p.1) g.1 in
    let front : to_be_bytes w n ≡ take (byte_len w) bytes = rw (← n-is) (wide.back (take (byte_len w) bytes) (omega (arith, length-take (byte_len w) bytes)) (IsBytes-take (byte_len w) bytes fits)) in
    (record { parts = rw (front, ← rest-is) (sym (take-append-drop (byte_len w) bytes)); rest_fits = rw (← rest-is) (IsBytes-drop (byte_len w) bytes fits) }, rw (← n-is) (wide.below (take (byte_len w) bytes) (IsBytes-take (byte_len w) bytes fits)))

pub number_again : {F : Type 0} (w : Width) (limit : ℕ) (wide : IsWide w limit) (short : F) (n : ℕ) (rest : List ℕ) → n < limit → number_or w short (to_be_bytes w n ++ rest) ≡ Ok (n, rest)
number_again w limit wide short n rest lt =
    let len = wide.len n in
    let long : ltb (length (to_be_bytes w n ++ rest)) (byte_len w) ≡ false = le-ltb _ _ (omega (arith, length-append (to_be_bytes w n) rest)) in
    rw (long, take_at (to_be_bytes w n) rest (byte_len w) len, drop_at (to_be_bytes w n) rest (byte_len w) len, wide.again n lt) refl

-- ---- texts and keys

pub is_count_of : (n : ℕ) → n < 2 ^ 32 → is_count n ≡ true
is_count_of n lt = lt_is n 4294967296 lt where
  lt_is : (a b : ℕ) → a < b → ltb a b ≡ true
  lt_is a b h = lt-ltb a b h

pub count_of_is : (n : ℕ) → is_count n ≡ true → n < 2 ^ 32
count_of_is n h = ltb-true _ _ h

joins_true : (a b : Bool) → a ≡ true → b ≡ true → (a && b) ≡ true
joins_true true b p q = q
joins_true false b p q = absurd cc

pub both : (a b : Bool) → a ≡ true → b ≡ true → (a && b) ≡ true
both = joins_true

pub text_or_takes : {F : Type 0} (short bad : F) (bytes : List ℕ) (x : List ℕ × List ℕ) → IsBytes bytes → text_or short bad bytes ≡ Ok x → Takes bytes (text x.0) x.1 × (is_text x.0 ≡ true)
unfolding text_or
text_or_takes {F} short bad bytes x fits e =
    let b = bind_ok (number_or w32 short bytes) (λ n. cond (ltb (length n.1) n.0) (Err short) (cond (is_utf8 (take n.0 n.1)) (Ok (take n.0 n.1, drop n.0 n.1)) (Err bad))) x e in
    let n = b.0 in
    let t = number_takes w32 (2 ^ 32) wide32 short bytes n.0 n.1 fits b.1 in
    let g = long_enough (ltb (length n.1) n.0) (cond (is_utf8 (take n.0 n.1)) (Ok (take n.0 n.1, drop n.0 n.1)) (Err bad)) x b.2 in
    let long : n.0 ≤ length n.1 = ltb-false _ _ g.0 in
    let u = guarded_ok (is_utf8 (take n.0 n.1)) bad (take n.0 n.1, drop n.0 n.1) x g.1 in
    let len : length (take n.0 n.1) ≡ n.0 = omega (arith, length-take n.0 n.1) in
    let second : Takes n.1 (take n.0 n.1) (drop n.0 n.1) = record { parts = sym (take-append-drop n.0 n.1); rest_fits = IsBytes-drop n.0 n.1 t.0.rest_fits } in
    let both' = Takes-then bytes (to_be_bytes w32 n.0) n.1 (take n.0 n.1) (drop n.0 n.1) t.0 second in
    let whole : Takes bytes (text (take n.0 n.1)) (drop n.0 n.1) = subst (λ (k : ℕ). Takes bytes (to_be_bytes w32 k ++ take n.0 n.1) (drop n.0 n.1)) (sym len) both' in
    let small : length (take n.0 n.1) < 2 ^ 32 = omega (arith, t.1) in
    subst (λ (p : List ℕ × List ℕ). Takes bytes (text p.0) p.1 × (is_text p.0 ≡ true)) u.1 (whole, joins_true _ _ (is_count_of (length (take n.0 n.1)) small) u.0)
  where
    long_enough : {A : Type 0} (b : Bool) (r : Result A F) (y : A) → cond b (Err short) r ≡ Ok y → (b ≡ false) × (r ≡ Ok y)
    long_enough true r y e = absurd cc
    long_enough false r y e = (refl, e)

pub text_or_again : {F : Type 0} (short bad : F) (t rest : List ℕ) → is_text t ≡ true → text_or short bad (text t ++ rest) ≡ Ok (t, rest)
unfolding text_or
text_or_again short bad t rest h =
    let parts = both_true (is_count (length t)) (is_utf8 t) h in
    let long : ltb (length (t ++ rest)) (length t) ≡ false = le-ltb _ _ (omega (arith, length-append t rest)) in
    rw (number_again w32 (2 ^ 32) wide32 short (length t) (t ++ rest) (ltb-true _ _ parts.0), long, take_at t rest (length t) refl, drop_at t rest (length t) refl, parts.1) refl

pub text_takes : (bytes : List ℕ) (x : List ℕ × List ℕ) → IsBytes bytes → text_at bytes ≡ Ok x → Takes bytes (text x.0) x.1 × (is_text x.0 ≡ true)
text_takes bytes x fits e = text_or_takes Short (NotUtf8 (length bytes - 4)) bytes x fits e

pub text_again : (t rest : List ℕ) → is_text t ≡ true → text_at (text t ++ rest) ≡ Ok (t, rest)
text_again t rest h = text_or_again Short (NotUtf8 (length (text t ++ rest) - 4)) t rest h

pub key_takes : (last : Option (List ℕ)) (bytes : List ℕ) (x : List ℕ × List ℕ) → IsBytes bytes → key_at last bytes ≡ Ok x → Takes bytes (text x.0) x.1 × (is_text x.0 ≡ true) × (comes_after last x.0 ≡ true)
unfolding key_at
key_takes last bytes x fits e =
    let a = bind_ok (text_at bytes) (λ key. cond (comes_after last key.0) (Ok key) (Err (Unsorted (length bytes - 4)))) x e in
    let g = guarded_ok (comes_after last a.0.0) (Unsorted (length bytes - 4)) a.0 x a.2 in
    let t = text_takes bytes a.0 fits a.1 in
    subst (λ (p : List ℕ × List ℕ). Takes bytes (text p.0) p.1 × (is_text p.0 ≡ true) × (comes_after last p.0 ≡ true)) g.1 (t.0, t.1, g.0)

pub key_again : (last : Option (List ℕ)) (k rest : List ℕ) → is_text k ≡ true → comes_after last k ≡ true → key_at last (text k ++ rest) ≡ Ok (k, rest)
unfolding key_at
key_again last k rest h after = rw (text_again k rest h, after) refl

-- ---- signed numbers

signed_fits : (n : ℕ) → n < 2 ^ 64 → is_int (cast_signed w64 n) ≡ true
signed_fits n lt =
    elim (cases_lt n 9223372036854775808) [
      | inl a ↦ ap is_int (ap (λ b. cond b (pos n) (negsuc (18446744073709551616 - suc n))) (lt-ltb n 9223372036854775808 a)) ∙ lt-ltb n 9223372036854775808 a
      | inr le ↦ ap is_int (ap (λ b. cond b (pos n) (negsuc (18446744073709551616 - suc n))) (le-ltb n 9223372036854775808 le)) ∙ lt-ltb (18446744073709551616 - suc n) 9223372036854775808 (omega arith)
    ]

int_fits : (z : ℤ) → is_int z ≡ true → SFits w64 z
int_fits (pos n) h = record { sfits = ltb-true n 9223372036854775808 h }
int_fits (negsuc n) h = record { sfits = ltb-true n 9223372036854775808 h }

unsigned_fits : (z : ℤ) → is_int z ≡ true → cast_unsigned w64 z < 2 ^ 64
unsigned_fits (pos n) h = let lt : n < 9223372036854775808 = ltb-true _ _ h in omega arith
unsigned_fits (negsuc n) h = omega arith

pub int_takes : (bytes : List ℕ) (x : ℤ × List ℕ) → IsBytes bytes → int_at bytes ≡ Ok x → Takes bytes (to_be_bytes w64 (cast_unsigned w64 x.0)) x.1 × (is_int x.0 ≡ true)
int_takes bytes x fits e =
    let a = bind_ok (number_or w64 Short bytes) (λ n. Ok (cast_signed w64 n.0, n.1)) x e in
    let t = number_takes w64 (2 ^ 64) wide64 Short bytes a.0.0 a.0.1 fits a.1 in
    let back : cast_unsigned w64 (cast_signed w64 a.0.0) ≡ a.0.0 = of_z-to_z w64 a.0.0 t.1 in
    let made : ℤ × List ℕ = (cast_signed w64 a.0.0, a.0.1) in
    subst (λ (p : ℤ × List ℕ). Takes bytes (to_be_bytes w64 (cast_unsigned w64 p.0)) p.1 × (is_int p.0 ≡ true)) (ok_is made x a.2)
    (subst (λ (k : ℕ). Takes bytes (to_be_bytes w64 k) a.0.1) (sym back) t.0, signed_fits a.0.0 t.1)

pub int_again : (z : ℤ) (rest : List ℕ) → is_int z ≡ true → int_at (to_be_bytes w64 (cast_unsigned w64 z) ++ rest) ≡ Ok (z, rest)
int_again z rest h =
    ap (λ r. r >>= λ n. Ok (cast_signed w64 n.0, n.1)) (number_again w64 (2 ^ 64) wide64 Short (cast_unsigned w64 z) rest (unsigned_fits z h))
    ∙ ap (λ (k : ℤ). Ok (k, rest)) (to_z-of_z w64 z (int_fits z h))
