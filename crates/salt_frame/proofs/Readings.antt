-- Frames at the front of bytes, and the one reading of a stream.
use Rattle.std.proofs.Common.{◌≡◌, ℕ, ◌+◌, ◌^◌, ◌<◌, ◌≤◌, List, [], ◌∷◌, ◌++◌, length, take, drop, inl, inr, Option, Some, None, refl, sym, ap, subst, ◌∙◌, append_assoc, arith, length-append}
use Rattle.std.specs.Int.{w32, to_be_bytes}
use Rattle.std.specs.List.{AllByRecursion}
use Rattle.std.proofs.lemmas.List.{take_at, drop_at}
use Rattle.std.proofs.lemmas.List.Concat.{flat_map-cons}
use Rattle.std.proofs.lemmas.Nat.{from_be_bytes-to_be_bytes_4}
use Rattle.salt_frame.specs.Frames.{frame, frames, IsBody, IsPartial, IsOver, length_at, Ends}
use Rattle.salt_frame.specs.Laws.{ArePrefixFree, IsOneReading}

small : (b : List ℕ) → IsBody b → length b < 2 ^ 32
small b h = omega (arith, h)

pub told : (b x : List ℕ) → IsBody b → length_at (frame b ++ x) ≡ length b
told b x h = from_be_bytes-to_be_bytes_4 (length b) (small b h)

pub over_told : (n : ℕ) (b : List ℕ) → IsOver n b → length_at b ≡ n
over_told n b o = ap length_at o.2.1 ∙ from_be_bytes-to_be_bytes_4 n o.1

long : (b x : List ℕ) → 4 + length b ≤ length (frame b ++ x)
long b x = omega (arith, length-append (to_be_bytes w32 (length b)) b, length-append (frame b) x)

pub not_partial : (b x : List ℕ) → IsBody b → IsPartial (frame b ++ x) → ⊥
not_partial b x h (inl short) = omega (arith, long b x, short)
not_partial b x h (inr p) = omega (arith, long b x, told b x h, p.1)

pub not_over : (n : ℕ) (b x : List ℕ) → IsBody b → IsOver n (frame b ++ x) → ⊥
not_over n b x h o = omega (arith, o.0, over_told n (frame b ++ x) o, told b x h, h)

over_long : (n : ℕ) (b : List ℕ) → IsOver n b → 4 ≤ length b
over_long n b o = omega (arith, ap length o.2.1, length-append (to_be_bytes w32 n) o.2.0)

over_not_partial : (n : ℕ) (b : List ℕ) → IsOver n b → IsPartial b → ⊥
over_not_partial n b o (inl short) = omega (arith, over_long n b o, short)
over_not_partial n b o (inr p) = omega (arith, o.0, over_told n b o, p.0)

pub not_ends : (over : Option ℕ) (b x : List ℕ) → IsBody b → Ends over (frame b ++ x) → ⊥
not_ends None b x h e = not_partial b x h e
not_ends (Some n) b x h e = not_over n b x h e

pub prefix_free : ArePrefixFree
prefix_free a b x y h k e =
    let size : length a ≡ length b = sym (told a x h) ∙ ap length_at e ∙ told b y k in
    let bodies : a ++ x ≡ b ++ y = ap (drop 4) e in
    let same : a ≡ b = sym (take_at a x (length a) refl) ∙ ap (take (length a)) bodies ∙ take_at b y (length a) (sym size) in
    let rest : x ≡ y = sym (drop_at a x (length a) refl) ∙ ap (drop (length a)) bodies ∙ drop_at b y (length a) (sym size) in
    (same, rest)

same_end : (m n : Option ℕ) (x : List ℕ) → Ends m x → Ends n x → m ≡ n
same_end None None x e f = refl
same_end None (Some n) x e f = absurd (over_not_partial n x f e)
same_end (Some m) None x e f = absurd (over_not_partial m x e f)
same_end (Some m) (Some n) x e f = ap (λ (k : ℕ). Some k) (sym (over_told m x e) ∙ over_told n x f)

front_of : (b : List ℕ) (bs : List (List ℕ)) (x stream : List ℕ) → stream ≡ frames (b ∷ bs) ++ x → stream ≡ frame b ++ (frames bs ++ x)
front_of b bs x stream e = e ∙ ap (λ l. l ++ x) (flat_map-cons frame b bs) ∙ append_assoc (frame b) (frames bs) x

reading : (bs cs : List (List ℕ)) (m n : Option ℕ) (x y : List ℕ) → frames bs ++ x ≡ frames cs ++ y → AllByRecursion IsBody bs → AllByRecursion IsBody cs → Ends m x → Ends n y
    → (bs ≡ cs) × (m ≡ n) × (x ≡ y)
reading [] [] m n x y e h k p q = (refl, same_end m n x p (subst (Ends n) (sym e) q), e)
reading [] (c ∷ cs) m n x y e h k p q = absurd (not_ends m c (frames cs ++ y) k.0 (subst (Ends m) (front_of c cs y x e) p))
reading (b ∷ bs) [] m n x y e h k p q = absurd (not_ends n b (frames bs ++ x) h.0 (subst (Ends n) (front_of b bs x y (sym e)) q))
reading (b ∷ bs) (c ∷ cs) m n x y e h k p q =
    let one = prefix_free b c (frames bs ++ x) (frames cs ++ y) h.0 k.0 (sym (front_of b bs x _ refl) ∙ front_of c cs y _ e) in
    let more = reading bs cs m n x y one.1 h.1 k.1 p q in
    (ap (λ l. l ∷ bs) one.0 ∙ ap (λ l. c ∷ l) more.0, more.1, more.2)

pub one : IsOneReading
one stream bs cs m n x y p q =
    reading bs cs m n x y (sym p.splits.whole ∙ q.splits.whole) p.splits.each q.splits.each p.ends q.ends
