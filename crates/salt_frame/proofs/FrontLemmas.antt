-- The frame at the front of whole frames.
use Rattle.std.proofs.Common.{◌≡◌, ℕ, ◌+◌, ◌-◌, ◌^◌, ◌<◌, ◌≤◌, List, [], ◌∷◌, ◌++◌, length, get_or, take, drop, inl, inr, refl, sym, ap, ◌∙◌, append_assoc, arith, length-append}
use Rattle.std.specs.Int.{w32, to_be_bytes}
use Rattle.std.specs.List.{AllByRecursion}
use Rattle.std.proofs.lemmas.List.{take_at, drop_at, take_all, length-take, length-drop, drop-drop, take-append-drop, get_or-take, get_or_past, append-nil}
use Rattle.std.proofs.lemmas.Bool.{cases_lt}
use Rattle.std.proofs.lemmas.List.Concat.{flat_map-cons}
use Rattle.std.proofs.lemmas.Nat.{from_be_bytes-to_be_bytes_4, be_bytes_4}
use Rattle.salt_frame.specs.Frames.{frame, frames, IsBody, length_at}
use Rattle.salt_frame.specs.BufferFields.{AreFrames}

pub record Front (m : ℕ) (kept : List ℕ) (body : List ℕ) : Type 0 where
  pub fits : IsBody body
  pub inside : 4 + length body ≤ m
  pub told : length_at kept ≡ length body
  pub whole : kept ≡ frame body ++ drop (4 + length body) kept
  pub is : take (length body) (drop 4 kept) ≡ body
  pub others : AreFrames (take (m - (4 + length body)) (drop (4 + length body) kept))

pub front : (m : ℕ) (kept : List ℕ) → 0 < m → m ≤ length kept → (bodies : List (List ℕ)) → take m kept ≡ frames bodies → AllByRecursion IsBody bodies → (body : List ℕ) × Front m kept body
front m kept some long [] e each = absurd (omega (arith, ap length e, length-take m kept))
front m kept some long (b ∷ more) e each =
    let X = frames more ++ drop m kept in
    let k : ℕ = 4 + length b in
    let split : take m kept ≡ frame b ++ frames more = e ∙ flat_map-cons frame b more in
    let all : kept ≡ frame b ++ X = sym (take-append-drop m kept) ∙ ap (λ l. l ++ drop m kept) split ∙ append_assoc (frame b) (frames more) (drop m kept) in
    let size : length (frame b) ≡ k = omega (arith, length-append (to_be_bytes w32 (length b)) b) in
    let len : m ≡ k + length (frames more) = omega (arith, ap length split, length-take m kept, length-append (frame b) (frames more), size) in
    let after : drop k kept ≡ X = ap (drop k) all ∙ drop_at (frame b) X k size in
    let body_at : drop 4 kept ≡ b ++ X = ap (drop 4) all in
    let small : length b < 2 ^ 32 = omega (arith, each.0) in (
      b,
      record {
        fits = each.0;
        inside = omega (arith, len);
        told = ap length_at all ∙ from_be_bytes-to_be_bytes_4 (length b) small;
        whole = all ∙ ap (λ l. frame b ++ l) (sym after);
        is = ap (take (length b)) body_at ∙ take_at b X (length b) refl;
        others = (more, ap (take (m - k)) after ∙ take_at (frames more) (drop m kept) (m - k) (omega (arith, len)), each.1);
      },
    )

pub at_start : (s w : ℕ) (bs : List ℕ) → s ≤ w → (s ≡ w → ⊥) → w ≤ length bs → AreFrames (take (w - s) (drop s bs)) → (body : List ℕ) × Front (w - s) (drop s bs) body
at_start s w bs le ne within r = front (w - s) (drop s bs) (omega arith) (omega (arith, length-drop s bs)) r.0 r.1 r.2

-- what is read behind a place, from a copy of the bytes
pub seen : (s : ℕ) (d bs : List ℕ) → d ≡ bs → take (length d - s) (drop s d) ≡ drop s bs
seen s d bs e = take_all (length d - s) (drop s d) (omega (arith, length-drop s d)) ∙ ap (drop s) e

pub body_seen : (s r : ℕ) (d bs body : List ℕ) → d ≡ bs → r ≡ length body → take (length body) (drop 4 (drop s bs)) ≡ body → take (s + 4 + r - (s + 4)) (drop (s + 4) d) ≡ body
body_seen s r d bs body e n is =
    let k : s + 4 + r - (s + 4) ≡ length body = omega arith in
    ap (λ l. take (s + 4 + r - (s + 4)) (drop (s + 4) l)) e ∙ ap (λ j. take j (drop (s + 4) bs)) k ∙ ap (take (length body)) (sym (drop-drop 4 s bs)) ∙ is

pub rest_at : (s r : ℕ) (bs body : List ℕ) → r ≡ length body → drop (4 + length body) (drop s bs) ≡ drop (s + 4 + r) bs
rest_at s r bs body n = let k : s + (4 + length body) ≡ s + 4 + r = omega arith in drop-drop (4 + length body) s bs ∙ ap (λ j. drop j bs) k

pub others_at : (s w r : ℕ) (bs body : List ℕ) → r ≡ length body → AreFrames (take (w - s - (4 + length body)) (drop (4 + length body) (drop s bs))) → AreFrames (take (w - (s + 4 + r)) (drop (s + 4 + r) bs))
others_at s w r bs body n o =
    let k : w - s - (4 + length body) ≡ w - (s + 4 + r) = omega arith in
    (o.0, ap (λ j. take j (drop (s + 4 + r) bs)) (sym k) ∙ ap (take (w - s - (4 + length body))) (sym (rest_at s r bs body n)) ∙ o.1, o.2)

abbrev pub IsBytes : List ℕ → Type 0
IsBytes bytes = (i : ℕ) → get_or bytes i 0 < 256

IsBytes-take : (n : ℕ) (bytes : List ℕ) → IsBytes bytes → IsBytes (take n bytes)
IsBytes-take n bytes h i =
    elim (cases_lt i n) [
      | inl lt ↦ rw (get_or-take n bytes i 0 lt) (h i)
      | inr le ↦ rw (get_or_past (take n bytes) i 0 (omega (arith, length-take n bytes))) (omega arith)
    ]

pub head_is : (bytes : List ℕ) → IsBytes bytes → 4 ≤ length bytes → bytes ≡ to_be_bytes w32 (length_at bytes) ++ drop 4 bytes
head_is bytes fits long =
    sym (take-append-drop 4 bytes) ∙ ap (λ l. l ++ drop 4 bytes) (sym (be_bytes_4 (take 4 bytes) _ (omega (arith, length-take 4 bytes)) (IsBytes-take 4 bytes fits) refl))

pub frame_is : (bytes : List ℕ) (n : ℕ) → IsBytes bytes → 4 ≤ length bytes → n ≡ length_at bytes → n + 4 ≤ length bytes → n ≤ 1048576
    → (x : List ℕ) × IsBody x × (n + 4 ≡ 4 + length x) × (bytes ≡ frame x ++ drop (n + 4) bytes)
frame_is bytes n fits long e whole small =
    let body = take n (drop 4 bytes) in
    let len : length body ≡ n = omega (arith, length-take n (drop 4 bytes), length-drop 4 bytes) in
    let k : 4 + n ≡ n + 4 = omega arith in
    let rest : drop n (drop 4 bytes) ≡ drop (n + 4) bytes = drop-drop n 4 bytes ∙ ap (λ j. drop j bytes) k in
    let parts : bytes ≡ to_be_bytes w32 (length body) ++ (body ++ drop (n + 4) bytes)
    = head_is bytes fits long ∙ ap (λ j. to_be_bytes w32 j ++ drop 4 bytes) (sym e ∙ sym len) ∙ ap (λ l. to_be_bytes w32 (length body) ++ l) (sym (take-append-drop n (drop 4 bytes)) ∙ ap (λ l. body ++ l) rest) in
    (body, omega (arith, len), omega (arith, len), parts ∙ sym (append_assoc (to_be_bytes w32 (length body)) body (drop (n + 4) bytes)))

all_append : (xs : List (List ℕ)) (y : List ℕ) → AllByRecursion IsBody xs → IsBody y → AllByRecursion IsBody (xs ++ y ∷ [])
all_append [] y h b = (b, tt)
all_append (x ∷ xs) y h b = (h.0, all_append xs y h.1 b)

frames_append : (xs : List (List ℕ)) (y : List ℕ) → frames (xs ++ y ∷ []) ≡ frames xs ++ frame y
frames_append [] y = flat_map-cons frame y [] ∙ append-nil (frame y)
frames_append (x ∷ xs) y = flat_map-cons frame x (xs ++ y ∷ []) ∙ ap (λ l. frame x ++ l) (frames_append xs y) ∙ sym (append_assoc (frame x) (frames xs) (frame y)) ∙ ap (λ l. l ++ frame y) (sym (flat_map-cons frame x xs))

-- one more frame
pub more_ready : (bytes : List ℕ) (from at size : ℕ) (body : List ℕ) → from ≤ at → at ≤ length bytes → AreFrames (take (at - from) (drop from bytes)) → IsBody body → size ≡ 4 + length body
    → drop at bytes ≡ frame body ++ drop size (drop at bytes) → (at + size ≤ length bytes) × AreFrames (take (at + size - from) (drop from bytes))
more_ready bytes from at size body le within r small s e =
    let len : length (frame body) ≡ size = omega (arith, s, length-append (to_be_bytes w32 (length body)) body) in
    let room : at + size ≤ length bytes = omega (arith, len, ap length e, length-append (frame body) (drop size (drop at bytes)), length-drop at bytes, length-drop size (drop at bytes)) in
    let m : at - from + size ≡ at + size - from = omega arith in
    let j : from + (at - from) ≡ at = omega arith in
    let split : drop from bytes ≡ take (at - from) (drop from bytes) ++ (frame body ++ drop size (drop at bytes))
    = sym (take-append-drop (at - from) (drop from bytes)) ∙ ap (λ l. take (at - from) (drop from bytes) ++ l) (drop-drop (at - from) from bytes ∙ ap (λ i. drop i bytes) j ∙ e) in
    let front : List ℕ = take (at - from) (drop from bytes) ++ frame body in
    let flen : length front ≡ at + size - from = omega (arith, length-append (take (at - from) (drop from bytes)) (frame body), length-take (at - from) (drop from bytes), length-drop from bytes, len, m) in
    let cut : take (at + size - from) (drop from bytes) ≡ front
    = ap (take (at + size - from)) (split ∙ sym (append_assoc (take (at - from) (drop from bytes)) (frame body) (drop size (drop at bytes)))) ∙ take_at front (drop size (drop at bytes)) (at + size - from) flen in
    (room, (r.0 ++ body ∷ [], cut ∙ ap (λ l. l ++ frame body) r.1 ∙ sym (frames_append r.0 body), all_append r.0 body r.2 small))

-- the body at the front is taken
