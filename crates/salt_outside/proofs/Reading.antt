use Rattle.std.proofs.Common.{◌≡◌, ℕ, ◌+◌, ◌<◌, ◌≤◌, List, [], ◌∷◌, ◌++◌, min, take, drop, length, refl, sym, ap, ◌∙◌, append_assoc, arith}
use Rattle.std.specs.Prelude.{Option, None, Some}
use Rattle.std.proofs.lemmas.List.{take-append-drop, length-take-le}
use Rattle.std.proofs.Math.Seq.{take-append_seam, drop-drop}
use Rattle.salt_outside.specs.Streams.{left_before, contents_after}

-- what was read stands before what is left
pub reads_front : (bytes tail front : List ℕ) (at n : ℕ) → front ≡ take n (drop at bytes) → n ≤ length (drop at bytes)
    → drop at bytes ≡ take n (front ++ tail) ++ drop (at + n) bytes
reads_front bytes tail front at n e h =
    let len : length front ≡ n = ap length e ∙ length-take-le n (drop at bytes) h in
    let seam : take n (front ++ tail) ≡ front = rw (← len) (take-append_seam front tail) in
    rw (seam, ← drop-drop n at bytes, e) (sym (take-append-drop n (drop at bytes)))

-- a piece and then another
pub preceded-preceded : (xs ys : List ℕ) (left : Option (List ℕ)) → left_before xs (left_before ys left) ≡ left_before (xs ++ ys) left
preceded-preceded xs ys None = refl
preceded-preceded xs ys (Some l) = ap Some (sym (append_assoc xs ys l))

pub appended-appended : (held : Option (List ℕ)) (xs ys : List ℕ) → contents_after (contents_after held xs) ys ≡ contents_after held (xs ++ ys)
appended-appended None xs ys = refl
appended-appended (Some h) xs ys = ap Some (append_assoc h xs ys)

-- a read of none with room for some
pub none_left : (room count : ℕ) (left : List ℕ) → count ≡ min room (length left) → 0 < room → count ≡ 0 → left ≡ []
none_left room count [] e h z = refl
none_left room count (x ∷ xs) e h z = absurd (grind arith)
