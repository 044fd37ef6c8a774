-- The end of the last `}}` of a text.
use Rattle.std.proofs.Common.{◌≡◌, ℕ, suc, ◌+◌, ◌<◌, ◌≤◌, Bool, true, false, cond, List, [], ◌∷◌, drop, length, get_or, refl, ◌∙◌, arith, drop-cons, length-drop, add-one}
use Rattle.std.specs.Prelude.{nat_lt, ◌==◌, ◌&&◌}
use Rattle.yaml_words.specs.declared.places.Delimiter.TheVariants.{Close}
use Rattle.yaml_words.specs.Places.{is_at}
use Rattle.yaml_words.specs.Plain.{closed_front}

-- the end that is told by what is left, or else this one
abbrev pub told_end : ℕ → List ℕ → ℕ → ℕ
told_end at text end = cond (nat_lt 0 (closed_front text)) (at + closed_front text) end

-- a number above 0 is told
told_above : (at k end : ℕ) → cond (nat_lt 0 (suc k)) (at + suc k) end ≡ at + suc k
told_above at k end = grind arith

met_step : (at end : ℕ) (b : ℕ) (bytes : List ℕ) (later : Bool) → nat_lt 0 (closed_front bytes) ≡ later → is_at Close (b ∷ bytes) ≡ true → told_end at (b ∷ bytes) end ≡ told_end (suc at) bytes (at + 2)
met_step at end b bytes true l e = let s : at + suc (closed_front bytes) ≡ suc at + closed_front bytes = omega arith in rw l (told_above at (closed_front bytes) end ∙ s)
met_step at end b bytes false l e = rw (l, e) refl

passed_step : (at end : ℕ) (b : ℕ) (bytes : List ℕ) (later : Bool) → nat_lt 0 (closed_front bytes) ≡ later → is_at Close (b ∷ bytes) ≡ false → told_end at (b ∷ bytes) end ≡ told_end (suc at) bytes end
passed_step at end b bytes true l e = let s : at + suc (closed_front bytes) ≡ suc at + closed_front bytes = omega arith in rw l (told_above at (closed_front bytes) end ∙ s)
passed_step at end b bytes false l e = rw (l, e) refl

pub end_met : (text : List ℕ) (at end : ℕ) → at < length text → is_at Close (drop at text) ≡ true → told_end at (drop at text) end ≡ told_end (at + 1) (drop (at + 1) text) (at + 2)
end_met text at end h e =
    let c = drop-cons text at 0 h in
    rw (add-one, c) (met_step at end (get_or text at 0) (drop (suc at) text) (nat_lt 0 (closed_front (drop (suc at) text))) refl (rw c at e))

pub end_passed : (text : List ℕ) (at end : ℕ) → at < length text → is_at Close (drop at text) ≡ false → told_end at (drop at text) end ≡ told_end (at + 1) (drop (at + 1) text) end
end_passed text at end h e =
    let c = drop-cons text at 0 h in
    rw (add-one, c) (passed_step at end (get_or text at 0) (drop (suc at) text) (nat_lt 0 (closed_front (drop (suc at) text))) refl (rw c at e))

and_right : (a b : Bool) → a && b ≡ true → b ≡ true
and_right true b e = e
and_right false b e = cc

two_bytes : (text : List ℕ) → is_at Close text ≡ true → 2 ≤ length text
two_bytes [] e = cc
two_bytes (b ∷ []) e = let h = and_right (b == 125) false e in cc
two_bytes (b ∷ c ∷ bytes) e = omega arith

pub end_within : (text : List ℕ) (at : ℕ) → at < length text → is_at Close (drop at text) ≡ true → at + 2 ≤ length text
end_within text at h e = omega (arith, two_bytes (drop at text) e, length-drop at text)
