-- The lines of a text, one after the other.
use Rattle.std.proofs.Common.{◌≡◌, ℕ, suc, ◌+◌, ◌==◌, ◌<◌, ◌≤◌, Bool, true, false, List, [], ◌∷◌, take, drop, length, refl, sym, ap, ◌∙◌, arith}
use Rattle.std.specs.List.{onto_first}
use Rattle.std.proofs.Math.ListN.{drop_of_length-le}
use Rattle.std.proofs.lemmas.List.{length-drop, drop-drop}
use Rattle.yaml_words.specs.declared.places.Delimiter.TheVariants.{Feed}
use Rattle.yaml_words.specs.Places.{place}
use Rattle.yaml_subset.specs.Document.{lines_of}

abbrev Cut : ℕ → List ℕ → List (List ℕ) → ℕ → Type 0
Cut b bytes lines at = lines ≡ take at (b ∷ bytes) ∷ lines_of (drop (suc at) (b ∷ bytes))

cut_step : (b : ℕ) (bytes : List ℕ) (is : Bool) → (b == 10) ≡ is → (onto_first b (lines_of bytes) ≡ take (suc (place Feed bytes)) (b ∷ bytes) ∷ lines_of (drop (suc (suc (place Feed bytes))) (b ∷ bytes)))
    → lines_of (b ∷ bytes) ≡ take (place Feed (b ∷ bytes)) (b ∷ bytes) ∷ lines_of (drop (suc (place Feed (b ∷ bytes))) (b ∷ bytes))
cut_step b bytes true e ih = rw e refl
cut_step b bytes false e ih = rw e ih

pub line_at : (b : ℕ) (bytes : List ℕ) → lines_of (b ∷ bytes) ≡ take (place Feed (b ∷ bytes)) (b ∷ bytes) ∷ lines_of (drop (suc (place Feed (b ∷ bytes))) (b ∷ bytes))
line_at b [] = cut_step b [] (b == 10) refl refl
line_at b (c ∷ bytes) = cut_step b (c ∷ bytes) (b == 10) refl (ap (onto_first b) (line_at c bytes))

pub first_line : (text : List ℕ) → 0 < length text → lines_of text ≡ take (place Feed text) text ∷ lines_of (drop (suc (place Feed text)) text)
first_line [] h = absurd (omega arith)
first_line (b ∷ bytes) h = line_at b bytes

empty_past : (text : List ℕ) (at : ℕ) → length (drop at text) ≡ 0 → (drop at text ≡ []) × (drop (suc at) text ≡ [])
empty_past text at e =
    let l : length text ≤ at = omega (arith, e, length-drop at text) in
    let m : length text ≤ suc at = omega (arith, l) in
    (drop_of_length-le text l, drop_of_length-le text m)

pub last_cut : (text line rest : List ℕ) (at : ℕ) → 0 < length text → at ≡ place Feed text → line ≡ take at text → rest ≡ drop at text → length rest ≡ 0 → lines_of text ≡ line ∷ lines_of rest
last_cut text line rest at h e f g z =
    let gone = empty_past text at (ap length (sym g) ∙ z) in
    rw (f, g, gone.0) (rw gone.1 at (rw (← e) at (first_line text h)))

pub more_cut : (text line rest more : List ℕ) (at : ℕ) → 0 < length text → at ≡ place Feed text → line ≡ take at text → rest ≡ drop at text → more ≡ drop 1 rest → lines_of text ≡ line ∷ lines_of more
more_cut text line rest more at h e f g m =
    let one : at + 1 ≡ suc at = omega arith in
    let next : drop 1 (drop at text) ≡ drop (suc at) text = drop-drop 1 at text ∙ ap (λ n. drop n text) one in
    rw (f, m, g, next) (rw (← e) at (first_line text h))
