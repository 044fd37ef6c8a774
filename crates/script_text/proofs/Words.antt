-- Texts that are cut at a mark, and their lines.
use Rattle.std.proofs.Common.{◌≡◌, ℕ, zero, suc, ◌+◌, ◌<◌, ◌≤◌, Bool, true, false, not, cond, List, [], ◌∷◌, ◌++◌, take, drop, length, get_or, refl, sym, ap, subst, ◌∙◌, arith, drop-cons}
use Rattle.std.specs.Prelude.{None, Some, position, ◌==◌, nat_lt}
use Rattle.std.proofs.lemmas.List.Sums.{prefix_len_stops}
use Rattle.std.proofs.lemmas.List.{take-append-drop}
use Rattle.std.proofs.Math.Seq.{take-length}
use Rattle.std.proofs.lemmas.Bool.{eqb-true}
use Rattle.std.proofs.Math.ListN.{drop_of_length-le}
use Rattle.std.specs.List.{position_or_len, onto_first}
use Rattle.script_text.specs.Lines.{lines_of, Lacks}

heads : {x y : ℕ} {xs ys : List ℕ} → x ∷ xs ≡ y ∷ ys → x ≡ y
heads e = cc

tails : {x y : ℕ} {xs ys : List ℕ} → x ∷ xs ≡ y ∷ ys → xs ≡ ys
tails e = cc

not_marked : (b mark : ℕ) → b ≡ mark → (b == mark) ≡ false → ⊥
not_marked b mark e h = grind (arith, e, h)

not_not : (b : Bool) → not b ≡ false → b ≡ true
not_not true e = refl
not_not false e = cc

pub some_place : (n m at : ℕ) → cond (nat_lt n m) (Some n) None ≡ Some at → (n ≡ at) × (n < m)
some_place n m at e = grind arith

pub no_place : (n m : ℕ) → cond (nat_lt n m) (Some n) None ≡ None → m ≤ n
no_place n m e = grind arith

-- the length of the front without the mark
abbrev front_len : ℕ → List ℕ → ℕ
front_len mark text = position_or_len (λ (b : ℕ). b == mark) text

front_step : (b : Bool) (rest : Type 0) (k n : ℕ) → (k ≤ n → rest) → suc k ≤ cond (not b) (1 + n) 0 → (b ≡ false) × rest
front_step true rest k n ih h = absurd (omega arith)
front_step false rest k n ih h = (refl, ih (omega arith))

front_lacks : (mark : ℕ) (text : List ℕ) (k : ℕ) → k ≤ front_len mark text → k ≤ length text → Lacks mark (take k text)
front_lacks mark text zero h l = tt
front_lacks mark [] (suc k) h l = tt
front_lacks mark (b ∷ bytes) (suc k) h l =
    front_step (b == mark) (Lacks mark (take k bytes)) k (front_len mark bytes) (λ le. front_lacks mark bytes k le (omega arith)) h

pub front_of : (mark : ℕ) (text : List ℕ) (at : ℕ) → position (λ b. b == mark) text ≡ Some at → Lacks mark (take at text)
front_of mark text at e =
    let p = some_place (front_len mark text) (length text) at e in
    front_lacks mark text at (omega (arith, p.0)) (omega (arith, p.0, p.1))

is_mark : (b mark : ℕ) → not (b == mark) ≡ false → b ≡ mark
is_mark b mark e = eqb-true b mark (not_not (b == mark) e)

-- the mark itself
pub cut_at : (mark : ℕ) (text : List ℕ) (at : ℕ) → position (λ b. b == mark) text ≡ Some at → text ≡ take at text ++ mark ∷ drop 1 (drop at text)
cut_at mark text at e =
    let p = some_place (front_len mark text) (length text) at e in
    let low : at < length text = omega (arith, p.0, p.1) in
    let stop : not (get_or text at 0 == mark) ≡ false = rw (← p.0) (prefix_len_stops (λ b. not (b == mark)) text 0 p.1) in
    let here : drop at text ≡ mark ∷ drop (suc at) text = drop-cons text at 0 low ∙ ap (λ b. b ∷ drop (suc at) text) (is_mark _ mark stop) in
    sym (take-append-drop at text) ∙ ap (λ t. take at text ++ t) (here ∙ sym (ap (λ t. mark ∷ drop 1 t) here))

pub whole_lacks : (mark : ℕ) (text : List ℕ) → position (λ b. b == mark) text ≡ None → Lacks mark text
whole_lacks mark text e =
    let P : List ℕ → Type 0 = Lacks mark in
    subst P (take-length text) (front_lacks mark text (length text) (no_place (front_len mark text) (length text) e) (omega arith))

-- the first mark of two texts that are one
pub cut_once : (mark : ℕ) (a b c d : List ℕ) → Lacks mark a → Lacks mark c → a ++ mark ∷ b ≡ c ++ mark ∷ d → (a ≡ c) × (b ≡ d)
cut_once mark [] b [] d v w e = (refl, tails e)
cut_once mark [] b (y ∷ ys) d v w e = absurd (not_marked y mark (sym (heads e)) w.0)
cut_once mark (x ∷ xs) b [] d v w e = absurd (not_marked x mark (heads e) v.0)
cut_once mark (x ∷ xs) b (y ∷ ys) d v w e =
    let r = cut_once mark xs b ys d v.1 w.1 (tails e) in
    (ap (λ z. z ∷ xs) (heads e) ∙ ap (λ zs. y ∷ zs) r.0, r.1)

-- a text without the mark has none
pub no_cut : (mark : ℕ) (text a b : List ℕ) → Lacks mark text → a ++ mark ∷ b ≡ text → ⊥
no_cut mark [] [] b v e = cc
no_cut mark [] (x ∷ xs) b v e = cc
no_cut mark (y ∷ ys) [] b v e = not_marked y mark (sym (heads e)) v.0
no_cut mark (y ∷ ys) (x ∷ xs) b v e = no_cut mark ys xs b v.1 (tails e)

-- the first line, which its line feed ends
pub line_cut : (a b : List ℕ) → Lacks 10 a → lines_of (a ++ 10 ∷ b) ≡ a ∷ lines_of b
line_cut [] b h = refl
line_cut (x ∷ xs) b h = rw (h.0, line_cut xs b h.1) refl

-- the last line, which the text ends
pub line_last : (text : List ℕ) → Lacks 10 text → 0 < length text → lines_of text ≡ text ∷ []
line_last [] h l = absurd (omega arith)
line_last (x ∷ []) h l = rw h.0 refl
line_last (x ∷ y ∷ ys) h l = rw (h.0, line_last (y ∷ ys) h.1 (omega arith)) refl

onto_few : (x : ℕ) (lines : List (List ℕ)) → length (onto_first x lines) ≤ 1 + length lines
onto_few x [] = omega arith
onto_few x (l ∷ ls) = omega arith

cond_few : (b : Bool) (x n : ℕ) (lines : List (List ℕ)) → length lines ≤ n → length (cond b ([] ∷ lines) (onto_first x lines)) ≤ 1 + n
cond_few true x n lines h = omega arith
cond_few false x n lines h = omega (arith, onto_few x lines)

-- no more lines than bytes
pub lines_few : (text : List ℕ) → length (lines_of text) ≤ length text
lines_few [] = omega arith
lines_few (b ∷ bytes) = let h = cond_few (b == 10) b (length bytes) (lines_of bytes) (lines_few bytes) in omega (arith, h)

pub first_line : (text a b : List ℕ) → text ≡ a ++ 10 ∷ b → Lacks 10 a → lines_of text ≡ a ∷ lines_of b
first_line text a b e h = ap lines_of e ∙ line_cut a b h

drop_past : (text : List ℕ) (i : ℕ) → length text ≤ i → drop i text ≡ []
drop_past text i h = drop_of_length-le text h

pub only_line : (text : List ℕ) → Lacks 10 text → 0 < length text → lines_of text ≡ take (length text) text ∷ lines_of (drop (length text) text)
only_line text h l =
    line_last text h l ∙ ap (λ t. t ∷ []) (sym (take-length text)) ∙ ap (λ t. take (length text) text ∷ lines_of t) (sym (drop_past text (length text) (omega arith)))
