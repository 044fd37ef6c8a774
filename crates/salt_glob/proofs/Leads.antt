-- The bytes before the first `*`.
use Rattle.std.proofs.Common.{◌≡◌, ℕ, ◌+◌, ◌<◌, ◌≤◌, ◌==◌, Bool, true, false, List, [], ◌∷◌, length, drop, get_or, sym, ap, subst, arith}
use Rattle.std.specs.Prelude.{None, Some}
use Rattle.std.proofs.lemmas.List.{length-drop}
use Rattle.std.proofs.lemmas.Bool.Decides.{nat_tests}
use Rattle.std.proofs.Math.ListN.{drop_of_length-le}
use Rattle.salt_glob.specs.Globs.{pieces, more, is_star, Matches, Glob, MatchesAt, MatchesLater, piece_at, bytes_taken}
use Rattle.salt_glob.proofs.Pieces.{pieces_at, hold_nil, taken_some}
use Rattle.salt_glob.proofs.Searches.{one_back, one_forth, none_holds, star_later, later_star}

-- up to a place no `*` stands, and what is left of the pattern is to hold for what is left of the text
pub record Lead (xs ts : List ℕ) (p t : ℕ) : Type 0 where
  pub place : p ≤ length xs
  pub within : t ≤ length ts
  pub back : MatchesAt xs ts p t → Glob xs ts
  pub forth : Glob xs ts → MatchesAt xs ts p t

pub lead_begin : (xs ts : List ℕ) → Lead xs ts 0 0
lead_begin xs ts = record { place = omega arith; within = omega arith; back = λ h. h; forth = λ h. h }

pub lead_one : (xs ts : List ℕ) (p t n : ℕ) → p < length xs → t < length ts → bytes_taken (piece_at xs p) (get_or ts t 0) ≡ Some n → p + n ≤ length xs
    → Lead xs ts p t → Lead xs ts (p + n) (t + 1)
lead_one xs ts p t n h k e w l = record {
  place = w;
  within = omega arith;
  back = λ g. l.back (one_back xs ts p t n h k e g);
  forth = λ g. one_forth xs ts p t n (get_or ts t 0) h e (l.forth g);
}

pub lead_star : (xs ts : List ℕ) (p t : ℕ) (r : Bool) → p < length xs → get_or xs p 0 ≡ 42 → Lead xs ts p t
    → (r ≡ true → MatchesLater xs ts (p + 1) t) × (MatchesLater xs ts (p + 1) t → r ≡ true) → (r ≡ true → Glob xs ts) × (Glob xs ts → r ≡ true)
lead_star xs ts p t r h e l both =
    (λ f. l.back (later_star xs ts p t h e (both.0 f)), λ g. both.1 (star_later xs ts p t h e (l.forth g)))

pub lead_short : (xs ts : List ℕ) (p t : ℕ) → p < length xs → is_star (piece_at xs p) ≡ false → length ts ≤ t → Lead xs ts p t → Glob xs ts → ⊥
lead_short xs ts p t h s k l g =
    hold_nil (piece_at xs p) (pieces (drop (p + (more (piece_at xs p) + 1)) xs)) s
    (subst (Matches (piece_at xs p ∷ pieces (drop (p + (more (piece_at xs p) + 1)) xs))) (drop_of_length-le ts k) (subst (λ ps. Matches ps (drop t ts)) (pieces_at xs p h) (l.forth g)))

pub lead_none : (xs ts : List ℕ) (p t : ℕ) → p < length xs → t < length ts → is_star (piece_at xs p) ≡ false → bytes_taken (piece_at xs p) (get_or ts t 0) ≡ None → Lead xs ts p t → Glob xs ts → ⊥
lead_none xs ts p t h k s e l g = none_holds xs ts p t k (λ _. s) (λ _. e) (l.forth g)

at_end : (ts : List ℕ) (t : ℕ) → t ≤ length ts → (t == length ts) ≡ true → length ts ≤ t
at_end ts t h e = grind (arith, nat_tests)

end_at : (ts : List ℕ) (t : ℕ) → t ≤ length ts → length ts ≤ t → (t == length ts) ≡ true
end_at ts t h k = grind (arith, nat_tests)

nothing_left : (ts : List ℕ) (t : ℕ) → drop t ts ≡ [] → length ts ≤ t
nothing_left ts t e = omega (arith, length-drop t ts, ap length e)

pub lead_end : (xs ts : List ℕ) (p t : ℕ) → length xs ≤ p → Lead xs ts p t → ((t == length ts) ≡ true → Glob xs ts) × (Glob xs ts → (t == length ts) ≡ true)
lead_end xs ts p t h l = (
  λ e. l.back (subst (λ ys. Glob ys (drop t ts)) (sym (drop_of_length-le xs h)) (drop_of_length-le ts (at_end ts t l.within e))),
  λ g. end_at ts t l.within (nothing_left ts t (subst (λ ys. Glob ys (drop t ts)) (drop_of_length-le xs h) (l.forth g))),
)

above : (m n : ℕ) → m + 1 ≡ n → 0 < n
above m n e = omega arith

-- a piece has at least one byte
pub taken_more : (xs : List ℕ) (p b n : ℕ) → bytes_taken (piece_at xs p) b ≡ Some n → 0 < n
taken_more xs p b n e = above (more (piece_at xs p)) n (taken_some (piece_at xs p) b n e).1
