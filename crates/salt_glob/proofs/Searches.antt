-- The search after a `*`, which goes back to the last `*` alone.
use Rattle.std.proofs.Common.{◌≡◌, ℕ, ◌+◌, ◌-◌, ◌<◌, ◌≤◌, ◌⊎◌, inl, inr, Bool, true, false, List, [], ◌∷◌, length, drop, get_or, sym, ap, ◌∙◌, subst, arith}
use Rattle.std.specs.Prelude.{None, Some}
use Rattle.std.proofs.lemmas.List.{drop_more}
use Rattle.std.proofs.lemmas.Bool.{cases_lt}
use Rattle.std.proofs.Math.ListN.{drop_of_length-le}
use Rattle.salt_glob.specs.Globs.{Piece, star, more, pieces, takes, is_star, Matches, Glob, MatchesAt, MatchesLater, piece_at, bytes_taken}
use Rattle.salt_glob.proofs.Pieces.{pieces_at, hold_one, hold_rest, hold_nil, hold_star, hold_later, star_at, taking_no_star, taken_some, taken_none}

-- Where the search stands: the pattern and the text from `p` and `t` on, and where the last `*` lets it go on.
pub record Search (xs ts : List ℕ) (after from after' from' p t : ℕ) : Type 0 where
  pub last : from' ≤ t
  pub within : t ≤ length ts
  pub place : after' ≤ p
  pub bound : p ≤ length xs
  pub inner : after' < length xs
  pub sound : MatchesAt xs ts p t → MatchesLater xs ts after from
  pub later : (u : ℕ) → from' < u → MatchesAt xs ts after' u → MatchesLater xs ts after from
  pub complete : MatchesLater xs ts after from → MatchesAt xs ts p t ⊎ ((u : ℕ) × (from' < u) × MatchesAt xs ts after' u)
  -- what holds after the last `*` holds as many bytes later from `p` on
  pub shift : (u : ℕ) → MatchesAt xs ts after' u → MatchesAt xs ts p (u + (t - from'))

moved : (xs ts : List ℕ) (p u v : ℕ) → u ≡ v → MatchesAt xs ts p u → MatchesAt xs ts p v
moved xs ts p u v e h = subst (λ (n : ℕ). MatchesAt xs ts p n) e h

past : {f t u v : ℕ} → f ≤ t → f < u → u + (t - f) ≤ v → t ≤ v
past h k l = omega arith

one_more : (u t f : ℕ) → f ≤ t → u + (t - f) + 1 ≡ u + (t + 1 - f)
one_more u t f h = omega arith

next_le : {f u : ℕ} → f < u → f + 1 ≤ u
next_le h = omega arith

long_past : {n f t u : ℕ} → n ≤ t → f ≤ t → f < u → n ≤ u + (t - f)
long_past h k l = omega arith

never : (b : Bool) → b ≡ false → b ≡ true → ⊥
never b e f = cc

not_nil : (b : ℕ) (rest : List ℕ) → b ∷ rest ≡ [] → ⊥
not_nil b rest e = cc

-- at a place or after it
now_or_later : (xs ts : List ℕ) (p t u : ℕ) → t ≤ u → MatchesAt xs ts p u → MatchesAt xs ts p t ⊎ ((v : ℕ) × (t < v) × MatchesAt xs ts p v)
now_or_later xs ts p t u le h =
    elim (cases_lt t u) [ inl lt ↦ inr (u, lt, h) | inr ge ↦ inl (moved xs ts p u t (omega arith) h) ]

pub search_begin : (xs ts : List ℕ) (after from : ℕ) → after < length xs → from ≤ length ts → Search xs ts after from after from after from
search_begin xs ts after from a f = record {
  last = omega arith;
  within = f;
  place = omega arith;
  bound = omega arith;
  inner = a;
  sound = λ h. (from, omega arith, h);
  later = λ u lt h. (u, omega arith, h);
  complete = λ g. now_or_later xs ts after from g.0 g.1 g.2;
  shift = λ u h. moved xs ts after u (u + (from - from)) (omega arith) h;
}

star_pieces : (xs : List ℕ) (p : ℕ) → p < length xs → get_or xs p 0 ≡ 42 → pieces (drop p xs) ≡ star ∷ pieces (drop (p + 1) xs)
star_pieces xs p h e = pieces_at xs p h ∙ ap (λ (x : Piece). x ∷ pieces (drop (p + (more x + 1)) xs)) (star_at xs p e)

-- a `*` and what stands after it
pub star_later : (xs ts : List ℕ) (p t : ℕ) → p < length xs → get_or xs p 0 ≡ 42 → MatchesAt xs ts p t → MatchesLater xs ts (p + 1) t
star_later xs ts p t h e g =
    hold_later (pieces (drop (p + 1) xs)) ts t (subst (λ (ps : List Piece). Matches ps (drop t ts)) (star_pieces xs p h e) g)

pub later_star : (xs ts : List ℕ) (p t : ℕ) → p < length xs → get_or xs p 0 ≡ 42 → MatchesLater xs ts (p + 1) t → MatchesAt xs ts p t
later_star xs ts p t h e g =
    subst (λ (ps : List Piece). Matches ps (drop t ts)) (sym (star_pieces xs p h e)) (hold_star (pieces (drop (p + 1) xs)) ts t g.0 g.1 g.2)

pub search_star : (xs ts : List ℕ) (after from after' from' p t : ℕ) → p + 1 < length xs → get_or xs p 0 ≡ 42
    → Search xs ts after from after' from' p t → Search xs ts after from (p + 1) t (p + 1) t
search_star xs ts after from after' from' p t k e s = let h : p < length xs = omega arith in record {
  last = omega arith;
  within = s.within;
  place = omega arith;
  bound = omega arith;
  inner = k;
  sound = λ g. s.sound (later_star xs ts p t h e (t, omega arith, g));
  later = λ u lt g. s.sound (later_star xs ts p t h e (u, omega arith, g));
  complete = λ g. elim (s.complete g) [
    | inl here ↦ let l = star_later xs ts p t h e here in now_or_later xs ts (p + 1) t l.0 l.1 l.2
    | inr w ↦ let l = star_later xs ts p (w.0 + (t - from')) h e (s.shift w.0 w.2) in now_or_later xs ts (p + 1) t l.0 (past s.last w.1 l.1) l.2
  ];
  shift = λ u g. moved xs ts (p + 1) u (u + (t - t)) (omega arith) g;
}

-- a piece that takes the byte
one_pieces : (xs : List ℕ) (p b n : ℕ) → p < length xs → bytes_taken (piece_at xs p) b ≡ Some n → pieces (drop p xs) ≡ piece_at xs p ∷ pieces (drop (p + n) xs)
one_pieces xs p b n h e =
    pieces_at xs p h ∙ ap (λ (k : ℕ). piece_at xs p ∷ pieces (drop (p + k) xs)) (taken_some (piece_at xs p) b n e).1

pub one_back : (xs ts : List ℕ) (p t n : ℕ) → p < length xs → t < length ts → bytes_taken (piece_at xs p) (get_or ts t 0) ≡ Some n
    → MatchesAt xs ts (p + n) (t + 1) → MatchesAt xs ts p t
one_back xs ts p t n h k e g =
    let x = piece_at xs p in
    let ps = pieces (drop (p + n) xs) in
    subst (λ (qs : List Piece). Matches qs (drop t ts)) (sym (one_pieces xs p (get_or ts t 0) n h e))
    (subst (Matches (x ∷ ps)) (sym (drop_more ts t 0 k)) (hold_one x ps (get_or ts t 0) (drop (t + 1) ts) (taken_some x (get_or ts t 0) n e).0 g))

-- wherever such a piece holds, those after it hold one byte later
pub one_forth : (xs ts : List ℕ) (p t n b : ℕ) → p < length xs → bytes_taken (piece_at xs p) b ≡ Some n
    → MatchesAt xs ts p t → MatchesAt xs ts (p + n) (t + 1)
one_forth xs ts p t n b h e g = elim (cases_lt t (length ts)) [
  | inl k ↦ (hold_rest (piece_at xs p) (pieces (drop (p + n) xs)) (get_or ts t 0) (drop (t + 1) ts) (taking_no_star (piece_at xs p) b (taken_some (piece_at xs p) b n e).0)
      (subst (Matches (piece_at xs p ∷ pieces (drop (p + n) xs))) (drop_more ts t 0 k) (subst (λ (qs : List Piece). Matches qs (drop t ts)) (one_pieces xs p b n h e) g))).1
  | inr k ↦ absurd (hold_nil (piece_at xs p) (pieces (drop (p + n) xs)) (taking_no_star (piece_at xs p) b (taken_some (piece_at xs p) b n e).0)
      (subst (Matches (piece_at xs p ∷ pieces (drop (p + n) xs))) (drop_of_length-le ts k) (subst (λ (qs : List Piece). Matches qs (drop t ts)) (one_pieces xs p b n h e) g)))
]

pub search_one : (xs ts : List ℕ) (after from after' from' p t n : ℕ) → p < length xs → t < length ts → bytes_taken (piece_at xs p) (get_or ts t 0) ≡ Some n → p + n ≤ length xs
    → Search xs ts after from after' from' p t → Search xs ts after from after' from' (p + n) (t + 1)
search_one xs ts after from after' from' p t n h k e w s =
    let le = s.last in
    let pl = s.place in record {
      last = omega arith;
      within = omega arith;
      place = omega arith;
      bound = w;
      inner = s.inner;
      sound = λ g. s.sound (one_back xs ts p t n h k e g);
      later = s.later;
      complete = λ g. elim (s.complete g) [ inl here ↦ inl (one_forth xs ts p t n (get_or ts t 0) h e here) | inr v ↦ inr v ];
      shift = λ u g. moved xs ts (p + n) (u + (t - from') + 1) (u + (t + 1 - from')) (one_more u t from' le) (one_forth xs ts p (u + (t - from')) n (get_or ts t 0) h e (s.shift u g));
    }

-- nothing that stands there takes the byte
pub none_holds : (xs ts : List ℕ) (p t : ℕ) → t < length ts → (p < length xs → is_star (piece_at xs p) ≡ false) → (p < length xs → bytes_taken (piece_at xs p) (get_or ts t 0) ≡ None)
    → MatchesAt xs ts p t → ⊥
none_holds xs ts p t k single none g = elim (cases_lt p (length xs)) [
  | inl h ↦ let r = hold_rest (piece_at xs p) (pieces (drop (p + (more (piece_at xs p) + 1)) xs)) (get_or ts t 0) (drop (t + 1) ts) (single h)
      (subst (Matches (piece_at xs p ∷ pieces (drop (p + (more (piece_at xs p) + 1)) xs))) (drop_more ts t 0 k) (subst (λ (qs : List Piece). Matches qs (drop t ts)) (pieces_at xs p h) g)) in
      never (takes (piece_at xs p) (get_or ts t 0)) (taken_none (piece_at xs p) (get_or ts t 0) (none h)) r.0
  | inr h ↦ not_nil (get_or ts t 0) (drop (t + 1) ts) (sym (drop_more ts t 0 k) ∙ subst (λ (ys : List ℕ). Glob ys (drop t ts)) (drop_of_length-le xs h) g)
]

pub search_none : (xs ts : List ℕ) (after from after' from' p t : ℕ) → t < length ts → (MatchesAt xs ts p t → ⊥)
    → Search xs ts after from after' from' p t → Search xs ts after from after' (from' + 1) after' (from' + 1)
search_none xs ts after from after' from' p t k none s =
    let le = s.last in
    let pl = s.place in
    let bo = s.bound in record {
      last = omega arith;
      within = omega arith;
      place = omega arith;
      bound = omega arith;
      inner = s.inner;
      sound = λ g. s.later (from' + 1) (omega arith) g;
      later = λ u lt g. s.later u (omega arith) g;
      complete = λ g. elim (s.complete g) [
        | inl here ↦ absurd (none here)
        | inr v ↦ now_or_later xs ts after' (from' + 1) v.0 (next_le v.1) v.2
      ];
      shift = λ u g. moved xs ts after' u (u + (from' + 1 - (from' + 1))) (omega arith) g;
    }

-- up to a later place nothing holds after the last `*`
pub search_skip : (xs ts : List ℕ) (after from a f u : ℕ) → f ≤ u → u ≤ length ts → ((v : ℕ) → f ≤ v → v < u → MatchesAt xs ts a v → ⊥)
    → Search xs ts after from a f a f → Search xs ts after from a u a u
search_skip xs ts after from a f u le within none s = record {
  last = omega arith;
  within = within;
  place = omega arith;
  bound = s.bound;
  inner = s.inner;
  sound = λ g. at_start (cases_lt f u) g;
  later = λ v lt g. s.later v (omega arith) g;
  complete = λ g. elim (s.complete g) [
    | inl here ↦ later f (omega arith) here (cases_lt f u)
    | inr w ↦ later w.0 (below w.1) w.2 (cases_lt w.0 u)
  ];
  shift = λ v g. moved xs ts a v (v + (u - u)) (omega arith) g;
} where
  below : {m n : ℕ} → m < n → m ≤ n
  below h = omega arith

  at_start : ((f < u) ⊎ (u ≤ f)) → MatchesAt xs ts a u → MatchesLater xs ts after from
  at_start (inl lt) g = s.later u lt g
  at_start (inr ge) g = let e : u ≡ f = omega arith in s.sound (moved xs ts a u f e g)

  later : (w : ℕ) → f ≤ w → MatchesAt xs ts a w → ((w < u) ⊎ (u ≤ w)) → MatchesAt xs ts a u ⊎ ((v : ℕ) × (u < v) × MatchesAt xs ts a v)
  later w h g (inl lt) = absurd (none w h lt g)
  later w h g (inr ge) = now_or_later xs ts a u w ge g

-- nothing holds after the last `*` at all
pub search_stop : (xs ts : List ℕ) (after from a f : ℕ) → ((v : ℕ) → f ≤ v → MatchesAt xs ts a v → ⊥) → Search xs ts after from a f a f → MatchesLater xs ts after from → ⊥
search_stop xs ts after from a f none s g = elim (s.complete g) [ inl here ↦ none f (omega arith) here | inr w ↦ none w.0 (below w.1) w.2 ] where
  below : {m n : ℕ} → m < n → m ≤ n
  below h = omega arith

-- at the end of the text
ended : (xs ts : List ℕ) (p u : ℕ) → length ts ≤ u → MatchesAt xs ts p u → Glob (drop p xs) []
ended xs ts p u h g = subst (Glob (drop p xs)) (drop_of_length-le ts h) g

pub search_sound : (xs ts : List ℕ) (after from after' from' p t : ℕ) → length ts ≤ t → Search xs ts after from after' from' p t
    → Glob (drop p xs) [] → MatchesLater xs ts after from
search_sound xs ts after from after' from' p t h s g = s.sound (subst (Glob (drop p xs)) (sym (drop_of_length-le ts h)) g)

pub search_complete : (xs ts : List ℕ) (after from after' from' p t : ℕ) → length ts ≤ t → Search xs ts after from after' from' p t
    → MatchesLater xs ts after from → Glob (drop p xs) []
search_complete xs ts after from after' from' p t h s g = elim (s.complete g) [
  | inl here ↦ ended xs ts p t h here
  | inr v ↦ ended xs ts p (v.0 + (t - from')) (long_past h s.last v.1) (s.shift v.0 v.2)
]

-- a `*` that ends the pattern holds for all that is left
pub all_later : (xs ts : List ℕ) (after from : ℕ) → length xs ≤ after → from ≤ length ts → MatchesLater xs ts after from
all_later xs ts after from k h =
    (length ts, h, subst (λ (ys : List ℕ). Glob ys (drop (length ts) ts)) (sym (drop_of_length-le xs k)) (drop_of_length-le ts (omega arith)))

pub search_all : (xs ts : List ℕ) (after from after' from' p t : ℕ) → p < length xs → get_or xs p 0 ≡ 42 → length xs ≤ p + 1
    → Search xs ts after from after' from' p t → MatchesLater xs ts after from
search_all xs ts after from after' from' p t h e k s = s.sound (later_star xs ts p t h e (all_later xs ts (p + 1) t k s.within))
