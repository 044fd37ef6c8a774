-- The pieces of a pattern at a place, and what they hold for.
use Rattle.std.proofs.Common.{◌≡◌, ℕ, zero, suc, ◌+◌, ◌-◌, ◌<◌, ◌≤◌, ◌==◌, ◌++◌, ◌⊎◌, inl, inr, Bool, true, false, ◌&&◌, ◌||◌, List, [], ◌∷◌, length, take, drop, get_or, refl, sym, ap, ◌∙◌, subst, arith}
use Rattle.std.specs.Prelude.{if◌then◌else◌, Option, None, Some}
use Rattle.std.specs.List.{list_all}
use Rattle.std.proofs.lemmas.List.{drop_more, take-append-drop}
use Rattle.std.proofs.lemmas.Bool.Decides.{nat_tests}
use Rattle.std.proofs.Math.Seq.{drop-append_seam}
use Rattle.salt_glob.specs.Classes.{Class, class_of, in_class}
use Rattle.salt_glob.specs.Globs.{Piece, star, any, set, plain, class_piece, piece, more, pieces_after, pieces, takes, is_star, Matches, Glob, piece_at, bytes_taken, is_match, some_suffix, after_first}
use Rattle.salt_glob.proofs.Lists.{drop_add}

pub pieces_after-drop : (k : ℕ) (p : List ℕ) → pieces_after k p ≡ pieces (drop k p)
pieces_after-drop zero p = refl
pieces_after-drop (suc k) [] = refl
pieces_after-drop (suc k) (b ∷ p) = pieces_after-drop k p

place : (i m : ℕ) → i + 1 + m ≡ i + (m + 1)
place i m = omega arith

-- the front piece of what is left of a pattern, and the pieces after it
pub pieces_at : (xs : List ℕ) (i : ℕ) → i < length xs → pieces (drop i xs) ≡ piece_at xs i ∷ pieces (drop (i + (more (piece_at xs i) + 1)) xs)
pieces_at xs i h =
    ap pieces (drop_more xs i 0 h)
    ∙ ap (λ (ps : List Piece). piece_at xs i ∷ ps) (pieces_after-drop (more (piece_at xs i)) (drop (i + 1) xs)
    ∙ ap pieces (drop_add xs (i + 1) (more (piece_at xs i)) ∙ ap (λ (n : ℕ). drop n xs) (place i (more (piece_at xs i)))))

same_byte : (a b : ℕ) → (a == b) ≡ true → a ≡ b
same_byte a b e = grind (arith, nat_tests)

byte_same : (a b : ℕ) → a ≡ b → (a == b) ≡ true
byte_same a b e = grind (arith, nat_tests)

-- a piece that takes the first byte leaves the rest
pub hold_one : (x : Piece) (ps : List Piece) (b : ℕ) (rest : List ℕ) → takes x b ≡ true → Matches ps rest → Matches (x ∷ ps) (b ∷ rest)
hold_one star ps b rest e h = absurd cc
hold_one any ps b rest e h = (b, rest, refl, h)
hold_one (set c) ps b rest e h = (b, rest, refl, e, h)
hold_one (plain y) ps b rest e h = (rest, ap (λ (n : ℕ). n ∷ rest) (same_byte b y e), h)

-- and no other piece but `*` holds there
pub hold_rest : (x : Piece) (ps : List Piece) (b : ℕ) (rest : List ℕ) → is_star x ≡ false → Matches (x ∷ ps) (b ∷ rest) → (takes x b ≡ true) × Matches ps rest
hold_rest star ps b rest s h = absurd cc
hold_rest any ps b rest s h =
    let e = h.2 in let same : h.1 ≡ rest = cc in
    (refl, subst (Matches ps) same h.3)
hold_rest (set c) ps b rest s h =
    let e = h.2 in let same : h.1 ≡ rest = cc in let byte : h.0 ≡ b = cc in
    (ap (λ (n : ℕ). in_class n c) (sym byte) ∙ h.3, subst (Matches ps) same h.4)
hold_rest (plain y) ps b rest s h =
    let e = h.1 in let same : h.0 ≡ rest = cc in let byte : b ≡ y = cc in
    (byte_same b y byte, subst (Matches ps) same h.2)

pub hold_nil : (x : Piece) (ps : List Piece) → is_star x ≡ false → Matches (x ∷ ps) [] → ⊥
hold_nil star ps s h = cc
hold_nil any ps s h = let e = h.2 in cc
hold_nil (set c) ps s h = let e = h.2 in cc
hold_nil (plain y) ps s h = let e = h.1 in cc

-- `*` leaves what is left from a later place on
pub hold_star : (ps : List Piece) (ts : List ℕ) (t u : ℕ) → t ≤ u → Matches ps (drop u ts) → Matches (star ∷ ps) (drop t ts)
hold_star ps ts t u le h =
    let back : t + (u - t) ≡ u = omega arith in (
      take (u - t) (drop t ts),
      drop (u - t) (drop t ts),
      sym (take-append-drop (u - t) (drop t ts)),
      subst (Matches ps) (sym (drop_add ts t (u - t) ∙ ap (λ (n : ℕ). drop n ts) back)) h,
    )

pub hold_later : (ps : List Piece) (ts : List ℕ) (t : ℕ) → Matches (star ∷ ps) (drop t ts) → (u : ℕ) × (t ≤ u) × Matches ps (drop u ts)
hold_later ps ts t h =
    let n = length h.0 in
    let left : h.1 ≡ drop (t + n) ts = sym (drop-append_seam h.0 h.1) ∙ ap (drop n) (sym h.2) ∙ drop_add ts t n in
    (t + n, omega arith, subst (Matches ps) left h.3)

-- a byte `*` alone is the piece `*`
class_not_star : (o : Option Class) → is_star (class_piece o) ≡ false
class_not_star None = refl
class_not_star (Some c) = refl

by_tests : (s q c : Bool) (b : ℕ) (o : Option Class) → is_star (if s then star else (if q then any else (if c then class_piece o else plain b))) ≡ s
by_tests true q c b o = refl
by_tests false true c b o = refl
by_tests false false true b o = class_not_star o
by_tests false false false b o = refl

pub piece_star : (b : ℕ) (rest : List ℕ) → is_star (piece b rest) ≡ (b == 42)
piece_star b rest = by_tests (b == 42) (b == 63) (b == 91) b (class_of rest)

star_of : (x : Piece) → is_star x ≡ true → x ≡ star
star_of star e = refl
star_of any e = absurd cc
star_of (set c) e = absurd cc
star_of (plain y) e = absurd cc

pub star_at : (xs : List ℕ) (i : ℕ) → get_or xs i 0 ≡ 42 → piece_at xs i ≡ star
star_at xs i e = star_of (piece_at xs i) (piece_star (get_or xs i 0) (drop (i + 1) xs) ∙ byte_same (get_or xs i 0) 42 e)

not_same : (b : ℕ) → (b ≡ 42 → ⊥) → (b == 42) ≡ false
not_same b h = grind (arith, nat_tests)

pub not_star_at : (xs : List ℕ) (i : ℕ) → (get_or xs i 0 ≡ 42 → ⊥) → is_star (piece_at xs i) ≡ false
not_star_at xs i h = piece_star (get_or xs i 0) (drop (i + 1) xs) ∙ not_same (get_or xs i 0) h

pub taking_no_star : (x : Piece) (b : ℕ) → takes x b ≡ true → is_star x ≡ false
taking_no_star star b e = absurd cc
taking_no_star any b e = refl
taking_no_star (set c) b e = refl
taking_no_star (plain y) b e = refl

some_of : (c : Bool) (m n : ℕ) → (if c then Some m else None) ≡ Some n → (c ≡ true) × (m ≡ n)
some_of true m n e = (refl, cc)
some_of false m n e = absurd cc

none_of : (c : Bool) (m : ℕ) → (if c then Some m else None) ≡ None → c ≡ false
none_of true m e = absurd cc
none_of false m e = refl

pub taken_some : (x : Piece) (b n : ℕ) → bytes_taken x b ≡ Some n → (takes x b ≡ true) × (more x + 1 ≡ n)
taken_some x b n e = some_of (takes x b) (more x + 1) n e

pub taken_none : (x : Piece) (b : ℕ) → bytes_taken x b ≡ None → takes x b ≡ false
taken_none x b e = none_of (takes x b) (more x + 1) e

-- a pattern holds for the empty text where it is stars alone
star_first : (b : ℕ) (xs : List ℕ) → b ≡ 42 → pieces (b ∷ xs) ≡ star ∷ pieces xs
star_first b xs e = rw e refl

hold_star_nil : (ps : List Piece) → Matches ps [] → Matches (star ∷ ps) []
hold_star_nil ps h = ([], [], refl, h)

nil_end : (before after : List ℕ) → before ++ after ≡ [] → after ≡ []
nil_end [] after e = e
nil_end (b ∷ before) after e = absurd cc

star_nil_hold : (ps : List Piece) → Matches (star ∷ ps) [] → Matches ps []
star_nil_hold ps h = subst (Matches ps) (nil_end h.0 h.1 (sym h.2)) h.3

and_first : (a b : Bool) → (a && b) ≡ true → a ≡ true
and_first a b e = grind arith

and_second : (a b : Bool) → (a && b) ≡ true → b ≡ true
and_second a b e = grind arith

and_both : (a b : Bool) → a ≡ true → b ≡ true → (a && b) ≡ true
and_both a b e f = grind arith

pub stars_hold : (xs : List ℕ) → list_all (λ b. b == 42) xs ≡ true → Glob xs []
stars_hold [] e = refl
stars_hold (b ∷ xs) e =
    subst (λ (ps : List Piece). Matches ps []) (sym (star_first b xs (same_byte b 42 (and_first _ _ e))))
    (hold_star_nil (pieces xs) (stars_hold xs (and_second _ _ e)))

hold_stars_of : (b : ℕ) (xs : List ℕ) (s : Bool) → (b == 42) ≡ s → (Glob xs [] → list_all (λ c. c == 42) xs ≡ true) → Glob (b ∷ xs) [] → list_all (λ c. c == 42) (b ∷ xs) ≡ true
hold_stars_of b xs true e ih h =
    and_both (b == 42) _ e (ih (star_nil_hold (pieces xs) (subst (λ (ps : List Piece). Matches ps []) (star_first b xs (same_byte b 42 e)) h)))
hold_stars_of b xs false e ih h = absurd (hold_nil (piece b xs) _ (piece_star b xs ∙ e) h)

pub hold_stars : (xs : List ℕ) → Glob xs [] → list_all (λ b. b == 42) xs ≡ true
hold_stars [] h = refl
hold_stars (b ∷ xs) h = hold_stars_of b xs (b == 42) refl (hold_stars xs) h

-- the relation as a function
or_cases : (a b : Bool) → (a || b) ≡ true → (a ≡ true) ⊎ (b ≡ true)
or_cases true b e = inl refl
or_cases false b e = inr e

suffix_hold : (ps : List Piece) (f : List ℕ → Bool) → ((ts : List ℕ) → f ts ≡ true → Matches ps ts) → (ts : List ℕ) → some_suffix f ts ≡ true → Matches (star ∷ ps) ts
suffix_hold ps f h [] e = ([], [], refl, h [] e)
suffix_hold ps f h (b ∷ ts) e = elim (or_cases (f (b ∷ ts)) (some_suffix f ts) e) [
  | inl first ↦ ([], b ∷ ts, refl, h (b ∷ ts) first)
  | inr later ↦ let g = suffix_hold ps f h ts later in (b ∷ g.0, g.1, ap (λ (xs : List ℕ). b ∷ xs) g.2, g.3)
]

or_of_first : (a b : Bool) → a ≡ true → (a || b) ≡ true
or_of_first a b e = grind arith

or_of_second : (a b : Bool) → b ≡ true → (a || b) ≡ true
or_of_second a b e = grind arith

hold_suffix : (ps : List Piece) (f : List ℕ → Bool) → ((ts : List ℕ) → Matches ps ts → f ts ≡ true) → (before after : List ℕ) → Matches ps after → some_suffix f (before ++ after) ≡ true
hold_suffix ps f h [] [] g = h [] g
hold_suffix ps f h [] (b ∷ after) g = or_of_first (f (b ∷ after)) _ (h (b ∷ after) g)
hold_suffix ps f h (b ∷ before) after g = or_of_second (f ((b ∷ before) ++ after)) _ (hold_suffix ps f h before after g)

one_holds : (x : Piece) (ps : List Piece) (f : List ℕ → Bool) → ((ts : List ℕ) → f ts ≡ true → Matches ps ts) → (ts : List ℕ) → after_first x f ts ≡ true → Matches (x ∷ ps) ts
one_holds x ps f h [] e = absurd cc
one_holds x ps f h (b ∷ ts) e = hold_one x ps b ts (and_first _ _ e) (h ts (and_second _ _ e))

holds_one : (x : Piece) (ps : List Piece) (f : List ℕ → Bool) → is_star x ≡ false → ((ts : List ℕ) → Matches ps ts → f ts ≡ true) → (ts : List ℕ) → Matches (x ∷ ps) ts → after_first x f ts ≡ true
holds_one x ps f s h [] g = absurd (hold_nil x ps s g)
holds_one x ps f s h (b ∷ ts) g = let r = hold_rest x ps b ts s g in and_both (takes x b) (f ts) r.0 (h ts r.1)

pub held_hold : (ps : List Piece) (ts : List ℕ) → is_match ps ts ≡ true → Matches ps ts
unfolding is_match
held_hold [] [] e = refl
held_hold [] (b ∷ ts) e = absurd cc
held_hold (star ∷ ps) ts e = suffix_hold ps (is_match ps) (held_hold ps) ts e
held_hold (any ∷ ps) ts e = one_holds any ps (is_match ps) (held_hold ps) ts e
held_hold (set c ∷ ps) ts e = one_holds (set c) ps (is_match ps) (held_hold ps) ts e
held_hold (plain y ∷ ps) ts e = one_holds (plain y) ps (is_match ps) (held_hold ps) ts e

pub hold_held : (ps : List Piece) (ts : List ℕ) → Matches ps ts → is_match ps ts ≡ true
unfolding is_match
hold_held [] [] h = refl
hold_held [] (b ∷ ts) h = absurd cc
hold_held (star ∷ ps) ts h = ap (some_suffix (is_match ps)) h.2 ∙ hold_suffix ps (is_match ps) (hold_held ps) h.0 h.1 h.3
hold_held (any ∷ ps) ts h = holds_one any ps (is_match ps) refl (hold_held ps) ts h
hold_held (set c ∷ ps) ts h = holds_one (set c) ps (is_match ps) refl (hold_held ps) ts h
hold_held (plain y ∷ ps) ts h = holds_one (plain y) ps (is_match ps) refl (hold_held ps) ts h

bool_of : (a b : Bool) → (a ≡ true → b ≡ true) → (b ≡ true → a ≡ true) → a ≡ b
bool_of true b f g = sym (f refl)
bool_of false true f g = g refl
bool_of false false f g = refl

-- what tells the relation is the function
pub told_held : (r : Bool) (ps : List Piece) (ts : List ℕ) → (r ≡ true → Matches ps ts) → (Matches ps ts → r ≡ true) → r ≡ is_match ps ts
told_held r ps ts f g = bool_of r (is_match ps ts) (λ e. hold_held ps ts (f e)) (λ e. g (held_hold ps ts e))
