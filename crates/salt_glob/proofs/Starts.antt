-- Where what stands after a `*` may begin: where its first byte stands.
use Rattle.std.proofs.Common.{◌≡◌, ◌≢◌, ℕ, ◌+◌, ◌<◌, ◌≤◌, ◌==◌, Bool, false, inl, inr, List, ◌∷◌, length, drop, get_or, sym, ap, ◌∙◌, subst, arith}
use Rattle.std.specs.Prelude.{if◌then◌else◌, Option, None, Some, IfSome, IfNone}
use Rattle.std.proofs.lemmas.Bool.{cases_lt}
use Rattle.std.proofs.lemmas.Bool.Decides.{nat_tests}
use Rattle.std.proofs.Math.ListN.{drop_of_length-le}
use Rattle.salt_glob.specs.Globs.{Piece, plain, more, pieces, is_star, Matches, MatchesAt, piece_at, bytes_taken}
use Rattle.salt_glob.proofs.Pieces.{pieces_at, hold_nil}
use Rattle.salt_glob.proofs.Searches.{none_holds}
use Rattle.salt_glob.proofs.Fronts.{other_piece}

differ : (a b : ℕ) → a ≢ b → (a == b) ≡ false
differ a b h = grind (arith, nat_tests)

plain_takes_none : (x b : ℕ) → b ≢ x → bytes_taken (plain x) b ≡ None
plain_takes_none x b h = ap (λ (c : Bool). if c then Some (0 + 1) else None) (differ b x h)

-- a byte that stands for itself holds at no place where it does not stand
pub no_start : (xs ts : List ℕ) (p u : ℕ) → p < length xs → get_or xs p 0 ≢ 42 → get_or xs p 0 ≢ 63 → get_or xs p 0 ≢ 91 → (u < length ts → get_or ts u 0 ≢ get_or xs p 0)
    → MatchesAt xs ts p u → ⊥
no_start xs ts p u h s q c other g =
    let x = get_or xs p 0 in
    let same : piece_at xs p ≡ plain x = other_piece x (drop (p + 1) xs) s q c in
    let single : is_star (piece_at xs p) ≡ false = ap is_star same in
    elim (cases_lt u (length ts)) [
      | inl k ↦ none_holds xs ts p u k (λ _. single) (λ _. ap (λ (y : Piece). bytes_taken y (get_or ts u 0)) same ∙ plain_takes_none x (get_or ts u 0) (other k)) g
      | inr k ↦ hold_nil (piece_at xs p) (pieces (drop (p + (more (piece_at xs p) + 1)) xs)) single
          (subst (Matches (piece_at xs p ∷ pieces (drop (p + (more (piece_at xs p) + 1)) xs))) (drop_of_length-le ts k) (subst (λ (ps : List Piece). Matches ps (drop u ts)) (pieces_at xs p h) g))
    ]

pub start_some : (xs ts : List ℕ) (p from b : ℕ) (r : Option ℕ) → p < length xs → b ≡ get_or xs p 0 → b ≢ 42 → b ≢ 63 → b ≢ 91
    → IfSome r (λ n. (from ≤ n) × (n < length ts) × ((k : ℕ) → from ≤ k → k < n → get_or ts k 0 ≢ b))
    → IfSome r (λ n. (from ≤ n) × (n ≤ length ts) × ((u : ℕ) → from ≤ u → u < n → MatchesAt xs ts p u → ⊥))
start_some xs ts p from b None h e s q c f = tt
start_some xs ts p from b (Some n) h e s q c f =
    (f.0, omega (arith, f.1), λ u le lt. no_start xs ts p u h (λ i. s (e ∙ i)) (λ i. q (e ∙ i)) (λ i. c (e ∙ i)) (λ _ i. f.2 u le lt (i ∙ sym e)))

pub start_none : (xs ts : List ℕ) (p from b : ℕ) (r : Option ℕ) → p < length xs → b ≡ get_or xs p 0 → b ≢ 42 → b ≢ 63 → b ≢ 91
    → IfNone r ((k : ℕ) → from ≤ k → k < length ts → get_or ts k 0 ≢ b) → IfNone r ((u : ℕ) → from ≤ u → MatchesAt xs ts p u → ⊥)
start_none xs ts p from b (Some n) h e s q c f = tt
start_none xs ts p from b None h e s q c f =
    λ u le. no_start xs ts p u h (λ i. s (e ∙ i)) (λ i. q (e ∙ i)) (λ i. c (e ∙ i)) (λ k i. f u le k (i ∙ sym e))
