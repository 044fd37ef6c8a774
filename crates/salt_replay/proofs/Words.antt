-- The words of a command.
use Rattle.std.proofs.Common.{◌≡◌, ◌↔◌, ℕ, ◌<◌, ◌≤◌, ◌∙◌, sym, ap, List, [], ◌∷◌, length, get_or, arith}

-- a list of one is told by its one element
pub one_word : (words : List (List ℕ)) (w k : List ℕ) (P : Type 0) → 1 ≤ length words → length words < 2 → w ≡ get_or words 0 w
    → (P ↔ (w ≡ k)) → (P ↔ (words ≡ k ∷ []))
one_word [] w k P low high e h = absurd (omega arith)
one_word (x ∷ []) w k P low high e h =
    (λ p. ap (λ y. y ∷ []) (sym e ∙ h.0 p), λ q. h.1 (e ∙ ap (λ ws. get_or ws 0 w) q))
one_word (x ∷ y ∷ ys) w k P low high e h = absurd (omega arith)
