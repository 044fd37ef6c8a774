-- The four lines of the top.
use Rattle.std.proofs.Common.{◌≡◌, ℕ, List, [], ◌∷◌, ◌++◌, refl, sym, ap, ◌∙◌, lit<, lit≤}
use Rattle.std.specs.Prelude.{codes}
use Rattle.script_text.specs.Lines.{lines_of, LacksFirst}
use Rattle.script_text.specs.Script.{IsName, id_line, fleet_lines}
use Rattle.script_text.specs.Refusals.{GoesOn, IsRefusedAt}
use Rattle.script_text.proofs.Peel.{tails}
use Rattle.script_text.proofs.Follow.{fleet_goes}
use Rattle.script_text.proofs.Ids.{one_name}
use Rattle.script_text.proofs.Refusals.{refused_next, goes_before}

some_top : IsName (codes "a")
some_top = ((lit< tt, lit≤ tt, refl), refl)

-- the front of the lines of a top goes on
front_goes : (top : List ℕ) → IsName top → (front rest : List (List ℕ)) → front ++ rest ≡ fleet_lines top [] → GoesOn front
front_goes top name front rest e = goes_before front rest (fleet_lines top []) e (fleet_goes top [] (one_name top name))

abbrev Lacks_line : (List ℕ → Type 0) → List (List ℕ) → Type 0
Lacks_line Fits lines = (line : List ℕ) (tail : List (List ℕ)) → Fits line → lines ≡ line ∷ tail → ⊥

fixed : (word : List ℕ) (lines : List (List ℕ)) → LacksFirst word lines → Lacks_line (λ line. line ≡ word) lines
fixed word lines not = λ line tail f e. not tail (e ∙ ap (λ l. l ∷ tail) f)

pub no_fleet : (text : List ℕ) → LacksFirst (codes "%fleet") (lines_of text) → IsRefusedAt 1 text
no_fleet text not =
    refused_next text [] (lines_of text) 1 (λ line. line ≡ codes "%fleet") refl refl (front_goes (codes "a") some_top [] _ refl)
    (λ s is rest e. (codes "%fleet", refl, (_, e))) (fixed (codes "%fleet") (lines_of text) not)

pub no_nodes : (text : List ℕ) (lines : List (List ℕ)) → lines_of text ≡ codes "%fleet" ∷ lines
    → LacksFirst (codes "nodes:") lines → IsRefusedAt 2 text
no_nodes text lines h not =
    refused_next text (codes "%fleet" ∷ []) lines 2 (λ line. line ≡ codes "nodes:") (sym h) refl (front_goes (codes "a") some_top (codes "%fleet" ∷ []) _ refl)
    (λ s is rest e. (codes "nodes:", refl, (_, tails _ _ _ _ e))) (fixed (codes "nodes:") lines not)

abbrev IsIdLine : List ℕ → Type 0
IsIdLine line = (id : List ℕ) × IsName id × (line ≡ id_line id)

pub no_id : (text : List ℕ) (lines : List (List ℕ)) → lines_of text ≡ codes "%fleet" ∷ codes "nodes:" ∷ lines
    → ((id : List ℕ) (more : List (List ℕ)) → IsName id → lines ≡ id_line id ∷ more → ⊥) → IsRefusedAt 3 text
no_id text lines h not =
    refused_next text (codes "%fleet" ∷ codes "nodes:" ∷ []) lines 3 IsIdLine (sym h) refl
    (front_goes (codes "a") some_top (codes "%fleet" ∷ codes "nodes:" ∷ []) _ refl)
    (λ s is rest e. (id_line s.top, (s.top, is.ids.names.0, refl), (_, tails _ _ _ _ (tails _ _ _ _ e))))
    (λ line tail f e. not f.0 tail f.1 (e ∙ ap (λ l. l ∷ tail) f.2))

pub no_role : (text top : List ℕ) (lines : List (List ℕ)) → IsName top → lines_of text ≡ codes "%fleet" ∷ codes "nodes:" ∷ id_line top ∷ lines
    → LacksFirst (codes "  role: top") lines → IsRefusedAt 4 text
no_role text top lines name h not =
    refused_next text (codes "%fleet" ∷ codes "nodes:" ∷ id_line top ∷ []) lines 4 (λ line. line ≡ codes "  role: top") (sym h) refl
    (front_goes top name (codes "%fleet" ∷ codes "nodes:" ∷ id_line top ∷ []) _ refl)
    (λ s is rest e. (codes "  role: top", refl, (_, tails _ _ _ _ (tails _ _ _ _ (tails _ _ _ _ e)))))
    (fixed (codes "  role: top") lines not)
