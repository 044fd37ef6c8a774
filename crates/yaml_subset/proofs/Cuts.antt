-- Where an entry's own lines end.
use Rattle.std.proofs.Common.{◌≡◌, ℕ, suc, ◌+◌, ◌≤◌, Bool, true, false, not, cond, List, [], ◌∷◌, take, drop, length, refl, arith}
use Rattle.std.specs.Prelude.{None, Some, position, nat_lt}
use Rattle.std.specs.List.{position_or_len}
use Rattle.std.proofs.lemmas.List.Sums.{prefix_len-le-length}
use Rattle.yaml_subset.specs.declared.rows.Line.{Line}
use Rattle.yaml_subset.specs.Rows.{IndentedLine, indented_line, indented_lines, entries, further}

some_place : (n m at : ℕ) → cond (nat_lt n m) (Some n) None ≡ Some at → n ≡ at
some_place n m at e = grind arith

no_place : (n m : ℕ) → cond (nat_lt n m) (Some n) None ≡ None → m ≤ n
no_place n m e = grind arith

-- the first entry and the others, where its own lines end so late
abbrev Cut : (IndentedLine → Bool) → IndentedLine → List Line → ℕ → Type 0
Cut begins head ls at =
    entries begins head (indented_lines ls) ≡ record { head = head; own = indented_lines (take at ls) } ∷ further begins (indented_lines (drop at ls))

cut_step : (begins : IndentedLine → Bool) (head : IndentedLine) (l : Line) (ls : List Line) (b : Bool) (n : ℕ) → begins (indented_line l) ≡ b → Cut begins head ls n → Cut begins head (l ∷ ls) (cond (not b) (1 + n) 0)
cut_step begins head l ls true n e ih = rw e refl
cut_step begins head l ls false n e ih =
    let one : 1 + n ≡ suc n = omega arith in
    rw (e, ih, one) refl

cut_here : (begins : IndentedLine → Bool) (head : IndentedLine) (ls : List Line) → Cut begins head ls (position_or_len (λ l. begins (indented_line l)) ls)
cut_here begins head [] = refl
cut_here begins head (l ∷ ls) = cut_step begins head l ls (begins (indented_line l)) (position_or_len (λ l. begins (indented_line l)) ls) refl (cut_here begins head ls)

pub cut_some : (begins : IndentedLine → Bool) (head : IndentedLine) (ls : List Line) (at : ℕ) → position (λ l. begins (indented_line l)) ls ≡ Some at → Cut begins head ls at
cut_some begins head ls at e = rw (← some_place _ (length ls) at e) (cut_here begins head ls)

pub cut_none : (begins : IndentedLine → Bool) (head : IndentedLine) (ls : List Line) → position (λ l. begins (indented_line l)) ls ≡ None → Cut begins head ls (length ls)
cut_none begins head ls e =
    let low : length ls ≤ position_or_len (λ l. begins (indented_line l)) ls = no_place _ (length ls) e in
    let high = prefix_len-le-length (λ l. not (begins (indented_line l))) ls in
    let same : position_or_len (λ l. begins (indented_line l)) ls ≡ length ls = omega (arith, low, high) in
    rw (← same) (cut_here begins head ls)
