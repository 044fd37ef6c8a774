-- The line at which a text is refused.
use Rattle.std.proofs.Common.{◌≡◌, ℕ, ◌+◌, ◌-◌, ◌<◌, ◌≤◌, List, [], ◌∷◌, ◌++◌, take, length, refl, sym, ap, subst, ◌∙◌, append_assoc, append-nil, arith}
use Rattle.std.specs.Prelude.{IsErrOf, Err, ◌^◌}
use Rattle.script_text.specs.declared.script.Script.{Script}
use Rattle.script_text.specs.declared.script.ScriptFault.TheVariants.{NotYet}
use Rattle.script_text.specs.Lines.{lines_of}
use Rattle.script_text.specs.Script.{IsScript, script_lines}
use Rattle.script_text.specs.Refusals.{GoesOn, IsRefusedAt}
use Rattle.script_text.proofs.Peel.{heads}
use Rattle.script_text.proofs.Words.{lines_few}

take_front : (xs ys : List (List ℕ)) → take (length xs) (xs ++ ys) ≡ xs
take_front [] ys = refl
take_front (x ∷ xs) ys = ap (λ t. x ∷ t) (take_front xs ys)

len_front : (xs ys : List (List ℕ)) → length (xs ++ ys) ≡ length xs + length ys
len_front [] ys = omega arith
len_front (x ∷ xs) ys = let h = len_front xs ys in omega arith

-- a line with which no script goes on
pub refused_line : (text : List ℕ) (before : List (List ℕ)) (line : List ℕ) (more : List (List ℕ)) (n : ℕ) → before ++ line ∷ more ≡ lines_of text → n ≡ length before + 1
    → GoesOn before → (GoesOn (before ++ line ∷ []) → ⊥) → IsRefusedAt n text
refused_line text before line more n e at goes stop =
    let P : List (List ℕ) → Type 0 = GoesOn in
    let len = len_front before (line ∷ more) in
    let all = ap length e in
    let back : n - 1 ≡ length before = omega arith in
    let here : n ≡ length (before ++ line ∷ []) = omega (arith, len_front before (line ∷ [])) in
    let first : take (n - 1) (lines_of text) ≡ before = rw (← e, back) (take_front before (line ∷ more)) in
    let second : take n (lines_of text) ≡ before ++ line ∷ [] = rw (← e, here, ← append_assoc before (line ∷ []) more) (take_front (before ++ line ∷ []) more) in
    record {
      some = omega arith;
      within = omega arith;
      before = subst P (sym first) goes;
      here = λ h g. stop (subst P second g);
      none = λ s h. stop (s, h.0, (more, append_assoc before (line ∷ []) more ∙ e ∙ h.1));
    }

-- lines that end too early
pub refused_end : (text : List ℕ) (before : List (List ℕ)) (n : ℕ) → before ≡ lines_of text → n ≡ length before + 1
    → GoesOn before → ((s : Script) → IsScript s → script_lines s ≡ before → ⊥) → IsRefusedAt n text
refused_end text before n e at goes none =
    let P : List (List ℕ) → Type 0 = GoesOn in
    let all = ap length e in
    let back : n - 1 ≡ length before = omega arith in
    let first : take (n - 1) (lines_of text) ≡ before = rw (← e, back) (ap (λ l. take (length before) l) (sym (append-nil before)) ∙ take_front before []) in
    record {
      some = omega arith;
      within = omega arith;
      before = subst P (sym first) goes;
      here = λ h g. absurd (omega arith);
      none = λ s h. none s h.0 (sym h.1 ∙ sym e);
    }

-- The lines that come next in any script have this form, and the text has no such line there.
pub refused_next : (text : List ℕ) (before more : List (List ℕ)) (n : ℕ) (Fits : List ℕ → Type 0) → before ++ more ≡ lines_of text → n ≡ length before + 1 → GoesOn before
    → ((s : Script) → IsScript s → (rest : List (List ℕ)) → before ++ rest ≡ script_lines s → (line : List ℕ) × Fits line × ((tail : List (List ℕ)) × (rest ≡ line ∷ tail)))
    → ((line : List ℕ) (tail : List (List ℕ)) → Fits line → more ≡ line ∷ tail → ⊥) → IsRefusedAt n text
refused_next text before [] n Fits e at goes next not =
    refused_end text before n (sym (append-nil before) ∙ e) at goes
    (λ s is h. let f = next s is [] (append-nil before ∙ sym h) in let k : [] ≡ f.0 ∷ f.2.0 = f.2.1 in cc)
refused_next text before (line ∷ more) n Fits e at goes next not =
    refused_line text before line more n e at goes
    (λ g.
    let f = next g.0 g.1 (line ∷ g.2.0) (sym (append_assoc before (line ∷ []) g.2.0) ∙ g.2.1) in
    let same : line ≡ f.0 = heads _ _ _ _ f.2.1 in
    not f.0 more f.1 (ap (λ l. l ∷ more) same))

pub goes_before : (front rest lines : List (List ℕ)) → front ++ rest ≡ lines → GoesOn lines → GoesOn front
goes_before front rest lines e (s, is, (left, h)) = (s, is, (rest ++ left, sym (append_assoc front rest left) ∙ ap (λ l. l ++ left) e ∙ h))

pub same_line : {T : Type 0} (a b : ℕ) → IsErrOf {T = T} (Err (NotYet a)) (NotYet b) → a ≡ b
same_line a b e = cc

-- the number of a line is small
pub small_number : (text : List ℕ) (before : List (List ℕ)) (line : List ℕ) (more : List (List ℕ)) (n : ℕ) → before ++ line ∷ more ≡ lines_of text → n ≡ length before + 1
    → length text ≤ 16777216 → n + 1 < 2 ^ 32
small_number text before line more n e at few =
    let all = ap length e in
    let len = len_front before (line ∷ more) in
    let low = lines_few text in
    omega arith
