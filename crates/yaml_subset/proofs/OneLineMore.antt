-- One line more at the end of a text: a fault stays, and a new one is told with that line's number.
use Rattle.std.proofs.Common.{◌≡◌, ℕ, ◌+◌, Bool, true, false, List, [], ◌∷◌, ◌++◌, length, refl, sym, ap, ◌∙◌, subst, arith, append_assoc}
use Rattle.std.specs.Prelude.{Option, None, Some, Result, Ok, Err, IsOk}
use Rattle.std.proofs.lemmas.List.{append-nil}
use Rattle.salt_value.specs.Readers.{◌>>=◌}
use Rattle.yaml_words.specs.declared.fault.YamlCause.{YamlCause}
use Rattle.yaml_words.specs.declared.fault.YamlCause.TheVariants.{Tab, Unsupported}
use Rattle.yaml_words.specs.declared.fault.YamlFault.{YamlFault}
use Rattle.yaml_words.specs.declared.fault.YamlFault.TheVariants.{Line}
use Rattle.yaml_words.specs.Faults.{IsOnLine, refused}
use Rattle.yaml_words.specs.Places.{begins_with, ends_or}
use Rattle.yaml_words.specs.Spaces.{unindented}
use Rattle.yaml_words.specs.Keys.{is_item, split_key}
use Rattle.yaml_words.proofs.FaultLines.{on_ok, on_refused, on_if, on_step}
use Rattle.yaml_subset.specs.declared.tree.Yaml.{Yaml}
use Rattle.yaml_subset.specs.Rows.{IndentedLine, is_document_start}
use Rattle.yaml_subset.specs.Blocks.{is_later_start, most_yaml_levels, inline, closed}
use Rattle.yaml_subset.specs.Document.{read_lines, onto_rows, all_lines, by_key, document, untabbed, numbered, kept_tree, lines_tree}
use Rattle.yaml_subset.specs.Laws.{BreaksAt}
use Rattle.yaml_subset.proofs.OneRowMore.{IsStep, step_same, step_if, step_after, step_total, block_lines, on_inline, value_here_step}

-- what a line more adds to the lines that are not passed over
data IsFound (k : ℕ) (old new : List IndentedLine × Option ℕ) : Type 0 where
  same : new ≡ old → IsFound k old new
  tab : old.1 ≡ None → new ≡ (old.0, Some k) → IsFound k old new
  row : (r : IndentedLine) → r.number ≡ k → old.1 ≡ None → new ≡ (old.0 ++ r ∷ [], None) → IsFound k old new

found_onto : (k : ℕ) (r : IndentedLine) (old new : List IndentedLine × Option ℕ) → IsFound k old new → IsFound k (onto_rows r old) (onto_rows r new)
found_onto k r old new (same e) = same (ap (onto_rows r) e)
found_onto k r old new (tab n e) = tab n (ap (onto_rows r) e)
found_onto k r old new (row x number n e) = row x number n (ap (onto_rows r) e)

one_line : (k number : ℕ) (l : List ℕ) (tabs blank : Bool) → begins_with 9 (unindented l) ≡ tabs → ends_or 35 (unindented l) ≡ blank → k ≡ number → IsFound k (read_lines number []) (read_lines number (l ∷ []))
one_line k number l true blank t b e = tab refl (rw (t, e) refl)
one_line k number l false true t b e = same (rw (t, b) refl)
one_line k number l false false t b e = row (record { number = number; width = length l; text = unindented l }) (sym e) refl (rw (t, b) refl)

line_before : (k number : ℕ) (line : List ℕ) (lines : List (List ℕ)) (l : List ℕ) (tabs blank : Bool) → begins_with 9 (unindented line) ≡ tabs → ends_or 35 (unindented line) ≡ blank
    → IsFound k (read_lines (number + 1) lines) (read_lines (number + 1) (lines ++ l ∷ [])) → IsFound k (read_lines number (line ∷ lines)) (read_lines number (line ∷ lines ++ l ∷ []))
line_before k number line lines l true blank t b h = same (rw t refl)
line_before k number line lines l false true t b h = rw (t, b) h
line_before k number line lines l false false t b h = rw (t, b) (found_onto k _ _ _ h)

read_more : (k number : ℕ) (lines : List (List ℕ)) (l : List ℕ) → k ≡ number + length lines → IsFound k (read_lines number lines) (read_lines number (lines ++ l ∷ []))
read_more k number [] l e = one_line k number l (begins_with 9 (unindented l)) (ends_or 35 (unindented l)) refl refl (omega (arith, e))
read_more k number (line ∷ lines) l e =
    line_before k number line lines l (begins_with 9 (unindented line)) (ends_or 35 (unindented line)) refl refl (read_more k (number + 1) lines l (omega (arith, e)))

start_alone : (k first : ℕ) (l : List ℕ) (starts : Bool) → is_document_start l ≡ starts → k ≡ first → IsFound k (all_lines first []) (all_lines first (l ∷ []))
start_alone k first l true s e = same (rw s refl)
start_alone k first l false s e = rw s (read_more k first [] l (omega (arith, e)))

start_before : (k first : ℕ) (line : List ℕ) (lines : List (List ℕ)) (l : List ℕ) (starts : Bool) → is_document_start line ≡ starts → k ≡ first + length (line ∷ lines)
    → IsFound k (all_lines first (line ∷ lines)) (all_lines first (line ∷ lines ++ l ∷ []))
start_before k first line lines l true s e = rw s (read_more k (first + 1) lines l (omega (arith, e)))
start_before k first line lines l false s e = rw s (read_more k first (line ∷ lines) l e)

all_more : (k first : ℕ) (lines : List (List ℕ)) (l : List ℕ) → k ≡ first + length lines → IsFound k (all_lines first lines) (all_lines first (lines ++ l ∷ []))
all_more k first [] l e = start_alone k first l (is_document_start l) refl (omega (arith, e))
all_more k first (line ∷ lines) l e = start_before k first line lines l (is_document_start line) refl e

on_by_key : (r : IndentedLine) (key : Option (List ℕ × List ℕ)) → IsOnLine r.number (by_key r [] key)
on_by_key r None =
    on_if r.number (is_later_start r) _ _ (on_refused r.number Unsupported)
    (on_step r.number (inline most_yaml_levels r.number r.text) (closed []) (on_inline most_yaml_levels r.number r.text) (λ x. on_ok r.number x))
on_by_key r (Some key) = (block_lines most_yaml_levels).single r

by_key_step : (x : IndentedLine) (xs : List IndentedLine) (r : IndentedLine) (key : Option (List ℕ × List ℕ)) → IsStep r.number (by_key x xs key) (by_key x (xs ++ r ∷ []) key)
by_key_step x xs r None =
    step_if r.number (is_later_start x) _ _ _ _ (step_same r.number (refused {A = Yaml} x.number Unsupported)) (value_here_step most_yaml_levels x x.text xs r)
by_key_step x xs r (Some key) = (block_lines most_yaml_levels).step x xs r

document_step : (first : ℕ) (rs : List IndentedLine) (r : IndentedLine) → IsStep r.number (document first rs) (document first (rs ++ r ∷ []))
document_step first [] r = on_if r.number (is_item r.text) _ _ ((block_lines most_yaml_levels).single r) (on_by_key r (split_key r.text))
document_step first (x ∷ xs) r =
    step_if r.number (is_item x.text) _ _ _ _ ((block_lines most_yaml_levels).step x xs r) (by_key_step x xs r (split_key x.text))

tab_step : (first k : ℕ) (rs : List IndentedLine) → IsStep k (kept_tree first (rs, None)) (kept_tree first (rs, Some k))
tab_step first k rs =
    step_total k (document first rs >>= untabbed None) (document first rs >>= untabbed (Some k)) (λ tree. record { line = first; node = tree.node }) (numbered first)
    (step_after k (document first rs) (untabbed None) (untabbed (Some k)) (λ tree. on_refused k Tab)) (λ tree. on_ok k _)

row_step : (first : ℕ) (rs : List IndentedLine) (r : IndentedLine) → IsStep r.number (kept_tree first (rs, None)) (kept_tree first (rs ++ r ∷ [], None))
row_step first rs r =
    step_total r.number (document first rs >>= untabbed None) (document first (rs ++ r ∷ []) >>= untabbed None) (λ tree. record { line = first; node = tree.node }) (numbered first)
    (step_total r.number (document first rs) (document first (rs ++ r ∷ [])) (λ tree. tree) (untabbed None) (document_step first rs r) (λ tree. on_ok r.number tree)) (λ tree. on_ok r.number _)

found_step : (first k : ℕ) (old new : List IndentedLine × Option ℕ) → IsFound k old new → IsStep k (kept_tree first old) (kept_tree first new)
found_step first k old new (same e) = rw e (step_same k (kept_tree first old))
found_step first k old new (tab n e) = rw (e, n) (tab_step first k old.0)
found_step first k old new (row r number n e) = rw (e, n, ← number) (row_step first old.0 r)

-- a line more at the end
pub line_step : (first : ℕ) (lines : List (List ℕ)) (l : List ℕ) → IsStep (first + length lines) (lines_tree first lines) (lines_tree first (lines ++ l ∷ []))
line_step first lines l = found_step first (first + length lines) (all_lines first lines) (all_lines first (lines ++ l ∷ [])) (all_more (first + length lines) first lines l refl)

stays_by : (line : ℕ) (x y : Result Yaml YamlFault) (f : YamlFault) → IsStep line x y → x ≡ Err f → y ≡ Err f
stays_by line (Ok t) y f h e = cc
stays_by line (Err g) y f h e = h ∙ e

-- a fault stays, whatever lines follow
stays : (first : ℕ) (lines more : List (List ℕ)) (f : YamlFault) → lines_tree first lines ≡ Err f → lines_tree first (lines ++ more) ≡ Err f
stays first lines [] f e = ap (lines_tree first) (append-nil lines) ∙ e
stays first lines (l ∷ more) f e =
    ap (lines_tree first) (sym (append_assoc lines (l ∷ []) more))
    ∙ stays first (lines ++ l ∷ []) more f (stays_by (first + length lines) (lines_tree first lines) (lines_tree first (lines ++ l ∷ [])) f (line_step first lines l) e)

new_line : (line : ℕ) (x y : Result Yaml YamlFault) (n : ℕ) (cause : YamlCause) → IsOk x → IsStep line x y → y ≡ Err (Line n cause) → n ≡ line
new_line line (Ok t) y n cause o h e = h.told n cause e
new_line line (Err f) y n cause o h e = absurd (let no : ⊥ = cc in no)

ok_or_not : (first : ℕ) (before : List (List ℕ)) (l : List ℕ) (rest : List (List ℕ)) (n : ℕ) (cause : YamlCause) → IsOk (lines_tree first before)
    → (x : Result Yaml YamlFault) → lines_tree first (before ++ l ∷ []) ≡ x
    → (IsOk (lines_tree first (before ++ l ∷ [])) → BreaksAt first ((before ++ l ∷ []) ++ rest) n cause)
    → lines_tree first (before ++ l ∷ rest) ≡ Err (Line n cause) → BreaksAt first (before ++ l ∷ rest) n cause
ok_or_not first before l rest n cause o (Ok t) e further h =
    let read : IsOk (lines_tree first (before ++ l ∷ [])) = rw e refl in
    subst (λ (lines : List (List ℕ)). BreaksAt first lines n cause) (append_assoc before (l ∷ []) rest) (further read)
ok_or_not first before l rest n cause o (Err f) e further h =
    let kept : lines_tree first (before ++ l ∷ rest) ≡ Err f = ap (lines_tree first) (sym (append_assoc before (l ∷ []) rest)) ∙ stays first (before ++ l ∷ []) rest f e in
    let this : lines_tree first (before ++ l ∷ []) ≡ Err (Line n cause) = e ∙ sym kept ∙ h in
    record {
      before = before;
      line = l;
      after = rest;
      parts = refl;
      number = new_line (first + length before) (lines_tree first before) (lines_tree first (before ++ l ∷ [])) n cause o (line_step first before l) this;
      read = o;
      broken = λ more. ap (lines_tree first) (sym (append_assoc before (l ∷ []) more)) ∙ stays first (before ++ l ∷ []) more (Line n cause) this;
    }

contradicts : (x : Result Yaml YamlFault) (f : YamlFault) → IsOk x → x ≡ Err f → ⊥
contradicts (Ok t) f o e = cc
contradicts (Err g) f o e = cc

breaks_after : (first : ℕ) (before rest : List (List ℕ)) (n : ℕ) (cause : YamlCause) → IsOk (lines_tree first before)
    → lines_tree first (before ++ rest) ≡ Err (Line n cause) → BreaksAt first (before ++ rest) n cause
breaks_after first before [] n cause o e = absurd (contradicts (lines_tree first before) (Line n cause) o (ap (lines_tree first) (sym (append-nil before)) ∙ e))
breaks_after first before (l ∷ rest) n cause o e =
    ok_or_not first before l rest n cause o (lines_tree first (before ++ l ∷ [])) refl
    (λ read. breaks_after first (before ++ l ∷ []) rest n cause read (ap (lines_tree first) (append_assoc before (l ∷ []) rest) ∙ e)) e

-- the line that brings a fault
pub breaks_at : (first : ℕ) (lines : List (List ℕ)) (n : ℕ) (cause : YamlCause) → lines_tree first lines ≡ Err (Line n cause) → BreaksAt first lines n cause
breaks_at first lines n cause e = breaks_after first [] lines n cause refl e
