-- The parts of a text, from the left, and the text that they join to.
use Rattle.std.proofs.Common.{◌≡◌, ◌≢◌, ℕ, ◌<◌, ◌==◌, Bool, true, false, cond, List, [], ◌∷◌, ◌++◌, length, get_or, refl, ap, sym, ◌∙◌, append_assoc, arith}
use Rattle.std.specs.List.{slice_split, onto_first, before_first, after_first, position_or_len}
use Rattle.std.proofs.lemmas.Bool.Decides.{nat_tests}
use Rattle.std.proofs.lemmas.List.Splits.{slice_split_first}
use Rattle.std.specs.Prelude.{if◌then◌else◌}
use Rattle.std.proofs.lemmas.List.{append-nil}
use Rattle.target_tree.proofs.Cuts.{uncut}
use Rattle.target_match.specs.Paths.{parts, joined_path, is_key_name, path_of, after_path, pattern_of}

abbrev pub colon : ℕ → Bool
colon b = b == 58

-- the first part, and the others
pub parts-more : (text part rest : List ℕ) → part ≡ before_first colon text → rest ≡ after_first colon text → position_or_len colon text < length text → parts text ≡ part ∷ parts rest
unfolding parts
parts-more text part rest e f h = slice_split_first colon text 0 h ∙ cc

pub parts-one : (text : List ℕ) → ((i : ℕ) → i < length text → get_or text i 0 ≢ 58) → parts text ≡ text ∷ []
unfolding parts
parts-one text h = uncut 58 text h

-- there is a first part
some_part : (text : List ℕ) → (p : List ℕ) × (ps : List (List ℕ)) × (slice_split colon text ≡ p ∷ ps)
some_part [] = ([], [], refl)
some_part (b ∷ text) =
    let r = some_part text in
    by (colon b) r.0 r.1 r.2 where
      by : (c : Bool) (p : List ℕ) (ps : List (List ℕ)) → slice_split colon text ≡ p ∷ ps → (q : List ℕ) × (qs : List (List ℕ)) × (cond c ([] ∷ slice_split colon text) (onto_first b (slice_split colon text)) ≡ q ∷ qs)
      by true p ps e = ([], slice_split colon text, refl)
      by false p ps e = (b ∷ p, ps, ap (onto_first b) e)

onto-joined : (b : ℕ) (p : List ℕ) (ps : List (List ℕ)) → joined_path ((b ∷ p) ∷ ps) ≡ b ∷ joined_path (p ∷ ps)
onto-joined b p [] = refl
onto-joined b p (q ∷ ps) = refl

joined_by : (b : ℕ) (text : List ℕ) (c : Bool) → colon b ≡ c → (p : List ℕ) (ps : List (List ℕ)) → slice_split colon text ≡ p ∷ ps → joined_path (slice_split colon text) ≡ text
    → joined_path (cond c ([] ∷ slice_split colon text) (onto_first b (slice_split colon text))) ≡ b ∷ text
joined_by b text true is p ps e ih =
    let same : 58 ≡ b = grind (arith, nat_tests) in
    ap (λ l. joined_path ([] ∷ l)) e ∙ ap (λ l. 58 ∷ l) (sym (ap joined_path e) ∙ ih) ∙ ap (λ n. n ∷ text) same
joined_by b text false is p ps e ih = ap (λ l. joined_path (onto_first b l)) e ∙ onto-joined b p ps ∙ ap (λ l. b ∷ l) (sym (ap joined_path e) ∙ ih)

joined-split : (text : List ℕ) → joined_path (slice_split colon text) ≡ text
joined-split [] = refl
joined-split (b ∷ text) = let r = some_part text in joined_by b text (colon b) refl r.0 r.1 r.2 (joined-split text)

pub parts-joined : (text : List ℕ) → joined_path (parts text) ≡ text
unfolding parts
parts-joined text = joined-split text

pub some_parts : (text : List ℕ) → (p : List ℕ) × (ps : List (List ℕ)) × (parts text ≡ p ∷ ps)
unfolding parts
some_parts text = some_part text

-- one part more on the path
if-true : {A : Type 0} (c : Bool) (x y : A) → c ≡ true → (if c then x else y) ≡ x
if-true true x y e = refl
if-true false x y e = absurd cc

if-false : {A : Type 0} (c : Bool) (x y : A) → c ≡ false → (if c then x else y) ≡ y
if-false true x y e = absurd cc
if-false false x y e = refl

pub path-more : (text part rest : List ℕ) → parts text ≡ part ∷ parts rest → is_key_name part ≡ true → path_of (parts text) ≡ part ∷ path_of (parts rest)
path-more text part rest e name =
    let r = some_parts rest in
    ap path_of (e ∙ ap (λ l. part ∷ l) r.2) ∙ if-true (is_key_name part) (part ∷ path_of (r.0 ∷ r.1)) [] name ∙ ap (λ l. part ∷ path_of l) (sym r.2)

pub after-more : (text part rest : List ℕ) → parts text ≡ part ∷ parts rest → is_key_name part ≡ true → after_path (parts text) ≡ after_path (parts rest)
after-more text part rest e name =
    let r = some_parts rest in
    ap after_path (e ∙ ap (λ l. part ∷ l) r.2) ∙ if-true (is_key_name part) (after_path (r.0 ∷ r.1)) (part ∷ r.0 ∷ r.1) name ∙ ap after_path (sym r.2)

-- the path ends at a part that is no name
pub path-stop : (text part rest : List ℕ) → parts text ≡ part ∷ parts rest → is_key_name part ≡ false → path_of (parts text) ≡ []
path-stop text part rest e bad =
    let r = some_parts rest in
    ap path_of (e ∙ ap (λ l. part ∷ l) r.2) ∙ if-false (is_key_name part) (part ∷ path_of (r.0 ∷ r.1)) [] bad

pub after-stop : (text part rest : List ℕ) → parts text ≡ part ∷ parts rest → is_key_name part ≡ false → after_path (parts text) ≡ parts text
after-stop text part rest e bad =
    let r = some_parts rest in
    let same : parts text ≡ part ∷ r.0 ∷ r.1 = e ∙ ap (λ l. part ∷ l) r.2 in
    ap after_path same ∙ if-false (is_key_name part) (after_path (r.0 ∷ r.1)) (part ∷ r.0 ∷ r.1) bad ∙ sym same

-- and before the last part
pub path-end : (text : List ℕ) → parts text ≡ text ∷ [] → path_of (parts text) ≡ []
path-end text e = ap path_of e

pub after-end : (text : List ℕ) → parts text ≡ text ∷ [] → after_path (parts text) ≡ parts text
after-end text e = ap after_path e ∙ sym e

pub path-push : (all path rest : List (List ℕ)) (part : List ℕ) → all ≡ path ++ part ∷ rest → all ≡ (path ++ part ∷ []) ++ rest
path-push all path rest part e = e ∙ sym (append_assoc path (part ∷ []) rest)

pub path-whole : (all path rest : List (List ℕ)) → all ≡ path ++ rest → rest ≡ [] → path ≡ all
path-whole all path rest e f = sym (e ∙ ap (λ l. path ++ l) f ∙ append-nil path)

pub pattern-whole : (ps : List (List ℕ)) (rest : List ℕ) → after_path ps ≡ after_path (parts rest) → after_path (parts rest) ≡ parts rest → rest ≡ pattern_of ps
pattern-whole ps rest e f = sym (ap joined_path (e ∙ f) ∙ parts-joined rest)
