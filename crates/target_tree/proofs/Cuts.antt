-- Words, from the left.
use Rattle.std.proofs.Common.{◌≡◌, ◌≢◌, ℕ, suc, ◌<◌, ◌≤◌, Bool, true, false, List, [], ◌∷◌, length, map, get_or, reverse, Ok, Err, refl, ap, sym, ◌∙◌, arith}
use Rattle.std.specs.Prelude.{if◌then◌else◌, nat_le, nat_eq, filter, ◌||◌}
use Rattle.std.specs.List.{slice_split, list_any, onto_first, before_first, after_first, position_or_len}
use Rattle.std.specs.Str.{bytes_eq}
use Rattle.std.proofs.lemmas.Bool.Decides.{nat_tests}
use Rattle.std.proofs.lemmas.List.Splits.{slice_split_first, slice_split-cons_no}
use Rattle.std.proofs.lemmas.List.Sorted.{list_any-IsPermutation, IsPermutation-reverse}
use Rattle.target_tree.specs.declared.run.Outer.{Outer}
use Rattle.target_tree.specs.declared.fault.TargetFault.TheVariants.{Empty, TooLong}
use Rattle.target_tree.specs.Words.{words_of, tokens_of, token, is_not_empty}
use Rattle.target_tree.specs.Nodegroups.{is_among}
use Rattle.target_tree.specs.WaitingTexts.{names_of, within}

abbrev pub space : ℕ → Bool
space b = nat_eq b 32

some-byte : (w : List ℕ) → nat_eq (length w) 0 ≡ false → is_not_empty w ≡ true
some-byte [] e = absurd (grind (arith, nat_tests))
some-byte (b ∷ w) e = refl

no-byte : (w : List ℕ) → nat_eq (length w) 0 ≡ true → is_not_empty w ≡ false
no-byte [] e = refl
no-byte (b ∷ w) e = absurd (grind (arith, nat_tests))

kept : (b : Bool) (w : List ℕ) (ws : List (List ℕ)) → is_not_empty w ≡ b → filter is_not_empty (w ∷ ws) ≡ (if b then w ∷ filter is_not_empty ws else filter is_not_empty ws)
kept b w ws e = ap (λ (x : Bool). if x then w ∷ filter is_not_empty ws else filter is_not_empty ws) e

cut : (s w r : List ℕ) → w ≡ before_first space s → r ≡ after_first space s → position_or_len space s < length s → slice_split space s ≡ w ∷ slice_split space r
cut s w r e f h = slice_split_first space s 0 h ∙ cc

pub words-more : (s w r : List ℕ) → w ≡ before_first space s → r ≡ after_first space s → position_or_len space s < length s → nat_eq (length w) 0 ≡ false → words_of s ≡ w ∷ words_of r
words-more s w r e f h some = ap (filter is_not_empty) (cut s w r e f h) ∙ kept true w (slice_split space r) (some-byte w some)

pub words-skip : (s w r : List ℕ) → w ≡ before_first space s → r ≡ after_first space s → position_or_len space s < length s → nat_eq (length w) 0 ≡ true → words_of s ≡ words_of r
words-skip s w r e f h none = ap (filter is_not_empty) (cut s w r e f h) ∙ kept false w (slice_split space r) (no-byte w none)

-- a text without this byte is one part
pub uncut : (byte : ℕ) (s : List ℕ) → ((i : ℕ) → i < length s → get_or s i 0 ≢ byte) → slice_split (λ b. nat_eq b byte) s ≡ s ∷ []
uncut byte [] h = refl
uncut byte (b ∷ s) h =
    let first : b ≢ byte = h 0 (omega arith) in
    let no : nat_eq b byte ≡ false = grind (arith, nat_tests) in
    slice_split-cons_no (λ b. nat_eq b byte) b s no ∙ ap (onto_first b) (uncut byte s (λ i lt. h (suc i) (omega arith)))

pub words-last : (s : List ℕ) → ((i : ℕ) → i < length s → get_or s i 0 ≢ 32) → nat_eq (length s) 0 ≡ false → words_of s ≡ s ∷ []
words-last s h some = ap (filter is_not_empty) (uncut 32 s h) ∙ kept true s [] (some-byte s some)

pub words-none : (s : List ℕ) → ((i : ℕ) → i < length s → get_or s i 0 ≢ 32) → nat_eq (length s) 0 ≡ true → words_of s ≡ []
words-none s h none = ap (filter is_not_empty) (uncut 32 s h) ∙ kept false s [] (no-byte s none)

pub tokens-more : (s w r : List ℕ) → words_of s ≡ w ∷ words_of r → tokens_of s ≡ token w ∷ tokens_of r
unfolding tokens_of
tokens-more s w r e = ap (map token) e

pub tokens-none : (s : List ℕ) → words_of s ≡ [] → tokens_of s ≡ []
unfolding tokens_of
tokens-none s e = ap (map token) e

pub within-empty : (s : List ℕ) → words_of s ≡ [] → within s ≡ Err Empty
within-empty s e = ap (λ ws. if nat_le (length ws) 0 then Err Empty else if nat_le 4097 (length s) then Err TooLong else Ok s) (tokens-none s e)

within-some : (s w r : List ℕ) → words_of s ≡ w ∷ words_of r → within s ≡ (if nat_le 4097 (length s) then Err TooLong else Ok s)
within-some s w r e =
    let long : 0 < length (token w ∷ tokens_of r) = omega arith in
    let no : nat_le (length (token w ∷ tokens_of r)) 0 ≡ false = grind (arith, nat_tests) in
    ap (λ ws. if nat_le (length ws) 0 then Err Empty else if nat_le 4097 (length s) then Err TooLong else Ok s) (tokens-more s w r e)
    ∙ ap (λ (b : Bool). if b then Err Empty else if nat_le 4097 (length s) then Err TooLong else Ok s) no

pub within-long : (s w r : List ℕ) → words_of s ≡ w ∷ words_of r → 4096 < length s → within s ≡ Err TooLong
within-long s w r e h =
    let yes : nat_le 4097 (length s) ≡ true = grind (arith, nat_tests) in
    within-some s w r e ∙ ap (λ (b : Bool). if b then Err TooLong else Ok s) yes

pub within-fits : (s w r : List ℕ) → words_of s ≡ w ∷ words_of r → length s ≤ 4096 → within s ≡ Ok s
within-fits s w r e h =
    let no : nat_le 4097 (length s) ≡ false = grind (arith, nat_tests) in
    within-some s w r e ∙ ap (λ (b : Bool). if b then Err TooLong else Ok s) no

any-name : (xs : List Outer) (name : List ℕ) → is_among (names_of xs) name ≡ list_any (λ (o : Outer). bytes_eq o.name name) xs
any-name [] name = refl
any-name (x ∷ xs) name = ap (λ (b : Bool). bytes_eq x.name name || b) (any-name xs name)

pub among-reverse : (xs ys : List Outer) (name : List ℕ) → xs ≡ reverse ys → is_among (names_of xs) name ≡ is_among (names_of ys) name
among-reverse xs ys name e =
    let passes : Outer → Bool = λ o. bytes_eq o.name name in
    any-name xs name ∙ (ap (list_any passes) e ∙ (sym (list_any-IsPermutation passes ys (reverse ys) (IsPermutation-reverse ys)) ∙ sym (any-name ys name)))
