-- The letter of a leaf.
use Rattle.std.proofs.Common.{◌≡◌, ◌≢◌, ◌⊎◌, inl, inr, ℕ, ◌<◌, ◌≤◌, Bool, true, false, List, [], ◌∷◌, ◌++◌, length, drop, get_or, refl, ap, ap₂, sym, subst, ◌∙◌, arith}
use Rattle.std.specs.Prelude.{if◌then◌else◌, nat_le, nat_eq, ◌&&◌, ◌||◌, not, slice_index}
use Rattle.std.specs.List.{list_any}
use Rattle.std.proofs.lemmas.Bool.Decides.{nat_tests}
use Rattle.target_tree.specs.declared.target.Target.TheVariants.{IdGlob}
use Rattle.target_tree.specs.declared.token.Token.TheVariants.{Leaf, NoLeaf}
use Rattle.target_tree.specs.Words.{is_lettered, is_kind_letter, is_not_empty, is_paren, letter_leaf, operand_token}
use Rattle.target_tree.specs.WordParts.{IsParted}

and-false : (x y : Bool) → y ≡ false → (x && y) ≡ false
and-false true y e = e
and-false false y e = refl

false-and : (x y : Bool) → x ≡ false → (x && y) ≡ false
false-and x y e = ap (λ (b : Bool). b && y) e

second : (a b : ℕ) (s : List ℕ) → b ≢ 64 → is_lettered (a ∷ b ∷ s) ≡ false
second a b s h = and-false (nat_le 65 a && nat_le a 90) (nat_eq b 64) (grind (arith, nat_tests))

pub no-at : (s : List ℕ) → ((i : ℕ) → i < length s → get_or s i 0 ≢ 64) → is_lettered s ≡ false
no-at [] h = refl
no-at (a ∷ []) h = and-false (nat_le 65 a && nat_le a 90) false refl
no-at (a ∷ b ∷ s) h = second a b s (h 1 (omega arith))

pub other-front : (s front text : List ℕ) → s ≡ front ++ 64 ∷ text → ((i : ℕ) → i < length front → get_or front i 0 ≢ 64) → nat_eq (length front) 1 ≡ false → is_lettered s ≡ false
other-front s [] text e h n = ap is_lettered e ∙ refl
other-front s (a ∷ []) text e h n = absurd (grind (arith, nat_tests))
other-front s (a ∷ b ∷ front) text e h n = ap is_lettered e ∙ second a b (front ++ 64 ∷ text) (h 1 (omega arith))

pub no-capital : (s front text : List ℕ) (letter : ℕ) → s ≡ front ++ 64 ∷ text → length front ≡ 1 → letter ≡ get_or front 0 0 → (nat_le 65 letter && nat_le letter 90) ≡ false → is_lettered s ≡ false
no-capital s [] text letter e n g f = absurd (omega arith)
no-capital s (a ∷ []) text letter e n g f = ap is_lettered e ∙ false-and (nat_le 65 a && nat_le a 90) true (subst (λ (b : ℕ). (nat_le 65 b && nat_le b 90) ≡ false) g f)
no-capital s (a ∷ b ∷ front) text letter e n g f = absurd (omega arith)

below : (a : ℕ) → a < 65 → (nat_le 65 a && nat_le a 90) ≡ false
below a lt = false-and (nat_le 65 a) (nat_le a 90) (grind (arith, nat_tests))

above : (a : ℕ) → 90 < a → (nat_le 65 a && nat_le a 90) ≡ false
above a lt = and-false (nat_le 65 a) (nat_le a 90) (grind (arith, nat_tests))

pub outside : (a : ℕ) → (a < 65) ⊎ ((65 ≤ a) × (90 < a)) → (nat_le 65 a && nat_le a 90) ≡ false
outside a e = elim e [ inl low ↦ below a low | inr high ↦ above a high.1 ]

pub parted-so : (s front text : List ℕ) (letter : ℕ) → s ≡ front ++ 64 ∷ text → length front ≡ 1 → letter ≡ get_or front 0 0 → 65 ≤ letter → letter ≤ 90 → IsParted s letter text
parted-so s [] text letter e n g low high = absurd (omega arith)
parted-so s (a ∷ []) text letter e n g low high =
    let from : nat_le 65 a ≡ true = grind (arith, nat_tests) in
    let to : nat_le a 90 ≡ true = grind (arith, nat_tests) in
    record {
      is = ap is_lettered e ∙ ap₂ (λ (x y : Bool). (x && y) && true) from to;
      letter_is = ap (λ (x : List ℕ). slice_index x 0) e ∙ sym g;
      text_is = ap (drop 2) e;
    }
parted-so s (a ∷ b ∷ front) text letter e n g low high = absurd (omega arith)

pub operand-plain : (s : List ℕ) → is_lettered s ≡ false → operand_token s ≡ (if list_any is_paren s then NoLeaf else Leaf (IdGlob s))
unfolding operand_token
operand-plain s h = ap (λ (b : Bool). if b then (if is_not_empty (drop 2 s) || not (is_kind_letter (slice_index s 0)) then letter_leaf (slice_index s 0) (drop 2 s) else NoLeaf) else if list_any is_paren s then NoLeaf else Leaf (IdGlob s)) h

pub operand-lettered : (s : List ℕ) (letter : ℕ) (text : List ℕ) → IsParted s letter text → operand_token s ≡ (if is_not_empty text || not (is_kind_letter letter) then letter_leaf letter text else NoLeaf)
unfolding operand_token
operand-lettered s letter text h =
    ap (λ (b : Bool). if b then (if is_not_empty (drop 2 s) || not (is_kind_letter (slice_index s 0)) then letter_leaf (slice_index s 0) (drop 2 s) else NoLeaf) else if list_any is_paren s then NoLeaf else Leaf (IdGlob s)) h.is
    ∙ ap₂ (λ (c : ℕ) (t : List ℕ). if is_not_empty t || not (is_kind_letter c) then letter_leaf c t else NoLeaf) h.letter_is h.text_is

pub some-text : (s : List ℕ) (letter : ℕ) (text : List ℕ) → IsParted s letter text → nat_eq (length text) 0 ≡ false → letter_leaf letter text ≡ operand_token s
some-text s letter [] h some = absurd (grind (arith, nat_tests))
some-text s letter (b ∷ text) h some = sym (operand-lettered s letter (b ∷ text) h)

pub bare-letter : (s : List ℕ) (letter : ℕ) (text : List ℕ) → IsParted s letter text → nat_eq (length text) 0 ≡ true → is_kind_letter letter ≡ true → NoLeaf ≡ operand_token s
bare-letter s letter [] h none is = sym (operand-lettered s letter [] h ∙ ap (λ (b : Bool). if not b then letter_leaf letter [] else NoLeaf) is)
bare-letter s letter (b ∷ text) h none is = absurd (grind (arith, nat_tests))

pub bare-other : (s : List ℕ) (letter : ℕ) (text : List ℕ) → IsParted s letter text → nat_eq (length text) 0 ≡ true → is_kind_letter letter ≡ false → letter_leaf letter text ≡ operand_token s
bare-other s letter [] h none is = sym (operand-lettered s letter [] h ∙ ap (λ (b : Bool). if not b then letter_leaf letter [] else NoLeaf) is)
bare-other s letter (b ∷ text) h none is = absurd (grind (arith, nat_tests))
