-- Words are ASCII, and the table of the kinds' codes.
use Rattle.std.proofs.Common.{◌≡◌, ℕ, ◌<◌, ◌&&◌, eqb, cond, true, false, Bool, List, [], ◌∷◌, Option, Some, None, Result, Ok, refl, ap, ◌∙◌, sym, subst, arith, All}
use Rattle.std.specs.List.{list_all, find}
use Rattle.std.specs.Str.{IsUtf8}
use Rattle.std.proofs.lemmas.Str.{IsUtf8-from_ascii}
use Rattle.std.proofs.lemmas.Str.Ascii.{IsAscii-from_all}
use Rattle.std.proofs.lemmas.List.Elements.{All-nil, All-cons}
use Rattle.std.proofs.lemmas.Bool.Decides.{nat_tests}
use Rattle.std.proofs.lemmas.Bool.{eqb-true}
use Rattle.salt_value.specs.Readers.{◌>>=◌, option_reader}
use Rattle.salt_value.specs.Word.{is_word_byte}
use Rattle.target_tree.specs.Kinds.{TheKind, kind_code}
use Rattle.target_tree.specs.declared.kind.Kind.{Kind}
use Rattle.target_tree.specs.declared.kind.Kind.TheVariants as k
use Rattle.salt_wire.specs.declared.fault.Misread.{Misread}
use Rattle.salt_wire.specs.Decoding.{is_word, misreading, byte_field, kinds, kind_of, kind_field}

and_first : (a b : Bool) → (a && b) ≡ true → a ≡ true
and_first a b e = grind arith

and_second : (a b : Bool) → (a && b) ≡ true → b ≡ true
and_second a b e = grind arith

word_byte_low : (b : ℕ) → is_word_byte b ≡ true → b < 128
word_byte_low b e = grind (arith, nat_tests)

all_low : (xs : List ℕ) → list_all is_word_byte xs ≡ true → All (λ b. b < 128) xs
all_low [] e = All-nil (λ b. b < 128)
all_low (x ∷ xs) e = All-cons (λ b. b < 128) x xs (word_byte_low x (and_first _ _ e)) (all_low xs (and_second _ _ e))

-- what is no UTF-8 is no word
pub not_word : (xs : List ℕ) → (IsUtf8 xs → ⊥) → is_word xs ≡ false
not_word xs h = by (is_word xs) refl where
  by : (b : Bool) → is_word xs ≡ b → b ≡ false
  by true e = absurd (h (IsUtf8-from_ascii xs (IsAscii-from_all xs (all_low xs (and_second _ _ (and_second _ _ e))))))
  by false e = refl

pub kind_of-code : (kind : Kind) → kind_of (kind_code kind) ≡ Some kind
unfolding kind_of
kind_of-code k.Glob = refl
kind_of-code k.Pcre = refl
kind_of-code k.List = refl
kind_of-code k.Grain = refl
kind_of-code k.GrainPcre = refl
kind_of-code k.Pillar = refl
kind_of-code k.PillarPcre = refl
kind_of-code k.Nodegroup = refl
kind_of-code k.Compound = refl

-- what a search finds passes its test
find_passes : {A : Type 0} (test : A → Bool) (xs : List A) (x : A) → find test xs ≡ Some x → test x ≡ true
find_passes test [] x e = absurd cc
find_passes test (y ∷ xs) x e = by (test y) refl (find_passes test xs x) e where
  by : (b : Bool) → test y ≡ b → (find test xs ≡ Some x → test x ≡ true) → cond b (Some y) (find test xs) ≡ Some x → test x ≡ true
  by true t more e = let same : y ≡ x = cc in subst (λ z. test z ≡ true) same t
  by false t more e = more e

pub kind_of-is : (code : ℕ) (kind : Kind) → kind_of code ≡ Some kind → kind_code kind ≡ code
unfolding kind_of
kind_of-is code kind e = eqb-true (kind_code kind) code (find_passes (λ kind. eqb (kind_code kind) code) kinds kind e)

-- the one kind of a code is that of the table
the_kind : (code : ℕ) (r : Option Kind) → TheKind (λ kind. kind_code kind ≡ code) r → r ≡ kind_of code
the_kind code None h = by (kind_of code) refl where
  by : (r : Option Kind) → kind_of code ≡ r → None ≡ r
  by None e = refl
  by (Some kind) e = absurd (h kind (kind_of-is code kind e))
the_kind code (Some kind) h = subst (λ c. Some kind ≡ kind_of c) h.0 (sym (kind_of-code kind))

-- the kind that the table has for a byte is what is read
pub kind_read : (bytes rest : List ℕ) (code : ℕ) (r : Option Kind) → byte_field bytes ≡ Ok (code, rest) → TheKind (λ kind. kind_code kind ≡ code) r → kind_field bytes ≡ option_reader (misreading bytes) r rest
unfolding kind_field
kind_read bytes rest code r e h =
    ap (λ (read : Result (ℕ × List ℕ) Misread). read >>= λ code. option_reader (misreading bytes) (kind_of code.0) code.1) e ∙ ap (λ (kind : Option Kind). option_reader (misreading bytes) kind rest) (sym (the_kind code r h))
