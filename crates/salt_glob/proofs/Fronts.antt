-- The front of a pattern.
use Rattle.std.proofs.Common.{◌≡◌, ◌≢◌, ℕ, ◌==◌, Bool, true, false, List, ◌∷◌, drop, refl, sym, ap, ◌∙◌, subst, arith}
use Rattle.std.specs.Prelude.{if◌then◌else◌, Option, None, Some}
use Rattle.std.proofs.lemmas.Bool.Decides.{nat_tests}
use Rattle.salt_glob.specs.Classes.{Class, class_of, class_size}
use Rattle.salt_glob.specs.Globs.{Piece, star, any, set, plain, class_piece, piece, more, pieces_after, pieces, Matches}
use Rattle.salt_glob.specs.Fronts.{Takes, IsByFront}
use Rattle.salt_glob.proofs.Pieces.{pieces_after-drop}

closed_pieces : (rest : List ℕ) (c : Class) → class_of rest ≡ Some c → pieces (91 ∷ rest) ≡ set c ∷ pieces (drop (class_size c) rest)
closed_pieces rest c e =
    ap (λ (o : Option Class). class_piece o ∷ pieces_after (more (class_piece o)) rest) e
    ∙ ap (λ (ps : List Piece). set c ∷ ps) (pieces_after-drop (class_size c) rest)

unclosed_pieces : (rest : List ℕ) → class_of rest ≡ None → pieces (91 ∷ rest) ≡ plain 91 ∷ pieces rest
unclosed_pieces rest e = ap (λ (o : Option Class). class_piece o ∷ pieces_after (more (class_piece o)) rest) e

not_same : (a b : ℕ) → a ≢ b → (a == b) ≡ false
not_same a b h = grind (arith, nat_tests)

plain_of : (s q c : Bool) (x : ℕ) (o : Option Class) → s ≡ false → q ≡ false → c ≡ false
    → (if s then star else (if q then any else (if c then class_piece o else plain x))) ≡ plain x
plain_of true q c x o e f g = absurd cc
plain_of false true c x o e f g = absurd cc
plain_of false false true x o e f g = absurd cc
plain_of false false false x o e f g = refl

pub other_piece : (x : ℕ) (rest : List ℕ) → x ≢ 42 → x ≢ 63 → x ≢ 91 → piece x rest ≡ plain x
other_piece x rest s q c =
    plain_of (x == 42) (x == 63) (x == 91) x (class_of rest) (not_same x 42 s) (not_same x 63 q) (not_same x 91 c)

other_pieces : (x : ℕ) (rest : List ℕ) → x ≢ 42 → x ≢ 63 → x ≢ 91 → pieces (x ∷ rest) ≡ plain x ∷ pieces rest
other_pieces x rest s q c = ap (λ (p : Piece). p ∷ pieces_after (more p) rest) (other_piece x rest s q c)

plain_takes : (x : ℕ) (rest text : List ℕ) → Matches (plain x ∷ pieces rest) text → Takes (λ b. b ≡ x) rest text
plain_takes x rest text h = (x, h.0, h.1, refl, h.2)

takes_plain : (x : ℕ) (rest text : List ℕ) → Takes (λ b. b ≡ x) rest text → Matches (plain x ∷ pieces rest) text
takes_plain x rest text h = (h.1, h.2 ∙ ap (λ (n : ℕ). n ∷ h.1) h.3, h.4)

along : (ps qs : List Piece) (text : List ℕ) → ps ≡ qs → Matches ps text → Matches qs text
along ps qs text e h = subst (λ (rs : List Piece). Matches rs text) e h

pub by_front : IsByFront
by_front = record {
  nothing = λ text. (λ h. h, λ h. h);
  asterisk = λ rest text. (λ h. h, λ h. h);
  question_mark = λ rest text. (λ h. (h.0, h.1, h.2, tt, h.3), λ h. (h.0, h.1, h.2, h.4));
  closed = λ rest text c e. let same = closed_pieces rest c e in (λ h. along _ _ text same h, λ h. along _ _ text (sym same) h);
  unclosed = λ rest text e. let same = unclosed_pieces rest e in (λ h. plain_takes 91 rest text (along _ _ text same h), λ h. along _ _ text (sym same) (takes_plain 91 rest text h));
  other = λ x rest text s q c. let same = other_pieces x rest s q c in (λ h. plain_takes x rest text (along _ _ text same h), λ h. along _ _ text (sym same) (takes_plain x rest text h));
}
