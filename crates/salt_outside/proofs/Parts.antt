-- Parts of a text that was to be written.
use Rattle.std.proofs.Common.{◌≡◌, ℕ, List, [], ◌++◌, refl, sym, ap, ◌∙◌, append_assoc}
use Rattle.std.proofs.lemmas.List.{append-nil}
use Rattle.std.specs.Prelude.{Option, None, Some}
use Rattle.salt_outside.specs.Streams.{contents_after, left_before, IsPart, IsRest}
use Rattle.salt_outside.proofs.Reading.{appended-appended, preceded-preceded}

pub appended-nil : (held : Option (List ℕ)) → contents_after held [] ≡ held
appended-nil None = refl
appended-nil (Some h) = ap Some (append-nil h)

-- all of it was written
pub part_whole : (old new : Option (List ℕ)) (text : List ℕ) → new ≡ contents_after old text → IsPart old new text
part_whole old new text e = record { front = text; rest = []; whole = append-nil text; written = e }

-- nothing was
pub part_none : (old new : Option (List ℕ)) (text : List ℕ) → new ≡ old → IsPart old new text
part_none old new text e = record { front = []; rest = text; whole = refl; written = e ∙ sym (appended-nil old) }

-- a part of a front is a part of the whole
pub part_front : (old new : Option (List ℕ)) (text more : List ℕ) → IsPart old new text → IsPart old new (text ++ more)
part_front old new text more p = record {
  front = p.front;
  rest = p.rest ++ more;
  whole = sym (append_assoc p.front p.rest more) ∙ ap (λ t. t ++ more) p.whole;
  written = p.written;
}

-- a part after what was written whole
pub part_after : (old mid new : Option (List ℕ)) (text more : List ℕ) → mid ≡ contents_after old text → IsPart mid new more → IsPart old new (text ++ more)
part_after old mid new text more e p = record {
  front = text ++ p.front;
  rest = p.rest;
  whole = append_assoc text p.front p.rest ∙ ap (λ t. text ++ t) p.whole;
  written = p.written ∙ ap (λ h. contents_after h p.front) e ∙ appended-appended old text p.front;
}

-- what was read in one piece
pub rest_one : (old new : Option (List ℕ)) (front : List ℕ) → old ≡ left_before front new → IsRest old new
rest_one old new front e = record { front = front; whole = e }

-- what was read in two
pub rest_two : (old mid new : Option (List ℕ)) (front more : List ℕ) → old ≡ left_before front mid → mid ≡ left_before more new → IsRest old new
rest_two old mid new front more e f = record {
  front = front ++ more;
  whole = e ∙ ap (λ l. left_before front l) f ∙ preceded-preceded front more new;
}
