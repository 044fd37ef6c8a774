-- The fields of an id that was made of its bytes.
use Rattle.std.proofs.Common.{◌≡◌, ℕ, ◌-◌, ◌<◌, ◌++◌, ◌&&◌, true, Bool, List, [], ◌∷◌, length, take, replicate, sym, ap, subst, ◌∙◌, arith, length-append, All}
use Rattle.std.specs.List.{list_all}
use Rattle.std.specs.Str.{IsAscii}
use Rattle.std.proofs.lemmas.Str.Ascii.{IsAscii-from_all}
use Rattle.std.proofs.lemmas.List.{length-replicate}
use Rattle.std.proofs.lemmas.List.Elements.{All-nil, All-cons}
use Rattle.std.proofs.lemmas.Bool.Decides.{nat_tests}
use Rattle.std.proofs.Math.Seq.{take-append_seam}
use Rattle.salt_value.specs.declared.id.MinionId.TheInside.{Inside}
use Rattle.salt_value.specs.Id.{IsId, is_id_byte}
use Rattle.salt_value.specs.IdFields.{IsKept}

pub kept : (text xs : List ℕ) → IsId text → xs ≡ text ++ replicate (64 - length text) 0
    → let made : Inside = record { bytes = xs; len = length text } in IsKept made × (take (length text) xs ≡ text)
kept text xs id e =
    let front : take (length text) xs ≡ text = ap (take (length text)) e ∙ take-append_seam text (replicate (64 - length text) 0) in
    let long : length xs ≡ 64 = omega (arith, ap length e, length-append text (replicate (64 - length text) 0), length-replicate {A = ℕ} (64 - length text) 0, id.1) in (
      record {
        short = id.1;
        room = long;
        padded = e ∙ ap (λ (ys : List ℕ). ys ++ replicate (64 - length text) 0) (sym front);
        id = subst IsId (sym front) id;
      },
      front,
    )

and_first : (a b : Bool) → (a && b) ≡ true → a ≡ true
and_first a b e = grind arith

and_second : (a b : Bool) → (a && b) ≡ true → b ≡ true
and_second a b e = grind arith

id_byte_low : (b : ℕ) → is_id_byte b ≡ true → b < 128
id_byte_low b e = grind (arith, nat_tests)

all_low : (xs : List ℕ) → list_all is_id_byte xs ≡ true → All (λ b. b < 128) xs
all_low [] e = All-nil (λ b. b < 128)
all_low (x ∷ xs) e = All-cons (λ b. b < 128) x xs (id_byte_low x (and_first _ _ e)) (all_low xs (and_second _ _ e))

-- an id is ASCII
pub IsId-IsAscii : (xs : List ℕ) → list_all is_id_byte xs ≡ true → IsAscii xs
IsId-IsAscii xs e = IsAscii-from_all xs (all_low xs e)
