-- The bytes of an id give its fields back.
use Rattle.std.proofs.Common.{◌≡◌, ℕ, ◌≤◌, ◌-◌, ◌++◌, List, length, replicate, ap, ap₂, sym, subst, ◌∙◌}
use Rattle.std.proofs.lemmas.List.{length-take-le}
use Rattle.salt_value.specs.declared.id.MinionId.TheInside.{Inside}
use Rattle.salt_value.specs.IdFields.{bytes_of, IsKept, fields_of}

-- equal bytes and equal lengths are equal fields
same_fields : (xs ys : List ℕ) (m n : ℕ) → xs ≡ ys → m ≡ n → ◌≡◌ {A = Inside} (record { bytes = xs; len = m }) (record { bytes = ys; len = n })
same_fields xs ys m n e f = ap₂ (λ (b : List ℕ) (l : ℕ). record { bytes = b; len = l }) e f

-- the fields of the bytes of an id are its own
pub back : (a : Inside) → IsKept a → fields_of (bytes_of a) ≡ a
back a h =
    let n : length (bytes_of a) ≡ a.len = length-take-le a.len a.bytes (subst (λ k. a.len ≤ k) (sym h.room) h.short) in
    same_fields _ _ _ _ (ap (λ k. bytes_of a ++ replicate (64 - k) 0) n ∙ sym h.padded) n
