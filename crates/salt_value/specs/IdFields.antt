-- The fields of an id and its bytes.
use Rattle.std.specs.Prelude.{◌≡◌, ℕ, ◌≤◌, ◌-◌, ◌++◌, List, length, take, replicate}
use Rattle.salt_value.specs.Limits.{most_id_bytes}
use Rattle.salt_value.specs.Id.{IsId}
use Rattle.salt_value.specs.declared.id.MinionId.TheInside.{Inside}

-- the first bytes, as many as the length says
abbrev pub bytes_of : Inside → List ℕ
bytes_of a = take a.len a.bytes

-- they are an id, and the bytes after them are 0
pub record IsKept (a : Inside) : Type 0 where
  pub short : a.len ≤ most_id_bytes
  pub room : length a.bytes ≡ most_id_bytes
  pub padded : a.bytes ≡ bytes_of a ++ replicate (most_id_bytes - a.len) 0
  pub id : IsId (bytes_of a)

-- the fields that hold these bytes
abbrev pub fields_of : List ℕ → Inside
fields_of xs = record { bytes = xs ++ replicate (most_id_bytes - length xs) 0; len = length xs }
