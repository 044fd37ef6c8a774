-- Which values have a spelling, and which of them are within the limits.
use Rattle.std.specs.Prelude.{ℕ, ℤ, pos, negsuc, suc, max, ◌≡◌, ◌≤◌, Bool, true, ◌&&◌, nat_lt, List, [], ◌∷◌, length, map}
use Rattle.std.specs.Str.{is_utf8}
use Rattle.salt_value.specs.declared.value.Value.{Value, fold-Value}
use Rattle.salt_value.specs.declared.value.Value.TheOpen.{Value-F}
use Rattle.salt_value.specs.Keys.{keys_of, ascends}
use Rattle.salt_value.specs.Limits.{most_value_levels, most_value_bytes}
use Rattle.salt_value.specs.Spelling.{bytes}

-- all of these hold
abbrev pub every : List Bool → Bool
every [] = true
every (b ∷ bs) = b && every bs

-- a number that has four bytes
abbrev pub is_count : ℕ → Bool
is_count n = nat_lt n 4294967296

-- UTF-8 of fewer than 2 ^ 32 bytes
abbrev pub is_text : List ℕ → Bool
is_text t = is_count (length t) && is_utf8 t

-- each key is a text, and what is told of each value holds
abbrev pub every_pair : List (List ℕ × Bool) → Bool
every_pair [] = true
every_pair (p ∷ ps) = is_text p.0 && (p.1 && every_pair ps)

-- a number of 64 bits in two's complement
abbrev pub is_int : ℤ → Bool
is_int (pos n) = nat_lt n 9223372036854775808
is_int (negsuc n) = nat_lt n 9223372036854775808

-- one layer of a value, where for each member stands whether it is well-formed
abbrev pub well_formed_layer : Value-F Bool → Bool
well_formed_layer Value-F.Null = true
well_formed_layer (Value-F.Flag b) = true
well_formed_layer (Value-F.Int z) = is_int z
well_formed_layer (Value-F.Str t) = is_text t
well_formed_layer (Value-F.List xs) = is_count (length xs) && every xs
well_formed_layer (Value-F.Map ps) = is_count (length ps) && (every_pair ps && ascends (keys_of ps))

-- numbers of 64 bits, texts of UTF-8, keys that ascend, and no count past four bytes
abbrev pub well_formed : Value → Bool
well_formed = fold-Value Bool well_formed_layer

-- the value has a spelling
abbrev pub IsWellFormed : Value → Type 0
IsWellFormed v = well_formed v ≡ true

-- each of these values has a spelling
abbrev pub AllWellFormed : List Value → Type 0
AllWellFormed vs = every (map well_formed vs) ≡ true

-- each of these pairs has a spelling
abbrev pub PairsWellFormed : List (List ℕ × Value) → Type 0
PairsWellFormed ps = every_pair (map (λ p. (p.0, well_formed p.1)) ps) ≡ true

-- the greatest of some numbers, and 0 of none
abbrev pub greatest : List ℕ → ℕ
greatest [] = 0
greatest (n ∷ ns) = max n (greatest ns)

-- one layer of a value, with the depth of each member in the member's place
abbrev pub depth_layer : Value-F ℕ → ℕ
depth_layer Value-F.Null = 1
depth_layer (Value-F.Flag b) = 1
depth_layer (Value-F.Int z) = 1
depth_layer (Value-F.Str t) = 1
depth_layer (Value-F.List ns) = suc (greatest ns)
depth_layer (Value-F.Map ps) = suc (greatest (map (λ p. p.1) ps))

-- a scalar and an empty list or map have depth 1, any other value one more than its deepest member
abbrev pub depth : Value → ℕ
depth = fold-Value ℕ depth_layer

-- the value is well-formed and within the limits of depth and bytes
pub record ValueFits (v : Value) : Type 0 where
  pub deep : depth v ≤ most_value_levels
  pub long : length (bytes v) ≤ most_value_bytes
  pub well_formed : IsWellFormed v
