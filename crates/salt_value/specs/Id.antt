-- The ids of nodes.
use Rattle.std.specs.Prelude.{◌≡◌, ℕ, ◌<◌, ◌≤◌, ◌==◌, nat_le, ◌&&◌, ◌||◌, not, Bool, List, length, IsTrue, position, Some}
use Rattle.std.specs.List.{list_all}
use Rattle.salt_value.specs.Limits.{most_id_bytes}
use Rattle.salt_value.specs.declared.id.IdFault.{IdFault}
use Rattle.salt_value.specs.declared.id.IdFault.TheVariants.{Empty, TooLong, BadByte}

-- a byte of A-Z, a-z, 0-9, `.`, `_` and `-`
abbrev pub is_id_byte : ℕ → Bool
is_id_byte b =
    (nat_le 65 b && nat_le b 90) || (nat_le 97 b && nat_le b 122) || (nat_le 48 b && nat_le b 57)
    || (b == 46) || (b == 95) || (b == 45)

-- such bytes, at least one and no more than the limit
abbrev pub IsId : List ℕ → Type 0
IsId bytes = (0 < length bytes) × (length bytes ≤ most_id_bytes) × IsTrue (list_all is_id_byte bytes)

-- the fault of a text that is no id, the first in the order of the variants; `at` is its first byte that is in no id
abbrev pub HasFault : List ℕ → IdFault → Type 0
HasFault bytes Empty = length bytes ≡ 0
HasFault bytes (TooLong len) = (len ≡ length bytes) × (most_id_bytes < length bytes)
HasFault bytes (BadByte at) =
    (0 < length bytes) × (length bytes ≤ most_id_bytes) × (position (λ b. not (is_id_byte b)) bytes ≡ Some at)
