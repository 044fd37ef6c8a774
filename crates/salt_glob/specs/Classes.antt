-- The classes of a pattern, as `[a-z]` and `[!0-9]`.
use Rattle.std.specs.Prelude.{ℕ, ◌+◌, ◌==◌, nat_le, Bool, true, false, not, ◌&&◌, ◌||◌, if◌then◌else◌, List, [], ◌∷◌, length, take, Option, None, option_map, position, slice_range}
use Rattle.salt_glob.specs.declared.class.Class as places

-- the bytes between the brackets, and whether a `!` stands before them
pub record Class : Type 0 where
  pub negated : Bool
  pub members : List ℕ

-- the bytes before the first `]` that is not the first of them, if there is one
abbrev pub class_after : Bool → List ℕ → Option Class
class_after negated [] = None
class_after negated (first ∷ rest) =
    option_map (λ n. record { negated = negated; members = first ∷ take n rest }) (position (λ b. b == 93) rest)

-- the class that a `[` before this text opens, if a `]` closes it
abbrev pub class_of : List ℕ → Option Class
class_of [] = None
class_of (b ∷ rest) = if b == 33 then class_after true rest else class_after false (b ∷ rest)

-- how many bytes of the pattern a class has after its `[`
abbrev pub class_size : Class → ℕ
class_size c = (if c.negated then 1 else 0) + length c.members + 1

-- the members from left to right: x-y is the bytes from x to y, and each other byte stands for itself
abbrev pub is_member : ℕ → List ℕ → Bool
is_member b [] = false
is_member b (x ∷ []) = b == x
is_member b (x ∷ y ∷ []) = (b == x) || (b == y)
is_member b (x ∷ dash ∷ y ∷ rest) =
    if dash == 45 then (nat_le x b && nat_le b y) || is_member b rest
    else (b == x) || is_member b (dash ∷ y ∷ rest)

-- the class takes the byte
abbrev pub in_class : ℕ → Class → Bool
in_class b c = if c.negated then not (is_member b c.members) else is_member b c.members

-- The class that stands at these places of a pattern. No public contract cites it.
abbrev pub class_in : List ℕ → places.Class → Class
class_in pattern c = record { negated = c.negated; members = slice_range pattern c.first c.end }
