-- The pairs on one side of a key. No public contract cites it.
use Rattle.std.specs.Prelude.{ℕ, not, Bool, true, List, filter, bytes_eq}
use Rattle.salt_value.specs.declared.value.Value.{Value}
use Rattle.salt_value.specs.Keys.{before}
use Rattle.salt_value.specs.declared.changes.Side.{Side}
use Rattle.salt_value.specs.declared.changes.Side.TheVariants.{Every, Before, After, Other}

-- a name stands on this side of a key
abbrev pub is_on : Side → List ℕ → List ℕ → Bool
is_on Every key name = true
is_on Before key name = before name key
is_on After key name = before key name
is_on Other key name = not (bytes_eq name key)

-- the pairs whose keys stand on this side of a key
abbrev pub on_side : Side → List ℕ → List (List ℕ × Value) → List (List ℕ × Value)
on_side side key ps = filter (λ p. is_on side key p.0) ps
