-- Whether a value is within the limits, as a test.
use Rattle.std.specs.Prelude.{◌≤◌, ◌<◌, ◌&&◌, nat_le, Bool, length}
use Rattle.salt_value.specs.declared.value.Value.{Value}
use Rattle.salt_value.specs.Limits.{most_value_levels, most_value_bytes}
use Rattle.salt_value.specs.Spelling.{bytes}
use Rattle.salt_value.specs.WellFormed.{depth, well_formed}

-- the value is well-formed and within the limits of depth and bytes
abbrev pub fits : Value → Bool
fits value = nat_le (depth value) most_value_levels && (nat_le (length (bytes value)) most_value_bytes && well_formed value)

-- a value that isn't too deep is too large
abbrev pub IsPastLimits : Value → Type 0
IsPastLimits value = depth value ≤ most_value_levels → most_value_bytes < length (bytes value)
