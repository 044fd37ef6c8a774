-- The fields of a buffer.
use Rattle.std.specs.Prelude.{◌≡◌, ◌≤◌, ◌-◌, ◌<◌, ◌^◌, ℕ, List, length, take, drop, Option, Some, None}
use Rattle.std.specs.Int.{w32, to_be_bytes}
use Rattle.std.specs.List.{AllByRecursion}
use Rattle.salt_frame.specs.Frames.{frames, limit, IsBody, IsPartial}
use Rattle.salt_frame.specs.Buffer.{BufferState}
use Rattle.salt_frame.specs.declared.buffer.FrameBuf.TheInside.{Inside}

-- what a buffer's fields hold
abbrev pub view_of : Inside → BufferState
view_of a = record { kept = drop a.start a.bytes.items; over = a.over }

-- Whole frames alone. No public contract cites it.
abbrev pub AreFrames : List ℕ → Type 0
AreFrames bytes = (bodies : List (List ℕ)) × (bytes ≡ frames bodies) × AllByRecursion IsBody bodies

-- Less than a whole frame, or nothing but the length that is over the limit. No public contract cites it.
abbrev pub IsTail : Option ℕ → List ℕ → Type 0
IsTail None rest = IsPartial rest
IsTail (Some n) rest = (limit < n) × (n < 2 ^ 32) × (rest ≡ to_be_bytes w32 n)

-- The fields fit together: frames that were not taken, whole ones, and then the rest. No public contract cites it.
pub record IsInside (a : Inside) : Type 0 where
  pub ordered : a.start ≤ a.ready
  pub within : a.ready ≤ length a.bytes.items
  pub frames : AreFrames (take (a.ready - a.start) (drop a.start a.bytes.items))
  pub tail : IsTail a.over (drop a.ready a.bytes.items)
