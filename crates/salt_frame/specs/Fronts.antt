-- What stands at the front of a stream.
use Rattle.std.specs.Prelude.{◌≡◌, ◌+◌, ℕ, List, ◌++◌, length, drop}
use Rattle.salt_frame.specs.declared.front.Front.{Front}
use Rattle.salt_frame.specs.declared.front.Front.TheVariants as fronts
use Rattle.salt_frame.specs.Frames.{frame, IsBody, IsPartial, IsOver}

-- The front is told rightly: a whole frame of this size, less than one, or a length over the limit. No public contract cites it.
abbrev pub IsFront : List ℕ → Front → Type 0
IsFront bytes fronts.Partial = IsPartial bytes
IsFront bytes (fronts.Over n) = IsOver n bytes
IsFront bytes (fronts.Frame size) = (body : List ℕ) × IsBody body × (size ≡ 4 + length body) × (bytes ≡ frame body ++ drop size bytes)
