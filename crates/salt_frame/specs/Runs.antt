-- Every run of feeds and takings.
use Rattle.std.specs.Prelude.{◌≡◌, ℕ, List, [], ◌∷◌, ◌++◌, None}
use Rattle.salt_frame.specs.Buffer.{BufferState, HoldsRest, Feeds, Lends}

-- a feed that took its piece, or found a length over the limit; and a call of next that lent a body
pub data Event : Type 0 where
  fed : List ℕ → Event
  took : List ℕ → Event

-- what the contracts say of each
abbrev pub Moves : BufferState → Event → BufferState → Type 0
Moves old (fed piece) new = Feeds old piece new
Moves old (took body) new = Lends old body new

-- one after the other
abbrev pub Runs : BufferState → List Event → BufferState → Type 0
Runs old [] new = new ≡ old
Runs old (e ∷ es) new = (mid : BufferState) × Moves old e mid × Runs mid es new

-- all that was fed, in order
abbrev pub stream : List Event → List ℕ
stream [] = []
stream (fed piece ∷ es) = piece ++ stream es
stream (took body ∷ es) = stream es

-- all bodies that were taken, in order
abbrev pub bodies : List Event → List (List ℕ)
bodies [] = []
bodies (fed piece ∷ es) = bodies es
bodies (took body ∷ es) = body ∷ bodies es

-- However the stream was cut: the bodies taken are the first of its frames, and the other frames and the rest are held.
abbrev pub AnyCutting : Type 0
AnyCutting = (es : List Event) (new : BufferState) → Runs (record { kept = []; over = None }) es new → HoldsRest (stream es) (bodies es) new
