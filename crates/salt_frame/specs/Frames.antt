-- Frames of a byte stream: a length in four bytes, big-endian, and a body.
use Rattle.std.specs.Prelude.{◌≡◌, ◌⊎◌, ◌<◌, ◌≤◌, ◌+◌, ◌^◌, ℕ, List, ◌++◌, length, take, Option, Some, None}
use Rattle.std.specs.Int.{w32, to_be_bytes, from_be_bytes}
use Rattle.std.specs.List.{flat_map, AllByRecursion}

-- the most bytes that a body has
abbrev pub limit : ℕ
limit = 1048576

-- the frame of a body: the four bytes of its length, and the body
abbrev pub frame : List ℕ → List ℕ
frame body = to_be_bytes w32 (length body) ++ body

-- the frames of these bodies, one after the other
abbrev pub frames : List (List ℕ) → List ℕ
frames bodies = flat_map frame bodies

-- a body is within the limit
abbrev pub IsBody : List ℕ → Type 0
IsBody body = length body ≤ limit

-- the length that the first four bytes say
abbrev pub length_at : List ℕ → ℕ
length_at bytes = from_be_bytes w32 (take 4 bytes)

-- less than a whole frame, and no length over the limit
abbrev pub IsPartial : List ℕ → Type 0
IsPartial bytes = (length bytes < 4) ⊎ ((length_at bytes ≤ limit) × (length bytes < 4 + length_at bytes))

-- at the front stands a length of n, which is over the limit
abbrev pub IsOver : ℕ → List ℕ → Type 0
IsOver n bytes = (limit < n) × (n < 2 ^ 32) × ((more : List ℕ) × (bytes ≡ to_be_bytes w32 n ++ more))

-- whole frames, and then the rest
pub record Splits (stream : List ℕ) (bodies : List (List ℕ)) (rest : List ℕ) : Type 0 where
  pub whole : stream ≡ frames bodies ++ rest
  pub each : AllByRecursion IsBody bodies

-- the rest is less than a frame, or begins with the length that is over the limit
abbrev pub Ends : Option ℕ → List ℕ → Type 0
Ends None rest = IsPartial rest
Ends (Some n) rest = IsOver n rest

-- a reading of a stream: its whole frames, and the rest, which a length over the limit may begin
pub record Reads (stream : List ℕ) (bodies : List (List ℕ)) (over : Option ℕ) (rest : List ℕ) : Type 0 where
  pub splits : Splits stream bodies rest
  pub ends : Ends over rest

-- a frame's length in the stream is n, which is over the limit
abbrev pub HasOver : ℕ → List ℕ → Type 0
HasOver n stream = (bodies : List (List ℕ)) × (rest : List ℕ) × Reads stream bodies (Some n) rest
