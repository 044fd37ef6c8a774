-- What holds of frames alone.
use Rattle.std.specs.Prelude.{◌≡◌, ℕ, List, ◌++◌, Option}
use Rattle.salt_frame.specs.Frames.{frame, IsBody, Reads}

-- a frame is read again, whatever follows it
abbrev pub ArePrefixFree : Type 0
ArePrefixFree = (a b x y : List ℕ) → IsBody a → IsBody b → frame a ++ x ≡ frame b ++ y → (a ≡ b) × (x ≡ y)

-- a stream has one reading at most
abbrev pub IsOneReading : Type 0
IsOneReading = (stream : List ℕ) (bs cs : List (List ℕ)) (m n : Option ℕ) (x y : List ℕ) → Reads stream bs m x → Reads stream cs n y → (bs ≡ cs) × (m ≡ n) × (x ≡ y)
