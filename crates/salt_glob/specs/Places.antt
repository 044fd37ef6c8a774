-- Places of a pattern and of a text, as a matcher goes over them. No public contract cites it.
use Rattle.std.specs.Prelude.{◌≡◌, ◌≢◌, ◌<◌, ◌≤◌, ◌+◌, ◌||◌, ℕ, Bool, List, length, drop, Option, Some, None, option_map, slice_index}
use Rattle.salt_glob.specs.Classes.{Class, class_in, class_size, is_member}
use Rattle.salt_glob.specs.Globs.{piece_at, bytes_taken, MatchesAt}
use Rattle.salt_glob.specs.LowerCase.{matcher_bytes}
use Rattle.salt_glob.specs.declared.class.Class as places

-- ---- classes

-- the class that was found in a pattern, if one was
abbrev pub class_found : List ℕ → Option places.Class → Option Class
class_found pattern found = option_map (class_in pattern) found

-- the class has this flag, begins at this place, and has a `]` after its first member
abbrev pub IsClosed : Bool → ℕ → List ℕ → places.Class → Type 0
IsClosed negated first pattern c =
    (c.negated ≡ negated) × (c.first ≡ first) × (c.first < c.end) × (c.end < length pattern)

-- the class is the bytes of the pattern from this place up to its `]`
abbrev pub IsClassFrom : ℕ → List ℕ → places.Class → Type 0
IsClassFrom from pattern c =
    (from ≤ c.first) × (c.first < c.end) × (c.end < length pattern) × (c.end + 1 ≡ from + class_size (class_in pattern c))

-- at this place of the members stands the first byte of a range
abbrev pub BeginsRange : List ℕ → ℕ → Type 0
BeginsRange members at = (at + 2 < length members) × (slice_index members (at + 1) ≡ 45)

-- whether the byte is a member from a place on is told by what stands there, of so many bytes, and by what comes after it
abbrev pub IsToldFrom : ℕ → List ℕ → ℕ → Bool × ℕ → Type 0
IsToldFrom byte members at front =
    is_member byte (drop at members) ≡ (front.0 || is_member byte (drop (at + front.1) members))

-- ---- searches for a byte

-- from one place up to another, which is in the bytes, the byte doesn't stand
abbrev pub PassesFrom : ℕ → List ℕ → ℕ → ℕ → Type 0
PassesFrom byte bytes from n = (from ≤ n) × (n < length bytes) × ((k : ℕ) → from ≤ k → k < n → slice_index bytes k ≢ byte)

-- from a place on the byte stands nowhere
abbrev pub LacksFrom : ℕ → List ℕ → ℕ → Type 0
LacksFrom byte bytes from = (k : ℕ) → from ≤ k → k < length bytes → slice_index bytes k ≢ byte

-- before a place, which is in the bytes, no byte is read as this one
abbrev pub PassesTo : Bool → ℕ → List ℕ → ℕ → Type 0
PassesTo is_caseless byte bytes n = (n < length bytes) × ((k : ℕ) → k < n → slice_index (matcher_bytes is_caseless bytes) k ≢ byte)

-- no byte is read as this one
abbrev pub LacksByte : Bool → ℕ → List ℕ → Type 0
LacksByte is_caseless byte bytes = (k : ℕ) → k < length bytes → slice_index (matcher_bytes is_caseless bytes) k ≢ byte

-- ---- steps of a matcher

-- the piece at a place takes the byte, and has so many bytes of the pattern
abbrev pub TakesByte : List ℕ → ℕ → ℕ → ℕ → Type 0
TakesByte pattern at byte n =
    (at < length pattern) × (bytes_taken (piece_at pattern at) byte ≡ Some n) × (at + n ≤ length pattern)

-- the piece at a place, if there is one, doesn't take the byte
abbrev pub RefusesByte : List ℕ → ℕ → ℕ → Type 0
RefusesByte pattern at byte = at < length pattern → bytes_taken (piece_at pattern at) byte ≡ None

-- from one place of the text up to another the pattern from a place on doesn't hold
abbrev pub StartsFrom : List ℕ → List ℕ → ℕ → ℕ → ℕ → Type 0
StartsFrom pattern text after from n =
    (from ≤ n) × (n ≤ length text) × ((u : ℕ) → from ≤ u → u < n → MatchesAt pattern text after u → ⊥)

-- from a place of the text on it holds nowhere
abbrev pub NeverStarts : List ℕ → List ℕ → ℕ → ℕ → Type 0
NeverStarts pattern text after from = (u : ℕ) → from ≤ u → MatchesAt pattern text after u → ⊥
