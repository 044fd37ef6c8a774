-- Words: the tags of events and the names of functions.
use Rattle.std.specs.Prelude.{◌≡◌, ℕ, ◌<◌, ◌≤◌, nat_le, ◌&&◌, not, Bool, List, length, IsTrue, position, Some}
use Rattle.std.specs.List.{list_all}
use Rattle.salt_value.specs.Limits.{most_word_bytes}
use Rattle.salt_value.specs.declared.word.WordFault.{WordFault}
use Rattle.salt_value.specs.declared.word.WordFault.TheVariants.{NoMemory, Empty, TooLong, BadByte}

-- a printable byte of ASCII that is no blank
abbrev pub is_word_byte : ℕ → Bool
is_word_byte b = nat_le 33 b && nat_le b 126

-- such bytes, at least one and no more than the limit
abbrev pub IsWord : List ℕ → Type 0
IsWord bytes = (0 < length bytes) × (length bytes ≤ most_word_bytes) × IsTrue (list_all is_word_byte bytes)

-- why no word was read, the first in the order of the variants but the first; memory may be wanted for a word alone
abbrev pub HasFault : List ℕ → WordFault → Type 0
HasFault bytes NoMemory = IsWord bytes
HasFault bytes Empty = length bytes ≡ 0
HasFault bytes (TooLong len) = (len ≡ length bytes) × (most_word_bytes < length bytes)
HasFault bytes (BadByte at) =
    (0 < length bytes) × (length bytes ≤ most_word_bytes) × (position (λ b. not (is_word_byte b)) bytes ≡ Some at)
