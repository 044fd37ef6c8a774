-- The limits, which are this project's own.
use Rattle.std.specs.Prelude.{ℕ}

-- the bytes of the longest id
abbrev pub most_id_bytes : ℕ
most_id_bytes = 64

-- the bytes of the longest word
abbrev pub most_word_bytes : ℕ
most_word_bytes = 256

-- the levels of the deepest value
abbrev pub most_value_levels : ℕ
most_value_levels = 32

-- the bytes of the longest value
abbrev pub most_value_bytes : ℕ
most_value_bytes = 65536
