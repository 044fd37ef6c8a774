-- The limits of a target.
use Rattle.std.specs.Prelude.{ℕ, ◌+◌}

-- bytes of a text
abbrev pub most_text_bytes : ℕ
most_text_bytes = 4096

-- words, over all texts
abbrev pub most_words : ℕ
most_words = 256

-- texts that lie in one another: each but the outermost follows a word
abbrev pub most_texts : ℕ
most_texts = most_words + 1

-- words `not` and `(` that stand open, over all texts
abbrev pub most_open : ℕ
most_open = 64

-- leaves with a pattern, over all texts
abbrev pub most_patterns : ℕ
most_patterns = 16
