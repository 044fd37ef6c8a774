-- Words, and the letter of a word, for the functions that read them. No public contract cites it.
use Rattle.std.specs.Prelude.{◌≡◌, ℕ, true, false, List, [], ◌∷◌, drop, slice_index, Option, MatchOption}
use Rattle.std.specs.Borrow.{Bor}
use Rattle.target_tree.specs.Words.{is_lettered, words_of}

-- a word that begins with this capital and an @, and goes on so
pub record IsParted (word : List ℕ) (letter : ℕ) (text : List ℕ) : Type 0 where
  pub is : is_lettered word ≡ true
  pub letter_is : slice_index word 0 ≡ letter
  pub text_is : drop 2 word ≡ text

-- the capital and what follows its @, and none where a word begins otherwise
abbrev pub PartsWord : List ℕ → Option (ℕ × Bor (List ℕ)) → Type 0
PartsWord word answer = MatchOption answer (is_lettered word ≡ false) (λ x. IsParted word x.0 x.1.now)

-- the first word of a text and what follows it, and none where there is no word
abbrev pub CutsWord : List ℕ → Option (Bor (List ℕ) × Bor (List ℕ)) → Type 0
CutsWord text answer = MatchOption answer (words_of text ≡ []) (λ x. words_of text ≡ x.0.now ∷ words_of x.1.now)
