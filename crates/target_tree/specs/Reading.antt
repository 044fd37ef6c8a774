-- The faults of a compound: a fold over its words that knows no tree.
use Rattle.std.specs.Prelude.{◌≡◌, ℕ, zero, suc, ◌+◌, Bool, true, false, nat_le, nat_lt, List, [], ◌∷◌, length, if◌then◌else◌, Option, None, Some, Result, Ok, Err}
use Rattle.target_tree.specs.Nodegroups.{Group}
use Rattle.salt_value.specs.Readers.{◌>>=◌}
use Rattle.target_tree.specs.declared.fault.TargetFault.{TargetFault}
use Rattle.target_tree.specs.declared.fault.TargetFault.TheVariants.{NoMemory, Empty, TooLong, Word, Unclosed, TooDeep, TooManyWords, TooManyPatterns, UnknownGroup, Circle, BadLetter}
use Rattle.target_tree.specs.declared.token.Token.{Token}
use Rattle.target_tree.specs.declared.token.Token.TheVariants.{AndWord, OrWord, NotWord, OpenWord, CloseWord, Leaf, Pattern, Nodegroup, NoLetter, NoLeaf}
use Rattle.target_tree.specs.Words.{tokens_of}
use Rattle.target_tree.specs.Limits.{most_text_bytes, most_words, most_open, most_patterns}
use Rattle.target_tree.specs.Nodegroups.{text_named, is_among}

-- Of a parenthesis, or of a whole text: how many words `not` and `(` stood open where it began, and how many do now.
pub record Nest : Type 0 where
  pub around : ℕ
  pub deep : ℕ

-- How far a text has been read.
pub record State : Type 0 where
  -- an operand is due
  pub due : Bool
  -- the innermost parenthesis of this text, or the text itself, and those around it in this text
  pub nest : Nest
  pub nests : List Nest
  -- words read so far, and pattern leaves, over all texts
  pub at : ℕ
  pub patterns : ℕ

-- how far, or the first fault
abbrev pub ReadAnswer : Type 0
ReadAnswer = Result State TargetFault

-- where a text ends: how many words and pattern leaves were read
pub record Counts : Type 0 where
  pub at : ℕ
  pub patterns : ℕ

-- A fault that was answered is that of this reading, unless memory ran out.
abbrev pub IsFaultAsRead : {A : Type 0} → TargetFault → Result A TargetFault → Type 0
IsFaultAsRead NoMemory reading = Unit {0}
IsFaultAsRead fault reading = reading ≡ Err fault

-- a word more was read
abbrev pub read_on : State → State
read_on s = record s { at = s.at + 1 }

-- where nothing stands open but what stood open before
abbrev pub fresh : ℕ → Nest
fresh around = record { around = around; deep = around }

-- one word more stands open
abbrev pub deeper : Nest → Nest
deeper n = record n { deep = n.deep + 1 }

-- an operand ended: each `not` before it is taken off
abbrev pub after_operand : State → State
after_operand s = record s { due = false; nest = fresh s.nest.around }

-- a word where an operand is due; `group` reads a nodegroup's words
abbrev pub operand_word : (List ℕ → State → ReadAnswer) → Token → State → ReadAnswer
operand_word group NotWord s =
    if nat_le most_open s.nest.deep then Err TooDeep else Ok (read_on (record s { nest = deeper s.nest }))
operand_word group OpenWord s =
    if nat_le most_open s.nest.deep then Err TooDeep else Ok (read_on (record s { nest = fresh (s.nest.deep + 1); nests = s.nest ∷ s.nests }))
operand_word group (Leaf t) s = Ok (after_operand (read_on s))
operand_word group (Pattern t) s =
    if nat_le most_patterns s.patterns then Err TooManyPatterns else Ok (after_operand (read_on (record s { patterns = s.patterns + 1 })))
operand_word group (Nodegroup name) s = group name s
operand_word group NoLetter s = Err (BadLetter s.at)
operand_word group AndWord s = Err (Word s.at)
operand_word group OrWord s = Err (Word s.at)
operand_word group CloseWord s = Err (Word s.at)
operand_word group NoLeaf s = Err (Word s.at)

-- a `)`: it closes the innermost parenthesis of this text
abbrev pub closing : List Nest → State → ReadAnswer
closing [] s = Err (Word s.at)
closing (nest ∷ nests) s = Ok (after_operand (read_on (record s { nest = nest; nests = nests })))

-- a word where no operand is due
abbrev pub operator_word : Token → State → ReadAnswer
operator_word AndWord s = Ok (read_on (record s { due = true }))
operator_word OrWord s = Ok (read_on (record s { due = true }))
operator_word CloseWord s = closing s.nests s
operator_word NotWord s = Err (Word s.at)
operator_word OpenWord s = Err (Word s.at)
operator_word (Leaf t) s = Err (Word s.at)
operator_word (Pattern t) s = Err (Word s.at)
operator_word (Nodegroup name) s = Err (Word s.at)
operator_word NoLetter s = Err (Word s.at)
operator_word NoLeaf s = Err (Word s.at)

-- a word: too many words come before its other faults
abbrev pub one_word : (List ℕ → State → ReadAnswer) → Token → State → ReadAnswer
one_word group word s =
    if nat_le most_words s.at then Err TooManyWords else if s.due then operand_word group word s else operator_word word s

-- words from left to right
abbrev pub all_words : (List ℕ → State → ReadAnswer) → List Token → State → ReadAnswer
all_words group [] s = Ok s
all_words group (word ∷ words) s = one_word group word s >>= all_words group words

-- where no operand is due at a text's end: each parenthesis of this text has to be closed
abbrev pub after_closing : List Nest → State → Result Counts TargetFault
after_closing [] s = Ok (record { at = s.at; patterns = s.patterns })
after_closing (nest ∷ nests) s = Err Unclosed

-- the end of a text
abbrev pub text_end : State → Result Counts TargetFault
text_end s = if s.due then Err (Word s.at) else after_closing s.nests s

-- a whole text: first whether it has a word and isn't too long
abbrev pub whole_text : (List ℕ → State → ReadAnswer) → List ℕ → State → Result Counts TargetFault
whole_text group text s =
    if nat_le (length (tokens_of text)) 0 then Err Empty
    else if nat_lt most_text_bytes (length text) then Err TooLong
    else all_words group (tokens_of text) s >>= text_end

-- where a text begins: an operand is due, and what stands open is around it
abbrev pub begun : ℕ → ℕ → ℕ → State
begun around at patterns =
    record { due = true; nest = fresh around; nests = []; at = at; patterns = patterns }

-- after a nodegroup's text: its words were read, and the operand ends
abbrev pub after_group : State → Counts → ReadAnswer
after_group s inner = Ok (after_operand (record s { at = inner.at; patterns = inner.patterns }))

-- A nodegroup's word, with its text if there is one; `names` are being expanded, and `group` reads a word in its text.
abbrev pub group_answer : (List (List ℕ) → List ℕ → State → ReadAnswer) → List (List ℕ) → List ℕ → State → Option (List ℕ) → ReadAnswer
group_answer group names name s None = Err (UnknownGroup s.at)
group_answer group names name s (Some text) =
    if is_among names name then Err (Circle s.at)
    else whole_text (group (name ∷ names)) text (begun s.nest.deep (s.at + 1) s.patterns) >>= after_group s

-- The words of a nodegroup's text are read where its word stands.
-- Each text within a text follows a word, so no more than `most_texts` lie in one another.
unfoldable pub group_word : ℕ → List Group → List (List ℕ) → List ℕ → State → ReadAnswer
group_word zero groups names name s = Err TooManyWords
group_word (suc depth) groups names name s = group_answer (group_word depth groups) names name s (text_named groups name)
