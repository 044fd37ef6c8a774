-- The reading with its trees, as the loop makes it: each parenthesis keeps what stands before its last operand.
-- `read_target` says by it which tree it answers; that this is the tree of the grammar is said by Grammar and Targets.
use Rattle.std.specs.Prelude.{◌≡◌, ℕ, zero, suc, ◌+◌, ◌-◌, Bool, true, false, List, [], ◌∷◌, length, map, Option, None, Some, Result, Ok, Err, if◌then◌else◌, nat_le, nat_lt}
use Rattle.target_tree.specs.Nodegroups.{Group}
use Rattle.target_tree.specs.declared.target.Target.{Target}
use Rattle.target_tree.specs.declared.target.Target.TheVariants.{Not, And, Or}
use Rattle.target_tree.specs.declared.fault.TargetFault.{TargetFault}
use Rattle.target_tree.specs.declared.fault.TargetFault.TheVariants.{Empty, TooLong, Word, Unclosed, TooDeep, TooManyWords, TooManyPatterns, UnknownGroup, Circle, BadLetter}
use Rattle.target_tree.specs.declared.token.Token.{Token}
use Rattle.target_tree.specs.declared.token.Token.TheVariants.{AndWord, OrWord, NotWord, OpenWord, CloseWord, Leaf, Pattern, Nodegroup, NoLetter, NoLeaf}
use Rattle.target_tree.specs.Words.{tokens_of}
use Rattle.target_tree.specs.Limits.{most_text_bytes, most_words, most_texts, most_open, most_patterns}
use Rattle.target_tree.specs.Nodegroups.{text_named, is_among}
use Rattle.target_tree.specs.declared.reader.Nest.{Nest}
use Rattle.target_tree.specs.declared.reader.Part.{Part}
use Rattle.target_tree.specs.declared.reader.Reader.{Reader as Machine}
use Rattle.target_tree.specs.declared.reader.Ended.{Ended}
use Rattle.target_tree.specs.declared.kind.Kind.{Kind}
use Rattle.salt_value.specs.Readers.{◌>>=◌}
use Rattle.target_tree.specs.Reading.{Nest as Level, State, Counts, IsFaultAsRead}
use Rattle.target_tree.specs.Targets.{target_words}

-- how far a text has been read with its trees, or the first fault
abbrev pub Step : Type 0
Step = Result Machine TargetFault

-- where nothing stands open but what stood open before
abbrev pub fresh : ℕ → Nest
fresh around = record { around = around; deep = around }

-- one word more stands open
abbrev pub deeper : Nest → Nest
deeper n = record { around = n.around; deep = n.deep + 1 }

-- a tree that `and` joins to those before it, if there are any
abbrev pub joined_and : Option Target → Target → Target
joined_and None t = t
joined_and (Some a) t = And a t

-- a tree that `or` joins to those before it, if there are any
abbrev pub joined_or : Option Target → Target → Target
joined_or None t = t
joined_or (Some a) t = Or a t

-- a tree under so many `not`s
abbrev pub negations : ℕ → Target → Target
negations zero t = t
negations (suc n) t = negations n (Not t)

-- after an operand: it stands under each `not` before it, and is joined to the left by `and`
abbrev pub with_operand : Target → Machine → Machine
with_operand t m = record {
  last = Some (joined_and m.part.left_and (negations (m.part.nest.deep - m.part.nest.around) t));
  part = record { left_or = m.part.left_or; left_and = None; nest = fresh m.part.nest.around };
  parts = m.parts;
  at = m.at;
  patterns = m.patterns;
}

-- a word more was read
abbrev pub with_word : Machine → Machine
with_word m = record m { at = m.at + 1 }

-- a parenthesis or a text at its start
abbrev pub bare : ℕ → Part
bare around = record { left_or = None; left_and = None; nest = fresh around }

-- a word where an operand is due; `group` reads a nodegroup's words
abbrev pub machine_operand : (List ℕ → Machine → Step) → Token → Machine → Step
machine_operand group NotWord m =
    if nat_le most_open m.part.nest.deep then Err TooDeep else Ok (with_word (record m { part = record { left_or = m.part.left_or; left_and = m.part.left_and; nest = deeper m.part.nest } }))
machine_operand group OpenWord m =
    if nat_le most_open m.part.nest.deep then Err TooDeep else Ok (with_word (record m { part = bare (m.part.nest.deep + 1); parts = m.part ∷ m.parts }))
machine_operand group (Leaf t) m = Ok (with_operand t (with_word m))
machine_operand group (Pattern t) m =
    if nat_le most_patterns m.patterns then Err TooManyPatterns else Ok (with_operand t (with_word (record m { patterns = m.patterns + 1 })))
machine_operand group (Nodegroup name) m = group name m
machine_operand group NoLetter m = Err (BadLetter m.at)
machine_operand group AndWord m = Err (Word m.at)
machine_operand group OrWord m = Err (Word m.at)
machine_operand group CloseWord m = Err (Word m.at)
machine_operand group NoLeaf m = Err (Word m.at)

-- a `)`: the tree of the innermost parenthesis is an operand of the one around it
abbrev pub machine_closing : Target → List Part → Machine → Step
machine_closing t [] m = Err (Word m.at)
machine_closing t (part ∷ parts) m = Ok (with_operand (joined_or m.part.left_or t) (with_word (record m { part = part; parts = parts })))

-- a word where no operand is due, after the operands that `and` joined
abbrev pub machine_operator : Target → Token → Machine → Step
machine_operator t AndWord m = Ok (with_word (record m { last = None; part = record { left_or = m.part.left_or; left_and = Some t; nest = m.part.nest } }))
machine_operator t OrWord m = Ok (with_word (record m { last = None; part = record { left_or = Some (joined_or m.part.left_or t); left_and = None; nest = m.part.nest } }))
machine_operator t CloseWord m = machine_closing t m.parts m
machine_operator t NotWord m = Err (Word m.at)
machine_operator t OpenWord m = Err (Word m.at)
machine_operator t (Leaf u) m = Err (Word m.at)
machine_operator t (Pattern u) m = Err (Word m.at)
machine_operator t (Nodegroup name) m = Err (Word m.at)
machine_operator t NoLetter m = Err (Word m.at)
machine_operator t NoLeaf m = Err (Word m.at)

-- a word, by whether an operand is due
abbrev pub machine_by : (List ℕ → Machine → Step) → Token → Option Target → Machine → Step
machine_by group word None m = machine_operand group word m
machine_by group word (Some t) m = machine_operator t word m

-- a word: too many words come before its other faults
abbrev pub machine_word : (List ℕ → Machine → Step) → Token → Machine → Step
machine_word group word m = if nat_le most_words m.at then Err TooManyWords else machine_by group word m.last m

-- words from left to right
abbrev pub machine_all : (List ℕ → Machine → Step) → List Token → Machine → Step
machine_all group [] m = Ok m
machine_all group (word ∷ words) m = machine_word group word m >>= machine_all group words

-- the end of a text where no operand is due: each parenthesis of this text has to be closed
abbrev pub machine_closed : Target → List Part → Machine → Result Ended TargetFault
machine_closed t [] m = Ok (record { tree = joined_or m.part.left_or t; at = m.at; patterns = m.patterns })
machine_closed t (part ∷ parts) m = Err Unclosed

-- the end of a text, by whether an operand is due
abbrev pub machine_end_by : Option Target → Machine → Result Ended TargetFault
machine_end_by None m = Err (Word m.at)
machine_end_by (Some t) m = machine_closed t m.parts m

-- the end of a text
abbrev pub machine_end : Machine → Result Ended TargetFault
machine_end m = machine_end_by m.last m

-- a whole text: first whether it has a word and isn't too long
abbrev pub machine_text : (List ℕ → Machine → Step) → List ℕ → Machine → Result Ended TargetFault
machine_text group text m =
    if nat_le (length (tokens_of text)) 0 then Err Empty
    else if nat_lt most_text_bytes (length text) then Err TooLong
    else machine_all group (tokens_of text) m >>= machine_end

-- where a text begins: an operand is due, and what stands open is around it
abbrev pub machine_begun : ℕ → ℕ → ℕ → Machine
machine_begun around at patterns = record { last = None; part = bare around; parts = []; at = at; patterns = patterns }

-- after a nodegroup's text: its tree is an operand
abbrev pub machine_resumed : Machine → Ended → Step
machine_resumed m e = Ok (with_operand e.tree (record m { at = e.at; patterns = e.patterns }))

-- a nodegroup's word, with its text if there is one; `names` are being expanded
abbrev pub machine_found : (List (List ℕ) → List ℕ → Machine → Step) → List (List ℕ) → List ℕ → Machine → Option (List ℕ) → Step
machine_found group names name m None = Err (UnknownGroup m.at)
machine_found group names name m (Some text) =
    if is_among names name then Err (Circle m.at)
    else machine_text (group (name ∷ names)) text (machine_begun m.part.nest.deep (m.at + 1) m.patterns) >>= machine_resumed m

-- the words of a nodegroup's text are read where its word stands
unfoldable pub machine_group : ℕ → List Group → List (List ℕ) → List ℕ → Machine → Step
machine_group zero groups names name m = Err TooManyWords
machine_group (suc depth) groups names name m = machine_found (machine_group depth groups) names name m (text_named groups name)

-- An operand is due. No public contract cites it.
abbrev pub is_due : Option Target → Bool
is_due None = true
is_due (Some t) = false

-- How many words stand open. No public contract cites it.
abbrev pub level_of : Part → Level
level_of p = record { around = p.nest.around; deep = p.nest.deep }

-- The state of the fold that knows no tree. No public contract cites it.
abbrev pub state_of : Machine → State
state_of m = record { due = is_due m.last; nest = level_of m.part; nests = map level_of m.parts; at = m.at; patterns = m.patterns }

-- Words and pattern leaves at the end. No public contract cites it.
abbrev pub counts_of : Ended → Counts
counts_of e = record { at = e.at; patterns = e.patterns }

-- What a function returned is what the machine gives, unless memory ran out.
abbrev pub GivesTree : {A : Type 0} → Result A TargetFault → Result A TargetFault → Type 0
GivesTree (Ok x) to = to ≡ Ok x
GivesTree (Err e) to = IsFaultAsRead e to

-- No nodegroup is read here. No public contract cites it.
abbrev pub no_group : List ℕ → Machine → Step
no_group name m = Err (Word m.at)

-- the reading of a whole target with its tree
abbrev pub machine_target : Kind → List Group → List ℕ → Result Ended TargetFault
machine_target kind groups text =
    if nat_le (length (target_words kind text)) 0 then Err Empty
    else if nat_lt most_text_bytes (length text) then Err TooLong
    else machine_all (machine_group most_texts groups []) (target_words kind text) (machine_begun 0 0 0) >>= machine_end

-- the tree at the end
abbrev pub tree_of : Ended → Result Target TargetFault
tree_of e = Ok e.tree

-- the tree of a whole target, or its first fault
abbrev pub machine_tree : Kind → List Group → List ℕ → Result Target TargetFault
machine_tree kind groups text = machine_target kind groups text >>= tree_of
