-- What is left to be read, over the texts that wait for the words of a nodegroup. No public contract cites it.
use Rattle.std.specs.Prelude.{◌≡◌, ℕ, suc, ◌+◌, ◌-◌, ◌≤◌, List, [], ◌∷◌, length, map, Option, None, Some, Result, Ok, Err, if◌then◌else◌, nat_le, nat_lt}
use Rattle.std.specs.Borrow.{Bor}
use Rattle.target_tree.specs.Nodegroups.{Group}
use Rattle.target_tree.specs.declared.target.Target.{Target}
use Rattle.target_tree.specs.declared.token.Token.{Token}
use Rattle.target_tree.specs.declared.token.Token.TheVariants.{Nodegroup}
use Rattle.target_tree.specs.declared.reader.Reader.{Reader as Machine}
use Rattle.target_tree.specs.declared.run.Outer.{Outer}
use Rattle.target_tree.specs.declared.fault.TargetFault.{TargetFault}
use Rattle.target_tree.specs.declared.fault.TargetFault.TheVariants.{Empty, TooLong, Word, TooManyWords, UnknownGroup, Circle}
use Rattle.target_tree.specs.Limits.{most_text_bytes, most_words, most_texts}
use Rattle.target_tree.specs.Words.{tokens_of}
use Rattle.target_tree.specs.Nodegroups.{text_named, is_among}
use Rattle.salt_value.specs.Readers.{◌>>=◌}
use Rattle.target_tree.specs.Reading.{IsFaultAsRead}
use Rattle.target_tree.specs.Machine.{machine_all, machine_end, machine_resumed, machine_group, machine_begun}

-- the names of the nodegroups that are being expanded
abbrev pub names_of : List Outer → List (List ℕ)
names_of outers = map (λ (o : Outer). o.name) outers

-- the rest of the innermost text, and then that of each text around it
unfoldable pub going : ℕ → List Group → List Outer → List Token → Machine → Result Target TargetFault
going depth groups [] words m = (machine_all (machine_group depth groups []) words m >>= machine_end) >>= λ e. Ok e.tree
going depth groups (outer ∷ outers) words m =
    ((machine_all (machine_group depth groups (outer.name ∷ names_of outers)) words m >>= machine_end) >>= machine_resumed outer.reader)
    >>= going (suc depth) groups outers (tokens_of outer.rest.now)

-- a text that has a word and isn't too long
abbrev pub within : List ℕ → Result (List ℕ) TargetFault
within text =
    if nat_le (length (tokens_of text)) 0 then Err Empty
    else if nat_lt most_text_bytes (length text) then Err TooLong
    else Ok text

-- the text of a nodegroup that may be read here
abbrev pub entered_by : List (List ℕ) → List ℕ → ℕ → Option (List ℕ) → Result (List ℕ) TargetFault
entered_by names name at None = Err (UnknownGroup at)
entered_by names name at (Some text) = if is_among names name then Err (Circle at) else within text

-- the same by its name
abbrev pub group_entry : List Group → List (List ℕ) → List ℕ → ℕ → Result (List ℕ) TargetFault
group_entry groups names name at = entered_by names name at (text_named groups name)

-- the text that a nodegroup's word begins, by whether an operand is due
abbrev pub opened_by : List Group → List (List ℕ) → List ℕ → ℕ → Option Target → Result (List ℕ) TargetFault
opened_by groups names name at None = group_entry groups names name at
opened_by groups names name at (Some t) = Err (Word at)

-- the same where words may still come
abbrev pub group_text : List Group → List (List ℕ) → List ℕ → Machine → Result (List ℕ) TargetFault
group_text groups names name m = if nat_le most_words m.at then Err TooManyWords else opened_by groups names name m.at m.last

-- What a function returned, seen by `view`, is what is to be given, unless memory ran out.
abbrev pub GivesBy : {A B : Type 0} → (A → B) → Result A TargetFault → Result B TargetFault → Type 0
GivesBy view (Ok x) to = to ≡ Ok (view x)
GivesBy view (Err e) to = IsFaultAsRead e to

-- What a function returned is the text of a nodegroup that may be read here.
abbrev pub EntersText : List Group → List Outer → List ℕ → ℕ → Result (Bor (List ℕ)) TargetFault → Type 0
EntersText groups outers name at result = GivesBy (λ x. x.now) result (group_entry groups (names_of outers) name at)

-- What a function returned is the text that a nodegroup's word begins.
abbrev pub OpensText : List Group → List Outer → List ℕ → Machine → Result (Bor (List ℕ)) TargetFault → Type 0
OpensText groups outers name m result = GivesBy (λ x. x.now) result (group_text groups (names_of outers) name m)

-- the start of a nodegroup's text, where its word stands
abbrev pub IsInner : Machine → Machine → Type 0
IsInner outer inner = inner ≡ machine_begun outer.part.nest.deep (outer.at + 1) outer.patterns

-- the tree of what is left to be read
abbrev pub rest_tree : List Group → List Outer → List ℕ → Machine → Result Target TargetFault
rest_tree groups outers rest m = going (most_texts - length outers) groups outers (tokens_of rest) m

-- A step from these texts to those: what is left then gives what was left before.
pub record Goes (groups : List Group) (old new : List Outer) (reader : Machine) (words : List Token) (next : Machine) (rest : List ℕ) : Type 0 where
  pub same : going (most_texts - length old) groups old words reader ≡ going (most_texts - length new) groups new (tokens_of rest) next
  pub one_word : next.at ≡ reader.at + 1
  pub counted : next.at ≤ most_words
  pub nested : length new ≤ length old + 1

-- A step goes on so, or its fault is that of what is left, unless memory ran out.
abbrev pub ReadsOn : List Group → List Outer → List Outer → Machine → List Token → Result (Machine × Bor (List ℕ)) TargetFault → Type 0
ReadsOn groups old new reader words (Ok x) = Goes groups old new reader words x.0 x.1.now
ReadsOn groups old new reader words (Err e) = IsFaultAsRead e (going (most_texts - length old) groups old words reader)

-- A step over this word goes on so, and these bytes follow it.
abbrev pub ReadsWord : List Group → List Outer → List Outer → Machine → Token → List ℕ → Result (Machine × Bor (List ℕ)) TargetFault → Type 0
ReadsWord groups old new reader word more result = ReadsOn groups old new reader (word ∷ tokens_of more) result

-- A step over a nodegroup's word goes on so; the text that it stands in then waits.
abbrev pub ReadsGroup : List Group → List Outer → List Outer → Outer → Result (Machine × Bor (List ℕ)) TargetFault → Type 0
ReadsGroup groups old new outer result = ReadsWord groups old new outer.reader (Nodegroup outer.name) outer.rest.now result
