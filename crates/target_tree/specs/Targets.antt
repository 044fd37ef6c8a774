-- What `read_target` answers.
use Rattle.std.specs.Prelude.{◌≡◌, ℕ, nat_le, nat_lt, List, [], ◌∷◌, length, if◌then◌else◌, Result, Ok, Err, IsOk}
use Rattle.target_tree.specs.Nodegroups.{Group}
use Rattle.target_tree.specs.declared.kind.Kind.{Kind}
use Rattle.target_tree.specs.declared.kind.Kind.TheVariants.{Glob, Pcre, List as ListKind, Grain, GrainPcre as GrainPcreKind, Pillar, PillarPcre as PillarPcreKind, Nodegroup, Compound}
use Rattle.target_tree.specs.declared.target.Target.{Target}
use Rattle.target_tree.specs.declared.target.Target.TheVariants.{IdGlob, IdPcre, GrainGlob, GrainPcre, PillarGlob, PillarPcre}
use Rattle.target_tree.specs.declared.fault.TargetFault.{TargetFault}
use Rattle.target_tree.specs.declared.fault.TargetFault.TheVariants.{NoMemory, Empty, TooLong, TooDeep, TooManyWords, TooManyPatterns}
use Rattle.target_tree.specs.declared.token.Token.{Token}
use Rattle.target_tree.specs.declared.token.Token.TheVariants.{Leaf, Pattern, Nodegroup as GroupWord, NoLeaf}
use Rattle.target_tree.specs.Limits.{most_text_bytes, most_texts}
use Rattle.target_tree.specs.Words.{id_list, tokens_of}
use Rattle.target_tree.specs.Grammar.{compound, Stands}
use Rattle.salt_value.specs.Readers.{◌>>=◌}
use Rattle.target_tree.specs.Reading.{Counts, IsFaultAsRead, text_end, begun, all_words, group_word}

-- the one word that the text of another kind than compound is
abbrev pub sole_word : Kind → List ℕ → Token
sole_word Glob text = Leaf (IdGlob text)
sole_word Pcre text = Pattern (IdPcre text)
sole_word ListKind text = id_list text
sole_word Grain text = Leaf (GrainGlob text)
sole_word GrainPcreKind text = Pattern (GrainPcre text)
sole_word Pillar text = Leaf (PillarGlob text)
sole_word PillarPcreKind text = Pattern (PillarPcre text)
sole_word Nodegroup text = GroupWord text
sole_word Compound text = NoLeaf

-- the words of a target: those of a compound, and of another kind the whole text, if it has a byte
abbrev pub target_words : Kind → List ℕ → List Token
target_words Compound text = tokens_of text
target_words kind [] = []
target_words kind (b ∷ bytes) = sole_word kind (b ∷ bytes) ∷ []

-- the reading of a whole target from left to right
abbrev pub reading : Kind → List Group → List ℕ → Result Counts TargetFault
reading kind groups text =
    if nat_le (length (target_words kind text)) 0 then Err Empty
    else if nat_lt most_text_bytes (length text) then Err TooLong
    else all_words (group_word most_texts groups []) (target_words kind text) (begun 0 0 0) >>= text_end

-- the text of this kind stands for this tree
abbrev pub IsTarget : Kind → List Group → List ℕ → Target → Type 0
IsTarget kind groups text tree = Stands groups [] compound (target_words kind text) tree

-- the text of this kind stands for no other tree than this one
abbrev pub IsOnlyTarget : Kind → List Group → List ℕ → Target → Type 0
IsOnlyTarget kind groups text tree = (other : Target) → IsTarget kind groups text other → other ≡ tree

-- A tree is answered where the reading has no fault; a fault that isn't want of memory is that of the reading.
abbrev pub IsAsRead : Result Target TargetFault → Result Counts TargetFault → Type 0
IsAsRead (Ok tree) read = IsOk read
IsAsRead (Err fault) read = IsFaultAsRead fault read

-- a limit, which also words that stand for a tree may pass
abbrev pub IsLimit : TargetFault → Type 0
IsLimit TooLong = Unit {0}
IsLimit TooDeep = Unit {0}
IsLimit TooManyWords = Unit {0}
IsLimit TooManyPatterns = Unit {0}
IsLimit _ = ⊥

-- A tree is answered, or a limit was passed, or memory ran out.
abbrev pub IsReadUnlessRefused : Result Target TargetFault → Type 0
IsReadUnlessRefused (Ok tree) = Unit {0}
IsReadUnlessRefused (Err NoMemory) = Unit {0}
IsReadUnlessRefused (Err fault) = IsLimit fault

-- where the text of this kind stands for a tree, one is answered, but for the limits and memory
abbrev pub IsReadIfTarget : Kind → List Group → List ℕ → Result Target TargetFault → Type 0
IsReadIfTarget kind groups text result = (tree : Target) → IsTarget kind groups text tree → IsReadUnlessRefused result

-- the reading has no fault but a limit
abbrev pub IsReadUnlessLimit : Result Counts TargetFault → Type 0
IsReadUnlessLimit (Ok counts) = Unit {0}
IsReadUnlessLimit (Err fault) = IsLimit fault

-- each text that is read without a fault stands for a tree
abbrev pub HaveTrees : (Kind → List Group → List ℕ → Result Counts TargetFault) → Type 0
HaveTrees read = (kind : Kind) (groups : List Group) (text : List ℕ) → IsOk (read kind groups text) → (t : Target) × IsTarget kind groups text t

-- each text that stands for a tree is read without a fault but a limit
abbrev pub ReadsTrees : (Kind → List Group → List ℕ → Result Counts TargetFault) → Type 0
ReadsTrees read = (kind : Kind) (groups : List Group) (text : List ℕ) (t : Target) → IsTarget kind groups text t → IsReadUnlessLimit (read kind groups text)
