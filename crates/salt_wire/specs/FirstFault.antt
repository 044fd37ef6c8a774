-- The first fault from the left of bytes that are no message: right fields, and then a wrong one.
use Rattle.std.specs.Prelude.{◌≡◌, ◌≢◌, ◌⊎◌, ◌<◌, ◌≤◌, ◌+◌, ◌-◌, ◌==◌, if◌then◌else◌, ℕ, Bool, true, false, List, [], ◌∷◌, ◌++◌, length, drop, map, Result, Err, IfErr}
use Rattle.std.specs.List.{count_by, list_all, list_any}
use Rattle.std.specs.Int.{w16, w64, to_be_bytes}
use Rattle.salt_value.specs.Id.{IsId}
use Rattle.salt_value.specs.Word.{IsWord}
use Rattle.salt_value.specs.Jid.{greatest_jid}
use Rattle.salt_value.specs.Spelling.{bytes, text, concatenation}
use Rattle.salt_value.specs.WellFormed.{ValueFits}
use Rattle.salt_value.specs.declared.value.Value.TheVariants as v
use Rattle.target_tree.specs.Kinds.{kind_code}
use Rattle.salt_value.specs.Readers.{Reader, Answers}
use Rattle.salt_value.specs.Decoding.{IsBytes}
use Rattle.salt_wire.specs.declared.fault.Misread.{Misread}
use Rattle.salt_wire.specs.declared.fault.Misread.TheVariants.{BadField}
use Rattle.salt_wire.specs.declared.fault.WireFault.{WireFault}
use Rattle.salt_wire.specs.declared.fault.WireFault.TheVariants as faults
use Rattle.salt_wire.specs.declared.message.Message.{Message}
use Rattle.salt_wire.specs.Codes as code
use Rattle.salt_wire.specs.Codes.{message_code, message_kinds, entry_code, entry_kinds, node_code}
use Rattle.salt_wire.specs.Spelling.{version, number, id, word, tree_bytes, entry, body}
use Rattle.salt_wire.specs.Limits.{most_target_bytes, most_leaf_ids, most_tree_nodes, most_patterns, most_tree_bytes, most_answer_bytes, is_id, is_leaf_text, IsNumber, IsText, TreeFits, EntryFits, is_status, Within}
use Rattle.salt_wire.specs.Decoding.{is_text_tag, is_pattern_tag}

-- the fields of messages and entries
pub data Field : Type 0 where
  Number : Field
  Byte : Field
  Status : Field
  Jid : Field
  Id : Field
  Word : Field
  Text : Field
  ShortText : (most : ℕ) → Field
  TargetKind : Field
  Tree : Field
  AnyValue : Field
  Items : Field
  Pairs : Field
  Entry : Field

-- ---- the tables

-- the kinds of messages
abbrev pub is_kind : ℕ → Bool
is_kind kind = list_any (λ k. kind == message_code k) message_kinds

-- the fields of a job, in order
abbrev pub job_fields : List Field
job_fields = Jid ∷ TargetKind ∷ ShortText most_target_bytes ∷ Tree ∷ Word ∷ Items ∷ []

-- the fields of a message of this kind, in order
abbrev pub fields : ℕ → List Field
fields kind =
    if kind == message_code code.Pub then Number ∷ job_fields else if kind == message_code code.Have then Number ∷ []
    else if kind == message_code code.Up then Id ∷ Number ∷ Entry ∷ [] else if kind == message_code code.UpHave then Id ∷ Number ∷ []
    else if kind == message_code code.Hello then Id ∷ [] else if kind == message_code code.End then []
    else if kind == message_code code.AskPublish then TargetKind ∷ Text ∷ Word ∷ Items ∷ [] else if kind == message_code code.AskReport then Jid ∷ []
    else if kind == message_code code.AskJobs then [] else if kind == message_code code.AskMine then TargetKind ∷ Text ∷ Word ∷ []
    else if kind == message_code code.Answer then Status ∷ ShortText most_answer_bytes ∷ [] else []

-- the tags of entries
abbrev pub is_tag : ℕ → Bool
is_tag tag = list_any (λ t. tag == entry_code t) entry_kinds

-- the fields of an entry of this tag, in order
abbrev pub entry_fields : ℕ → List Field
entry_fields tag =
    if tag == entry_code code.Return then Number ∷ Byte ∷ AnyValue ∷ [] else if tag == entry_code code.Fired then Word ∷ AnyValue ∷ []
    else if tag == entry_code code.Start then Number ∷ [] else if tag == entry_code code.Mine then Number ∷ Pairs ∷ Pairs ∷ Pairs ∷ [] else []

-- ---- right fields

-- these bytes spell something within its limits
abbrev pub HasSpelling : {A : Type 0} → (A → List ℕ) → (A → Type 0) → List ℕ → Type 0
HasSpelling {A} spell Fits b = (x : A) × Fits x × (b ≡ spell x)

-- one byte
abbrev pub byte : ℕ → List ℕ
byte n = n ∷ []

-- these bytes are right for a field
abbrev pub IsRight : Field → List ℕ → Type 0
IsRight Number = HasSpelling number IsNumber
IsRight Byte = HasSpelling byte (λ n. n < 256)
IsRight Status = HasSpelling byte (λ n. is_status n ≡ true)
IsRight Jid = HasSpelling (λ n. to_be_bytes w64 n) (λ n. n ≤ greatest_jid)
IsRight Id = HasSpelling id IsId
IsRight Word = HasSpelling word IsWord
IsRight Text = HasSpelling text IsText
IsRight (ShortText most) = HasSpelling text (λ t. IsText t × (length t ≤ most))
IsRight TargetKind = HasSpelling (λ kind. kind_code kind ∷ []) (λ kind. Unit {0})
IsRight Tree = HasSpelling tree_bytes TreeFits
IsRight AnyValue = HasSpelling bytes ValueFits
IsRight Items = HasSpelling (λ xs. bytes (v.List xs)) (λ xs. ValueFits (v.List xs))
IsRight Pairs = HasSpelling (λ ps. bytes (v.Map ps)) (λ ps. ValueFits (v.Map ps))
IsRight Entry = HasSpelling entry EntryFits

-- ---- wrong fields

-- where some bytes go wrong, as the bytes from there on
abbrev pub Wrong : Type 1
Wrong = List ℕ → List ℕ → Type 0

-- no right bytes stand at the front, which is told at their first byte
abbrev pub NoneStands : (List ℕ → Type 0) → Wrong
NoneStands Right b at = (at ≡ b) × ((front rest : List ℕ) → Right front → b ≡ front ++ rest → ⊥)

-- the first of these fields stand there, maybe none, and then one is wrong
abbrev pub FirstWrong : (Field → Wrong) → List Field → Wrong
FirstWrong wrong [] b at = ⊥
FirstWrong wrong (f ∷ fs) b at = wrong f b at ⊎ ((front : List ℕ) × (rest : List ℕ) × IsRight f front × (b ≡ front ++ rest) × FirstWrong wrong fs rest at)

-- an entry: no tag of an entry stands there, or one does and a field after it is wrong
abbrev pub EntryWrong : Wrong
EntryWrong b at = NoneStands (HasSpelling byte (λ tag. is_tag tag ≡ true)) b at
    ⊎ ((tag : ℕ) × (rest : List ℕ) × (b ≡ tag ∷ rest) × FirstWrong (λ f. NoneStands (IsRight f)) (entry_fields tag) rest at)

-- ---- trees: their nodes in order from the root, left before right

-- what stands after the tag of a node
pub data After : Type 0 where
  LeafText : After
  LeafIds : After
  Subtrees : (n : ℕ) → After
  NoNode : After

-- the tags of nodes, by what stands after them
abbrev pub after_bytes : ℕ → After
after_bytes tag =
    if tag == node_code code.IdList then LeafIds else if tag == node_code code.Not then Subtrees 1 else if tag == node_code code.And then Subtrees 2 else if tag == node_code code.Or then Subtrees 2
    else if is_text_tag tag then LeafText else NoNode

-- a node has this tag
abbrev pub is_node : After → Bool
is_node NoNode = false
is_node other = true

-- how many subtrees stand after a tag
abbrev pub subtrees : After → ℕ
subtrees (Subtrees n) = n
subtrees other = 0

-- the ids of a leaf
abbrev pub AreIds : List (List ℕ) → Type 0
AreIds ids = (1 ≤ length ids) × (length ids ≤ most_leaf_ids) × (list_all is_id ids ≡ true)

-- right bytes between a tag and the next node
abbrev pub IsAfter : After → List ℕ → Type 0
IsAfter LeafText = HasSpelling text (λ t. is_leaf_text t ≡ true)
IsAfter LeafIds = HasSpelling (λ ids. to_be_bytes w16 (length ids) ++ concatenation (map id ids)) AreIds
IsAfter (Subtrees n) = λ b. b ≡ []
IsAfter NoNode = λ b. ⊥

-- a node: its tag, and the bytes between it and the next node
abbrev pub Node : Type 0
Node = ℕ × List ℕ

-- the bytes of some nodes
abbrev pub nodes_bytes : List Node → List ℕ
nodes_bytes nodes = concatenation (map (λ (n : Node). n.0 ∷ n.1) nodes)

-- how many of some nodes are leaves with a pattern
abbrev pub pattern_leaves : List Node → ℕ
pattern_leaves nodes = count_by (λ (n : Node). is_pattern_tag n.0) nodes

-- right nodes of so many trees, from the left: before each of them and after the last a node is still to come
abbrev pub AreUnended : ℕ → List Node → Type 0
AreUnended trees [] = 0 < trees
AreUnended trees (n ∷ ns) = (0 < trees) × IsAfter (after_bytes n.0) n.1 × AreUnended (trees - 1 + subtrees (after_bytes n.0)) ns

-- of a tree that may have so many nodes, leaves with a pattern and bytes
module _ (node_limit pattern_limit byte_limit : ℕ) where
  -- nodes within the limits
  pub record InLimits (nodes : List Node) : Type 0 where
    pub few_nodes : length nodes ≤ node_limit
    pub few_patterns : pattern_leaves nodes ≤ pattern_limit
    pub long : length (nodes_bytes nodes) ≤ byte_limit

  -- after some nodes the next one may have this tag
  abbrev pub MayHave : List Node → ℕ → Type 0
  MayHave done tag = (is_node (after_bytes tag) ≡ true) × InLimits (done ++ (tag, []) ∷ [])

  -- the node after some nodes is wrong: no tag that it may have stands there, or one does and what stands after it is wrong
  abbrev pub NodeWrong : List Node → Wrong
  NodeWrong done b at = NoneStands (HasSpelling byte (MayHave done)) b at
      ⊎ ((tag : ℕ) × (rest : List ℕ) × (b ≡ tag ∷ rest) × MayHave done tag × NoneStands (λ front. IsAfter (after_bytes tag) front × InLimits (done ++ (tag, front) ∷ [])) rest at)

  -- right nodes of so many trees stand there, within the limits, and then a wrong one
  abbrev pub NodesWrong : ℕ → Wrong
  NodesWrong trees b at = (done : List Node) × (rest : List ℕ) × (b ≡ nodes_bytes done ++ rest) × AreUnended trees done × InLimits done × NodeWrong done rest at

-- a tree, within its limits
abbrev pub TreeWrong : Wrong
TreeWrong = NodesWrong most_tree_nodes most_patterns most_tree_bytes 1

-- a field of a message: only entries and trees are not told at their first byte
abbrev pub FieldWrong : Field → Wrong
FieldWrong Tree = TreeWrong
FieldWrong Entry = EntryWrong
FieldWrong f = NoneStands (IsRight f)

-- ---- messages

-- the first fault of a body: another version, no known kind, a wrong field of the kind, or bytes after a whole message
abbrev pub FirstFault : List ℕ → WireFault → Type 0
FirstFault b faults.NoMemory = ⊥
FirstFault b faults.BadVersion = (rest : List ℕ) → b ≡ version ∷ rest → ⊥
FirstFault b faults.BadKind = (rest : List ℕ) × (b ≡ version ∷ rest) × ((kind : ℕ) (more : List ℕ) → rest ≡ kind ∷ more → is_kind kind ≡ false)
FirstFault b (faults.BadField at) = (kind : ℕ) × (rest : List ℕ) × (from : List ℕ) × (b ≡ version ∷ kind ∷ rest) × FirstWrong FieldWrong (fields kind) rest from × (at ≡ length b - length from)
FirstFault b (faults.Trailing at) = (message : Message) × (rest : List ℕ) × Within message × (0 < length rest) × (b ≡ body message ++ rest) × (at ≡ length (body message))

-- any fault but want of memory is the first of the body
abbrev pub HasFirstFault : List ℕ → Result Message WireFault → Type 0
HasFirstFault b result = IfErr result (λ e. e ≢ faults.NoMemory → FirstFault b e)

-- the first fault of the body is answered, unless memory runs out
abbrev pub AnswersFirstFault : List ℕ → Result Message WireFault → Type 0
AnswersFirstFault b result = (e : WireFault) → FirstFault b e → Answers faults.NoMemory result (Err e)

-- No public contract cites it. Each fault that decoding meets is the first of the body
abbrev pub MeetsFirstFaults : (List ℕ → Result Message WireFault) → Type 0
MeetsFirstFaults decode = (body : List ℕ) (e : WireFault) → IsBytes body → decode body ≡ Err e → FirstFault body e

-- No public contract cites it. Decoding meets the first fault of each body that has one
abbrev pub MeetsEachFirstFault : (List ℕ → Result Message WireFault) → Type 0
MeetsEachFirstFault decode = (body : List ℕ) (e : WireFault) → IsBytes body → FirstFault body e → decode body ≡ Err e

-- ---- fields at a place of a body

-- the fault of a body whose bytes go wrong so from a place on
abbrev pub FaultAt : Wrong → List ℕ → ℕ → WireFault → Type 0
FaultAt wrong b at (faults.BadField place) = (from : List ℕ) × wrong (drop at b) from × (place ≡ length b - length from)
FaultAt wrong b at other = ⊥

-- any fault but want of memory is that of the bytes from this place on
abbrev pub HasFaultAt : {A : Type 0} → Wrong → List ℕ → ℕ → Result A WireFault → Type 0
HasFaultAt wrong b at result = IfErr result (λ e. e ≢ faults.NoMemory → FaultAt wrong b at e)

-- the fault of the bytes from this place on is answered, unless memory runs out
abbrev pub AnswersFaultAt : {A : Type 0} → Wrong → List ℕ → ℕ → Result A WireFault → Type 0
AnswersFaultAt wrong b at result = (e : WireFault) → FaultAt wrong b at e → Answers faults.NoMemory result (Err e)

-- No public contract cites it. A reader that tells where bytes are wrong: each fault that it meets is told there, and is met where they are
pub record IsTold {A : Type 0} (wrong : Wrong) (read : Reader Misread A) : Type 0 where
  pub met : (b : List ℕ) (e : Misread) → IsBytes b → read b ≡ Err e → (at : List ℕ) × wrong b at × (e ≡ BadField (length at))
  pub first : (b at : List ℕ) → IsBytes b → wrong b at → read b ≡ Err (BadField (length at))
