-- Decoding from left to right, as a function: what stands at the front of some bytes, and the bytes after it, or the first fault.
use Rattle.std.specs.Prelude.{◌≡◌, true, false, MatchOption, ℕ, zero, suc, ◌-◌, ◌&&◌, ◌||◌, nat_le, nat_lt, ◌==◌, if◌then◌else◌, Bool, List, [], ◌∷◌, length, take, drop, Option, Some, None, Result, Ok, Err}
use Rattle.std.specs.List.{list_all, find}
use Rattle.std.specs.Borrow.{Bor}
use Rattle.std.specs.Int.{Width, w8, w16, w32, w64}
use Rattle.salt_value.specs.Readers.{Reader, ◌>>=◌, when, option_reader, several, Gives}
use Rattle.salt_value.specs.Decoding.{number_or, text_or, read_at}
use Rattle.salt_value.specs.Limits.{most_word_bytes}
use Rattle.salt_value.specs.Jid.{greatest_jid}
use Rattle.salt_value.specs.Word.{is_word_byte}
use Rattle.salt_value.specs.declared.fault.ValueFault.{ValueFault}
use Rattle.salt_value.specs.declared.value.Value.{Value, out-Value}
use Rattle.salt_value.specs.declared.value.Value.TheOpen.{Value-F}
use Rattle.target_tree.specs.Kinds.{kind_code}
use Rattle.target_tree.specs.declared.kind.Kind.{Kind}
use Rattle.target_tree.specs.declared.kind.Kind.TheVariants as k
use Rattle.target_tree.specs.declared.target.Target.{Target}
use Rattle.target_tree.specs.declared.target.Target.TheVariants as t
use Rattle.salt_wire.specs.declared.fault.Misread.{Misread}
use Rattle.salt_wire.specs.declared.fault.Misread.TheVariants.{NoMemory, BadVersion, BadKind, BadField, Trailing}
use Rattle.salt_wire.specs.declared.fault.WireFault.{WireFault}
use Rattle.salt_wire.specs.declared.fault.WireFault.TheVariants as faults
use Rattle.salt_wire.specs.declared.tree.Room.{Room}
use Rattle.salt_wire.specs.declared.message.Job.{Job}
use Rattle.salt_wire.specs.declared.message.Entry.{Entry}
use Rattle.salt_wire.specs.declared.message.Entry.TheVariants as e
use Rattle.salt_wire.specs.declared.message.Message.{Message}
use Rattle.salt_wire.specs.declared.message.Message.TheVariants as m
use Rattle.salt_wire.specs.Codes as code
use Rattle.salt_wire.specs.Codes.{message_code, entry_code, node_code}
use Rattle.salt_wire.specs.Spelling.{version as version_code}
use Rattle.salt_wire.specs.Limits.{most_target_bytes, most_leaf_bytes, most_tree_nodes, most_patterns, most_tree_bytes, most_answer_bytes, is_id, is_status}

-- ---- places are counted from the end here: a place is the number of bytes from there on

-- ---- what the readers of this crate answer

-- a field, and the bytes after it, as this reader gives them. No public contract cites it.
abbrev pub GivesField : {A : Type 0} → Result (A × Bor (List ℕ)) Misread → Result (A × List ℕ) Misread → Type 0
GivesField result read = Gives NoMemory (λ x. (x.0, x.1.now)) result read

-- a node, what may still come, and the bytes after it, as this reader gives them. No public contract cites it.
abbrev pub GivesNode : {A : Type 0} → Result (A × Room × Bor (List ℕ)) Misread → Result (A × Room × List ℕ) Misread → Type 0
GivesNode result read = Gives NoMemory (λ x. (x.0, x.1, x.2.now)) result read

-- ---- fields. One that isn't whole or breaks its rule is told at its first byte

-- the field that begins these bytes is wrong
abbrev pub misreading : List ℕ → Misread
misreading bytes = BadField (length bytes)

-- a byte
abbrev pub byte_field : Reader Misread ℕ
byte_field bytes = number_or w8 (misreading bytes) bytes

-- a number of 32 bits
abbrev pub number_field : Reader Misread ℕ
number_field bytes = number_or w32 (misreading bytes) bytes

-- a text
abbrev pub text_field : Reader Misread (List ℕ)
text_field bytes = text_or (misreading bytes) (misreading bytes) bytes

-- a text of at most so many bytes
abbrev pub short_text : ℕ → Reader Misread (List ℕ)
short_text most bytes = do
  text ← text_field bytes
  when (nat_le (length text.0) most) (misreading bytes) text

-- bytes that pass a test, after a number of this width that tells how many they are
unfoldable pub counted_or : Misread → Width → (List ℕ → Bool) → Reader Misread (List ℕ)
counted_or f w test bytes = do
  n ← number_or w f bytes
  if nat_lt (length n.1) n.0 then Err f else when (test (take n.0 n.1)) f (take n.0 n.1, drop n.0 n.1)

-- bytes that are a word
abbrev pub is_word : List ℕ → Bool
is_word bytes = nat_le 1 (length bytes) && (nat_le (length bytes) most_word_bytes && list_all is_word_byte bytes)

-- the word that bytes are, and none where they are no word. No public contract cites it.
abbrev pub IsWordOf : List ℕ → Option (List ℕ) → Type 0
IsWordOf bytes option_reader = MatchOption option_reader (is_word bytes ≡ false) (λ word. (is_word bytes ≡ true) × (word ≡ bytes))

-- an id after the byte of its length, or this fault
abbrev pub id_or : Misread → Reader Misread (List ℕ)
id_or f bytes = counted_or f w8 is_id bytes

-- an id after the byte of its length
abbrev pub id_field : Reader Misread (List ℕ)
id_field bytes = id_or (misreading bytes) bytes

-- a word after the two bytes of its length
abbrev pub word_field : Reader Misread (List ℕ)
word_field bytes = counted_or (misreading bytes) w16 is_word bytes

-- a job id
unfoldable pub jid_field : Reader Misread ℕ
jid_field bytes = do
  n ← number_or w64 (misreading bytes) bytes
  when (nat_le n.0 greatest_jid) (misreading bytes) n

-- each kind of target
abbrev pub kinds : List Kind
kinds = k.Glob ∷ k.Pcre ∷ k.List ∷ k.Grain ∷ k.GrainPcre ∷ k.Pillar ∷ k.PillarPcre ∷ k.Nodegroup ∷ k.Compound ∷ []

-- the kind of target that has this code
unfoldable pub kind_of : ℕ → Option Kind
kind_of code = find (λ kind. kind_code kind == code) kinds

-- the kind of a target
unfoldable pub kind_field : Reader Misread Kind
kind_field bytes = do
  code ← byte_field bytes
  option_reader (misreading bytes) (kind_of code.0) code.1

-- the value that was read, and the bytes after it; each fault of a value is one of its field
abbrev pub value_or : List ℕ → Result (Value × ℕ) ValueFault → Result (Value × List ℕ) Misread
value_or bytes (Ok x) = Ok (x.0, drop x.1 bytes)
value_or bytes (Err e) = Err (misreading bytes)

-- a value
unfoldable pub value_field : Reader Misread Value
value_field bytes = value_or bytes (read_at bytes)

-- by cases on the value: a list alone has items
abbrev pub items_layer : Value-F Value → Option (List Value)
items_layer (Value-F.List items) = Some items
items_layer other = None

-- the items of a value that is a list
abbrev pub value_items : Value → Option (List Value)
value_items value = items_layer (out-Value value)

-- a value that is a list
unfoldable pub items_field : Reader Misread (List Value)
items_field bytes = do
  value ← value_field bytes
  option_reader (misreading bytes) (value_items value.0) value.1

-- by cases on the value: a map alone has pairs
abbrev pub pairs_layer : Value-F Value → Option (List (List ℕ × Value))
pairs_layer (Value-F.Map pairs) = Some pairs
pairs_layer other = None

-- the pairs of a value that is a map
abbrev pub value_pairs : Value → Option (List (List ℕ × Value))
value_pairs value = pairs_layer (out-Value value)

-- a value that is a map
unfoldable pub fields_field : Reader Misread (List (List ℕ × Value))
fields_field bytes = do
  value ← value_field bytes
  option_reader (misreading bytes) (value_pairs value.0) value.1

-- ---- entries and messages

-- what stands after the tag of a return
unfoldable pub return_at : Reader Misread Entry
return_at bytes = do
  seq ← number_field bytes
  retcode ← byte_field seq.1
  value ← value_field retcode.1
  Ok (e.Return seq.0 (record { retcode = retcode.0; value = value.0 }), value.1)

-- what stands after the tag of a fired event
unfoldable pub fired_at : Reader Misread Entry
fired_at bytes = do
  tag ← word_field bytes
  body ← value_field tag.1
  Ok (e.Fired (record { tag = tag.0; body = body.0 }), body.1)

-- what stands after the tag of a mine
unfoldable pub mine_at : Reader Misread Entry
mine_at bytes = do
  seq ← number_field bytes
  mine ← fields_field seq.1
  grains ← fields_field mine.1
  pillar ← fields_field grains.1
  Ok (e.Mine seq.0 mine.0 grains.0 pillar.0, pillar.1)

-- what stands after the tag of a start
abbrev pub start_at : Reader Misread Entry
start_at bytes = do
  boot ← number_field bytes
  Ok (e.Start boot.0, boot.1)

-- what stands after the tag of an entry
unfoldable pub entry_after : ℕ → Reader Misread Entry
entry_after tag bytes =
    if tag == entry_code code.Return then return_at bytes else if tag == entry_code code.Fired then fired_at bytes else if tag == entry_code code.Start then start_at bytes
    else if tag == entry_code code.Mine then mine_at bytes else Err (BadField (suc (length bytes)))

-- an entry
unfoldable pub entry_field : Reader Misread Entry
entry_field bytes = do
  tag ← byte_field bytes
  entry_after tag.0 tag.1

-- ---- trees

-- a field that ends where so many bytes are left, or before
abbrev pub ends_before : {A : Type 0} → ℕ → A × List ℕ → Bool
ends_before stop x = nat_le stop (length x.1)

-- the tag of a leaf with a pattern
abbrev pub is_pattern_tag : ℕ → Bool
is_pattern_tag tag = tag == node_code code.IdPcre || (tag == node_code code.GrainPcre || tag == node_code code.PillarPcre)

-- what a tree may still have after a node of this tag, and none where it may not have this one
abbrev pub room_after : Room → ℕ → Option Room
room_after room tag =
    if room.nodes == 0 then None
    else if is_pattern_tag tag then (if room.patterns == 0 then None else Some (record { nodes = room.nodes - 1; patterns = room.patterns - 1; stop = room.stop }))
    else Some (record { nodes = room.nodes - 1; patterns = room.patterns; stop = room.stop })

-- with what a tree may still have
abbrev pub with_room : Misread → ℕ × List ℕ → Option Room → Result (ℕ × Room × List ℕ) Misread
with_room f tag None = Err f
with_room f tag (Some room) = Ok (tag.0, room, tag.1)

-- the tag of a node
unfoldable pub tag_field : Room → List ℕ → Result (ℕ × Room × List ℕ) Misread
tag_field room bytes = do
  tag ← byte_field bytes
  ended ← when (ends_before room.stop tag) (misreading bytes) tag
  with_room (misreading bytes) ended (room_after room ended.0)

-- the text of a leaf
unfoldable pub leaf_text : ℕ → Reader Misread (List ℕ)
leaf_text stop bytes = do
  text ← text_field bytes
  when (nat_le 1 (length text.0) && (nat_le (length text.0) most_leaf_bytes && ends_before stop text)) (misreading bytes) text

-- the ids of a leaf, at least one, after the two bytes of their number; they are one field
unfoldable pub leaf_ids : ℕ → Reader Misread (List (List ℕ))
leaf_ids stop bytes = do
  count ← number_or w16 (misreading bytes) bytes
  ids ← several (id_or (misreading bytes)) count.0 count.1
  when (nat_le 1 count.0 && ends_before stop ids) (misreading bytes) ids

-- a tree at the front of some bytes, what may still come in the tree around it, and the bytes after it
abbrev pub TreeReader : Type 0
TreeReader = Room → List ℕ → Result (Target × Room × List ℕ) Misread

-- the tag of a leaf with a text
abbrev pub is_text_tag : ℕ → Bool
is_text_tag tag = tag == node_code code.IdGlob || (tag == node_code code.IdPcre || (tag == node_code code.GrainGlob || (tag == node_code code.GrainPcre || (tag == node_code code.PillarGlob || tag == node_code code.PillarPcre))))

-- the leaf of such a tag
abbrev pub leaf : ℕ → List ℕ → Target
leaf tag text =
    if tag == node_code code.IdGlob then t.IdGlob text else if tag == node_code code.IdPcre then t.IdPcre text else if tag == node_code code.GrainGlob then t.GrainGlob text
    else if tag == node_code code.GrainPcre then t.GrainPcre text else if tag == node_code code.PillarGlob then t.PillarGlob text else t.PillarPcre text

-- a leaf with a text, after its tag
unfoldable pub text_node : ℕ → TreeReader
text_node tag room bytes =
    if is_text_tag tag then (do
      text ← leaf_text room.stop bytes
      Ok (leaf tag text.0, room, text.1))
    else Err (BadField (suc (length bytes)))

-- a leaf with ids, after its tag
unfoldable pub list_node : TreeReader
list_node room bytes = do
  ids ← leaf_ids room.stop bytes
  Ok (t.IdList ids.0, room, ids.1)

-- a part that is negated
unfoldable pub not_node : TreeReader → TreeReader
not_node part room bytes = do
  only ← part room bytes
  Ok (t.Not only.0, only.1, only.2)

-- two parts of which both have to hold
unfoldable pub and_node : TreeReader → TreeReader
and_node part room bytes = do
  left ← part room bytes
  right ← part left.1 left.2
  Ok (t.And left.0 right.0, right.1, right.2)

-- two parts of which one has to hold
unfoldable pub or_node : TreeReader → TreeReader
or_node part room bytes = do
  left ← part room bytes
  right ← part left.1 left.2
  Ok (t.Or left.0 right.0, right.1, right.2)

-- what stands after the tag of a node
unfoldable pub node_after : TreeReader → ℕ → TreeReader
node_after part tag room bytes =
    if tag == node_code code.IdList then list_node room bytes else if tag == node_code code.Not then not_node part room bytes
    else if tag == node_code code.And then and_node part room bytes else if tag == node_code code.Or then or_node part room bytes
    else text_node tag room bytes

-- a tree of at most so many levels, which may have no more than this
unfoldable pub tree_at : ℕ → TreeReader
tree_at zero room bytes = Err (misreading bytes)
tree_at (suc levels) room bytes = do
  tag ← tag_field room bytes
  node_after (tree_at levels) tag.0 tag.1 tag.2

-- what a whole tree may have
abbrev pub whole_room : List ℕ → Room
whole_room bytes = record { nodes = most_tree_nodes; patterns = most_patterns; stop = length bytes - most_tree_bytes }

-- a whole tree; its levels can't be more than its nodes
unfoldable pub tree_field : Reader Misread Target
tree_field bytes = do
  tree ← tree_at most_tree_nodes (whole_room bytes) bytes
  Ok (tree.0, tree.2)

-- ---- jobs and messages

-- a job
unfoldable pub job_field : Reader Misread Job
job_field bytes = do
  jid ← jid_field bytes
  kind ← kind_field jid.1
  tgt ← short_text most_target_bytes kind.1
  target ← tree_field tgt.1
  fun ← word_field target.1
  args ← items_field fun.1
  Ok (record { jid = jid.0; kind = kind.0; tgt = tgt.0; target = target.0; fun = fun.0; args = args.0 }, args.1)

-- the fields of a publication
unfoldable pub pub_fields : Reader Misread Message
pub_fields bytes = do
  seq ← number_field bytes
  job ← job_field seq.1
  Ok (m.Pub seq.0 job.0, job.1)

-- the count of held jobs
unfoldable pub have_fields : Reader Misread Message
have_fields bytes = do
  jobs ← number_field bytes
  Ok (m.Have jobs.0, jobs.1)

-- an entry of a minion, with its number
unfoldable pub up_fields : Reader Misread Message
up_fields bytes = do
  minion ← id_field bytes
  n ← number_field minion.1
  entry ← entry_field n.1
  Ok (m.Up minion.0 n.0 entry.0, entry.1)

-- the count of held entries of a minion
unfoldable pub up_have_fields : Reader Misread Message
up_have_fields bytes = do
  minion ← id_field bytes
  n ← number_field minion.1
  Ok (m.UpHave minion.0 n.0, n.1)

-- the id of who speaks
unfoldable pub hello_fields : Reader Misread Message
hello_fields bytes = do
  id ← id_field bytes
  Ok (m.Hello id.0, id.1)

-- what a client wants published
unfoldable pub ask_publish_fields : Reader Misread Message
ask_publish_fields bytes = do
  kind ← kind_field bytes
  tgt ← text_field kind.1
  fun ← word_field tgt.1
  args ← items_field fun.1
  Ok (m.AskPublish kind.0 tgt.0 fun.0 args.0, args.1)

-- the job whose report a client wants
unfoldable pub ask_report_fields : Reader Misread Message
ask_report_fields bytes = do
  jid ← jid_field bytes
  Ok (m.AskReport jid.0, jid.1)

-- of which minions and function a client wants the mine
unfoldable pub ask_mine_fields : Reader Misread Message
ask_mine_fields bytes = do
  kind ← kind_field bytes
  tgt ← text_field kind.1
  fun ← word_field tgt.1
  Ok (m.AskMine kind.0 tgt.0 fun.0, fun.1)

-- the status of an answer
unfoldable pub status_field : Reader Misread ℕ
status_field bytes = do
  status ← byte_field bytes
  when (is_status status.0) (misreading bytes) status

-- the status and the report
unfoldable pub answer_fields : Reader Misread Message
answer_fields bytes = do
  status ← status_field bytes
  text ← short_text most_answer_bytes status.1
  Ok (m.Answer status.0 text.0, text.1)

-- the fields of a client's message
unfoldable pub client_fields : ℕ → Reader Misread Message
client_fields kind bytes =
    if kind == message_code code.AskPublish then ask_publish_fields bytes else if kind == message_code code.AskReport then ask_report_fields bytes
    else if kind == message_code code.AskJobs then Ok (m.AskJobs, bytes) else if kind == message_code code.AskMine then ask_mine_fields bytes
    else if kind == message_code code.Answer then answer_fields bytes else Err BadKind

-- the fields of a message of this kind
unfoldable pub message_fields : ℕ → Reader Misread Message
message_fields kind bytes =
    if kind == message_code code.Pub then pub_fields bytes else if kind == message_code code.Have then have_fields bytes else if kind == message_code code.Up then up_fields bytes
    else if kind == message_code code.UpHave then up_have_fields bytes else if kind == message_code code.Hello then hello_fields bytes
    else if kind == message_code code.End then Ok (m.End, bytes) else client_fields kind bytes

-- the kind and the fields
unfoldable pub kind_and_fields : Reader Misread Message
kind_and_fields [] = Err BadKind
kind_and_fields (kind ∷ bytes) = message_fields kind bytes

-- nothing stands after a message
abbrev pub nothing_after : Message × List ℕ → Result Message Misread
nothing_after x = if length x.1 == 0 then Ok x.0 else Err (Trailing (length x.1))

-- the version, the kind, the fields and nothing else
unfoldable pub message_at : List ℕ → Result Message Misread
message_at [] = Err BadVersion
message_at (version ∷ bytes) = if version == version_code then kind_and_fields bytes >>= nothing_after else Err BadVersion

-- ---- whole bodies, with places counted from their front

-- a fault of a body of n bytes by its place from the front
abbrev pub wire_fault : ℕ → Misread → WireFault
wire_fault n NoMemory = faults.NoMemory
wire_fault n BadVersion = faults.BadVersion
wire_fault n BadKind = faults.BadKind
wire_fault n (BadField left) = faults.BadField (n - left)
wire_fault n (Trailing left) = faults.Trailing (n - left)

-- a message, or the fault by its place
abbrev pub body_answer : {A : Type 0} → ℕ → Result A Misread → Result A WireFault
body_answer n (Ok x) = Ok x
body_answer n (Err e) = Err (wire_fault n e)

-- the message that a body is, or its first fault
unfoldable pub decoding : List ℕ → Result Message WireFault
decoding body = body_answer (length body) (message_at body)

-- a field and the place after it, in a body of n bytes
abbrev pub with_place : {A : Type 0} → ℕ → A × List ℕ → A × ℕ
with_place n x = (x.0, n - length x.1)

-- a field that begins at a place of a body, and the place after it, or the fault by its place
unfoldable pub field_at : {A : Type 0} → Reader Misread A → List ℕ → ℕ → Result (A × ℕ) WireFault
field_at field body at = body_answer (length body) (field (drop at body) >>= λ x. Ok (with_place (length body) x))
