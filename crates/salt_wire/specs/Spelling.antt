-- The bytes of each message, by cases on the message.
use Rattle.std.specs.Prelude.{◌≡◌, ℕ, List, [], ◌∷◌, ◌++◌, length, map}
use Rattle.std.specs.Int.{w16, w32, w64, to_be_bytes}
use Rattle.salt_value.specs.Spelling.{bytes, text, concatenation}
use Rattle.salt_value.specs.declared.value.Value.{Value}
use Rattle.salt_value.specs.declared.value.Value.TheVariants as v
use Rattle.target_tree.specs.Kinds.{kind_code}
use Rattle.target_tree.specs.declared.kind.Kind.{Kind}
use Rattle.target_tree.specs.declared.target.Target.{Target, fold-Target}
use Rattle.target_tree.specs.declared.target.Target.TheOpen.{Target-F}
use Rattle.salt_wire.specs.Codes as code
use Rattle.salt_wire.specs.Codes.{message_code, entry_code, node_code}
use Rattle.salt_wire.specs.declared.message.Job.{Job}
use Rattle.salt_wire.specs.declared.message.Entry.{Entry}
use Rattle.salt_wire.specs.declared.message.Entry.TheVariants.{Return, Fired, Start, Mine}
use Rattle.salt_wire.specs.declared.message.Message.{Message}
use Rattle.salt_wire.specs.declared.message.Message.TheVariants.{Pub, Have, Up, UpHave, Hello, End, AskPublish, AskReport, AskJobs, AskMine, Answer}

-- a number of 32 bits
abbrev pub number : ℕ → List ℕ
number n = to_be_bytes w32 n

-- an id, after the byte of its length
abbrev pub id : List ℕ → List ℕ
id bytes = length bytes ∷ bytes

-- a word, after the two bytes of its length
abbrev pub word : List ℕ → List ℕ
word bytes = to_be_bytes w16 (length bytes) ++ bytes

-- ids, after the two bytes of their number
abbrev pub ids : List (List ℕ) → List ℕ
ids list = to_be_bytes w16 (length list) ++ concatenation (map id list)

-- a function's name and its arguments
abbrev pub call : List ℕ → List Value → List ℕ
call fun args = word fun ++ bytes (v.List args)

-- a kind of target, its text and a function's name
abbrev pub question : Kind → List ℕ → List ℕ → List ℕ
question kind tgt fun = kind_code kind ∷ (text tgt ++ word fun)

-- a key and its value. No public contract cites it.
abbrev pub pair : List ℕ → Value → List ℕ
pair key value = text key ++ bytes value

-- one layer of a target's tree, with the bytes of each part in the part's place
abbrev pub tree_layer : Target-F (List ℕ) → List ℕ
tree_layer (Target-F.IdGlob glob) = node_code code.IdGlob ∷ text glob
tree_layer (Target-F.IdPcre pattern) = node_code code.IdPcre ∷ text pattern
tree_layer (Target-F.IdList list) = node_code code.IdList ∷ ids list
tree_layer (Target-F.GrainGlob glob) = node_code code.GrainGlob ∷ text glob
tree_layer (Target-F.GrainPcre pattern) = node_code code.GrainPcre ∷ text pattern
tree_layer (Target-F.PillarGlob glob) = node_code code.PillarGlob ∷ text glob
tree_layer (Target-F.PillarPcre pattern) = node_code code.PillarPcre ∷ text pattern
tree_layer (Target-F.Not part) = node_code code.Not ∷ part
tree_layer (Target-F.And left right) = node_code code.And ∷ (left ++ right)
tree_layer (Target-F.Or left right) = node_code code.Or ∷ (left ++ right)

-- a target's tree
abbrev pub tree_bytes : Target → List ℕ
tree_bytes = fold-Target (List ℕ) tree_layer

-- a job: jid, kind, text of the target, its tree, function, arguments
abbrev pub job : Job → List ℕ
job j = to_be_bytes w64 j.jid ++ (kind_code j.kind ∷ (text j.tgt ++ (tree_bytes j.target ++ call j.fun j.args)))

-- an entry, by its tag
abbrev pub entry : Entry → List ℕ
entry (Return seq outcome) = entry_code code.Return ∷ (number seq ++ (outcome.retcode ∷ bytes outcome.value))
entry (Fired event) = entry_code code.Fired ∷ (word event.tag ++ bytes event.body)
entry (Start boot) = entry_code code.Start ∷ number boot
entry (Mine seq mine grains pillar) = entry_code code.Mine ∷ (number seq ++ (bytes (v.Map mine) ++ (bytes (v.Map grains) ++ bytes (v.Map pillar))))

-- the kind and the fields of a message
abbrev pub kind_and_fields : Message → List ℕ
kind_and_fields (Pub seq j) = message_code code.Pub ∷ (number seq ++ job j)
kind_and_fields (Have jobs) = message_code code.Have ∷ number jobs
kind_and_fields (Up minion n e) = message_code code.Up ∷ (id minion ++ (number n ++ entry e))
kind_and_fields (UpHave minion n) = message_code code.UpHave ∷ (id minion ++ number n)
kind_and_fields (Hello name) = message_code code.Hello ∷ id name
kind_and_fields End = message_code code.End ∷ []
kind_and_fields (AskPublish kind tgt fun args) = message_code code.AskPublish ∷ (kind_code kind ∷ (text tgt ++ call fun args))
kind_and_fields (AskReport jid) = message_code code.AskReport ∷ to_be_bytes w64 jid
kind_and_fields AskJobs = message_code code.AskJobs ∷ []
kind_and_fields (AskMine kind tgt fun) = message_code code.AskMine ∷ question kind tgt fun
kind_and_fields (Answer status report) = message_code code.Answer ∷ (status ∷ text report)

-- the kind and the fields of a message stand behind what was there. No public contract cites it.
abbrev pub AddsBody : Message → List ℕ → List ℕ → Type 0
AddsBody message old new = new ≡ old ++ kind_and_fields message

-- the one version
abbrev pub version : ℕ
version = 0x01

-- the body of a message: the version, the kind and the fields
abbrev pub body : Message → List ℕ
body message = version ∷ kind_and_fields message
