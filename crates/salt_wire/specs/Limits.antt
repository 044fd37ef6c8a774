-- Which messages have a body, by cases on the message.
use Rattle.std.specs.Prelude.{◌≡◌, ◌<◌, ◌≤◌, ◌+◌, ◌^◌, ◌&&◌, ◌||◌, ◌==◌, nat_le, ℕ, Bool, true, List, length}
use Rattle.std.specs.List.{list_all}
use Rattle.salt_value.specs.Limits.{most_id_bytes}
use Rattle.salt_value.specs.Id.{is_id_byte, IsId}
use Rattle.salt_value.specs.Word.{IsWord}
use Rattle.salt_value.specs.Jid.{greatest_jid}
use Rattle.salt_value.specs.WellFormed.{ValueFits, is_text}
use Rattle.salt_value.specs.declared.value.Value.TheVariants as v
use Rattle.target_tree.specs.declared.target.Target.{Target, fold-Target}
use Rattle.target_tree.specs.declared.target.Target.TheOpen.{Target-F}
use Rattle.salt_wire.specs.Spelling.{tree_bytes}
use Rattle.salt_wire.specs.declared.message.Job.{Job}
use Rattle.salt_wire.specs.declared.message.Entry.{Entry}
use Rattle.salt_wire.specs.declared.message.Entry.TheVariants.{Return, Fired, Start, Mine}
use Rattle.salt_wire.specs.declared.message.Message.{Message}
use Rattle.salt_wire.specs.declared.message.Message.TheVariants.{Pub, Have, Up, UpHave, Hello, End, AskPublish, AskReport, AskJobs, AskMine, Answer}

-- ---- the limits, which are this project's own

-- the bytes of the longest text of a job's target
abbrev pub most_target_bytes : ℕ
most_target_bytes = 4096

-- the bytes of the longest text of a leaf
abbrev pub most_leaf_bytes : ℕ
most_leaf_bytes = 4096

-- the ids of the longest leaf with ids
abbrev pub most_leaf_ids : ℕ
most_leaf_ids = 65535

-- the nodes of the greatest tree
abbrev pub most_tree_nodes : ℕ
most_tree_nodes = 256

-- the leaves with a pattern of the greatest tree
abbrev pub most_patterns : ℕ
most_patterns = 16

-- the bytes of the longest tree
abbrev pub most_tree_bytes : ℕ
most_tree_bytes = 65536

-- the bytes of the longest report in an answer
abbrev pub most_answer_bytes : ℕ
most_answer_bytes = 1000000

-- ---- what is within them

-- bytes that are an id
abbrev pub is_id : List ℕ → Bool
is_id bytes = nat_le 1 (length bytes) && (nat_le (length bytes) most_id_bytes && list_all is_id_byte bytes)

-- the text of a leaf
abbrev pub is_leaf_text : List ℕ → Bool
is_leaf_text text = is_text text && (nat_le 1 (length text) && nat_le (length text) most_leaf_bytes)

-- one layer of a tree, where for each part stands whether it is right
abbrev pub right_layer : Target-F Bool → Bool
right_layer (Target-F.IdGlob glob) = is_leaf_text glob
right_layer (Target-F.IdPcre pattern) = is_leaf_text pattern
right_layer (Target-F.IdList ids) = nat_le 1 (length ids) && (nat_le (length ids) most_leaf_ids && list_all is_id ids)
right_layer (Target-F.GrainGlob glob) = is_leaf_text glob
right_layer (Target-F.GrainPcre pattern) = is_leaf_text pattern
right_layer (Target-F.PillarGlob glob) = is_leaf_text glob
right_layer (Target-F.PillarPcre pattern) = is_leaf_text pattern
right_layer (Target-F.Not part) = part
right_layer (Target-F.And left right) = left && right
right_layer (Target-F.Or left right) = left && right

-- one layer of a tree, with the number of nodes of each part in the part's place
abbrev pub nodes_layer : Target-F ℕ → ℕ
nodes_layer (Target-F.Not part) = 1 + part
nodes_layer (Target-F.And left right) = 1 + (left + right)
nodes_layer (Target-F.Or left right) = 1 + (left + right)
nodes_layer leaf = 1

-- one layer of a tree, with the number of pattern leaves of each part in the part's place
abbrev pub pattern_count_layer : Target-F ℕ → ℕ
pattern_count_layer (Target-F.IdPcre pattern) = 1
pattern_count_layer (Target-F.GrainPcre pattern) = 1
pattern_count_layer (Target-F.PillarPcre pattern) = 1
pattern_count_layer (Target-F.Not part) = part
pattern_count_layer (Target-F.And left right) = left + right
pattern_count_layer (Target-F.Or left right) = left + right
pattern_count_layer leaf = 0

-- each leaf has its right text or ids
abbrev pub right : Target → Bool
right = fold-Target Bool right_layer

-- how many nodes a tree has
abbrev pub nodes : Target → ℕ
nodes = fold-Target ℕ nodes_layer

-- how many of them are leaves with a pattern
abbrev pub pattern_count : Target → ℕ
pattern_count = fold-Target ℕ pattern_count_layer

-- a tree within the limits, whose leaves are right
pub record TreeFits (t : Target) : Type 0 where
  pub few_nodes : nodes t ≤ most_tree_nodes
  pub few_patterns : pattern_count t ≤ most_patterns
  pub long : length (tree_bytes t) ≤ most_tree_bytes
  pub right_leaves : right t ≡ true

-- a number of 32 bits
abbrev pub IsNumber : ℕ → Type 0
IsNumber n = n < 2 ^ 32

-- a text
abbrev pub IsText : List ℕ → Type 0
IsText text = is_text text ≡ true

-- a job within the limits
pub record JobFits (j : Job) : Type 0 where
  pub jid : j.jid ≤ greatest_jid
  pub tgt : IsText j.tgt
  pub tgt_long : length j.tgt ≤ most_target_bytes
  pub target : TreeFits j.target
  pub fun : IsWord j.fun
  pub args : ValueFits (v.List j.args)

-- an entry within the limits
abbrev pub EntryFits : Entry → Type 0
EntryFits (Return seq outcome) = IsNumber seq × (outcome.retcode < 256) × ValueFits outcome.value
EntryFits (Fired event) = IsWord event.tag × ValueFits event.body
EntryFits (Start boot) = IsNumber boot
EntryFits (Mine seq mine grains pillar) = IsNumber seq × ValueFits (v.Map mine) × ValueFits (v.Map grains) × ValueFits (v.Map pillar)

-- the status of an answer to a client
abbrev pub is_status : ℕ → Bool
is_status n = n == 0 || (n == 1 || (n == 10 || (n == 11 || n == 12)))

-- a message within the limits
abbrev pub Within : Message → Type 0
Within (Pub seq j) = IsNumber seq × JobFits j
Within (Have jobs) = IsNumber jobs
Within (Up minion n e) = IsId minion × IsNumber n × EntryFits e
Within (UpHave minion n) = IsId minion × IsNumber n
Within (Hello name) = IsId name
Within End = Unit {0}
Within (AskPublish kind tgt fun args) = IsText tgt × IsWord fun × ValueFits (v.List args)
Within (AskReport jid) = jid ≤ greatest_jid
Within AskJobs = Unit {0}
Within (AskMine kind tgt fun) = IsText tgt × IsWord fun
Within (Answer status report) = (is_status status ≡ true) × IsText report × (length report ≤ most_answer_bytes)
