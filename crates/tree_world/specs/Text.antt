-- The printed text, by cases on the turn and the network.
use Rattle.std.specs.Prelude.{ℕ, ◌≡◌, ◌==◌, Bool, true, false, List, [], ◌∷◌, ◌++◌, length, flat_map, position, slice_get, Option, None, Some, option_map, unwrap_or, Result, Ok, Err, codes, decimal}
use Rattle.hex.specs.Hex.{encode_lower}
use Rattle.salt_value.specs.Jid.{jid_text}
use Rattle.value_json.specs.Texts.{json_text}
use Rattle.salt_wire.specs.Spelling.{body}
use Rattle.fleet_config.specs.Fleet.{FleetConfig}
use Rattle.fleet_config.specs.Tree.{Tree, id_of, minions}
use Rattle.exec_functions.specs.declared.holdings.Holdings.{Holdings}
use Rattle.salt_wire.specs.declared.message.Job.{Job}
use Rattle.salt_wire.specs.declared.deed.Deed.{Deed}
use Rattle.salt_value.specs.declared.outcome.Row.{Row}
use Rattle.salt_value.specs.declared.value.Value.TheVariants as v
use Rattle.target_tree.specs.Kinds.{name_of}
use Rattle.target_tree.specs.declared.fault.TargetFault.{TargetFault}
use Rattle.target_tree.specs.declared.fault.TargetFault.TheVariants as fault
use Rattle.node_core.specs.declared.faults.PublishRefusal.{PublishRefusal}
use Rattle.node_core.specs.declared.faults.PublishRefusal.TheVariants.{Target, BadPattern, TooLarge, JobsFull, JidEnd}
use Rattle.node_core.specs.Publications.{order, publication}
use Rattle.node_core.specs.Records.{jobs, jobs_held, log}
use Rattle.fleet_turns.specs.declared.turn.Turn.{Turn}
use Rattle.fleet_turns.specs.declared.turn.Turn.TheVariants.{Publish, Send, Deliver, Settle, Report, Exit, Jobs, Summary, Data, Counts}
use Rattle.fleet_turns.specs.declared.turn.Turn.TheVariants as t
use Rattle.tree_world.specs.Network.{Network, System, node_at, top_jobs, start}
use Rattle.tree_world.specs.Runs.{after}
use Rattle.salt_outside.specs.Streams.{contents_after, IsPart}
use Rattle.tree_world.specs.Packets.{Packet}
use Rattle.tree_world.specs.Report.{report, row_count}

-- a line with its line feed
abbrev pub line : List ℕ → List ℕ
line bytes = bytes ++ 10 ∷ []

-- a word, a space and a number
abbrev pub word_and_number : List ℕ → ℕ → List ℕ
word_and_number word n = word ++ (codes " " ++ decimal n)

-- the words of a fault of a target's text: its name, and its number where it has one
abbrev pub target_fault_text : TargetFault → List ℕ
target_fault_text fault.NoMemory = codes "NoMemory"
target_fault_text fault.Empty = codes "Empty"
target_fault_text fault.TooLong = codes "TooLong"
target_fault_text (fault.Word at) = word_and_number (codes "Word") at
target_fault_text fault.Unclosed = codes "Unclosed"
target_fault_text fault.TooDeep = codes "TooDeep"
target_fault_text fault.TooManyWords = codes "TooManyWords"
target_fault_text fault.TooManyPatterns = codes "TooManyPatterns"
target_fault_text (fault.UnknownGroup at) = word_and_number (codes "UnknownGroup") at
target_fault_text (fault.Circle at) = word_and_number (codes "Circle") at
target_fault_text (fault.BadLetter at) = word_and_number (codes "BadLetter") at

-- the words of a refusal
abbrev pub refusal_text : PublishRefusal → List ℕ
refusal_text (Target cause) = codes "Target " ++ target_fault_text cause
refusal_text (BadPattern leaf) = word_and_number (codes "BadPattern") leaf
refusal_text TooLarge = codes "TooLarge"
refusal_text (JobsFull max) = codes "JobsFull"
refusal_text JidEnd = codes "JidEnd"

-- the line of a publication
abbrev pub publish_text : Result Job PublishRefusal → List ℕ
publish_text (Ok job) = line (codes "publish " ++ jid_text job.jid)
publish_text (Err cause) = line (codes "refused publish " ++ refusal_text cause)

-- a minion's id, its retcode, and its value as JSON
abbrev pub row_text : Row → List ℕ
row_text row = line (row.id ++ codes " " ++ decimal row.outcome.retcode ++ codes " " ++ json_text row.outcome.value)

-- the line above the rows of a report, with its job's function and their count
abbrev pub head_text : ℕ → List ℕ → ℕ → List ℕ
head_text jid fun count = line (codes "report " ++ jid_text jid ++ codes " " ++ fun ++ codes " " ++ decimal count)

-- the lines of a report
abbrev pub rows_text : ℕ → List ℕ → List Row → List ℕ
rows_text jid fun rows = head_text jid fun (length rows) ++ flat_map row_text rows

-- the line of a job that the top does not have
abbrev pub unknown_text : ℕ → List ℕ
unknown_text jid = line (codes "unknown " ++ jid_text jid)

-- the number of the job with this jid
abbrev pub number_of : ℕ → List Job → Option ℕ
number_of jid jobs = position (λ job. job.jid == jid) jobs

-- the function of a job, and none past the end of the list
abbrev pub function_at : List Job → ℕ → List ℕ
function_at jobs seq = unwrap_or (option_map (λ job. job.fun) (slice_get jobs seq)) []

-- the lines of the job with this number, and one line where there is none
abbrev pub report_text : FleetConfig → Network → ℕ → Option ℕ → List ℕ
report_text f w jid None = unknown_text jid
report_text f w jid (Some seq) = rows_text jid (function_at (top_jobs w) seq) (report f.tree (node_at w.nodes 0).records seq)

-- whether a retcode is 0, as a word
abbrev pub exit_word : Bool → List ℕ
exit_word true = codes "true"
exit_word false = codes "false"

-- a minion's id, and whether its retcode is 0
abbrev pub exit_row_text : Row → List ℕ
exit_row_text row = line (row.id ++ codes " " ++ exit_word (row.outcome.retcode == 0))

-- the lines of the rows of a report, each with whether its retcode is 0, below a line with their count
abbrev pub exit_text : ℕ → List Row → List ℕ
exit_text jid rows =
    line (codes "exit " ++ jid_text jid ++ codes " " ++ decimal (length rows)) ++ flat_map exit_row_text rows

-- the exit lines of the job with this number, and one line where there is none
abbrev pub exit_or_unknown_text : FleetConfig → Network → ℕ → Option ℕ → List ℕ
exit_or_unknown_text f w jid None = unknown_text jid
exit_or_unknown_text f w jid (Some seq) = exit_text jid (report f.tree (node_at w.nodes 0).records seq)

-- a job's jid, its function, and its target's kind and text as JSON
abbrev pub job_text : Job → List ℕ
job_text job =
    line (jid_text job.jid ++ codes " " ++ job.fun ++ codes " " ++ name_of job.kind ++ codes " " ++ json_text (v.Str job.tgt))

-- the lines of a list of jobs, below a line with their count
abbrev pub jobs_text : List Job → List ℕ
jobs_text jobs = line (codes "jobs " ++ decimal (length jobs)) ++ flat_map job_text jobs

-- the line of how many jobs there are by a node's records, and how many rows their reports have
abbrev pub summary_text : Tree → List Deed → List ℕ
summary_text t records =
    let count = length (jobs records) in
    line (codes "summary jobs " ++ decimal count ++ codes " rows " ++ decimal (row_count t records count))

-- the line of what the node with this id holds: its grains, its store and its mine as JSON
abbrev pub data_text : List ℕ → Holdings → List ℕ
data_text id held =
    line (codes "data " ++ id ++ codes " " ++ json_text (v.Map held.grains) ++ codes " " ++ json_text (v.Map held.store)
    ++ codes " " ++ json_text (v.Map held.mine))

-- the id of a minion, and how many entries of it a node has by its records
abbrev pub entry_count_text : List Deed → List ℕ → List ℕ
entry_count_text records id = codes " " ++ id ++ codes ":" ++ decimal (length (log id records))

-- the same of the minion at a place
abbrev pub entries_text : Tree → List Deed → ℕ → List ℕ
entries_text t records m = entry_count_text records (id_of t m)

-- the line of how many jobs node i holds, and how many entries it has of each minion at or below it
abbrev pub counts_text : Tree → ℕ → List Deed → List ℕ
counts_text t i records =
    line (codes "counts " ++ id_of t i ++ codes " jobs " ++ decimal (jobs_held records) ++ flat_map (entries_text t records) (minions t i))

-- the line of a packet that is not there
abbrev pub missing_text : ℕ → List ℕ
missing_text i = line (codes "packet " ++ decimal i ++ codes " none")

-- a packet's number, the ids of its sender and its receiver, and its body in hexadecimal digits
abbrev pub packet_text : FleetConfig → ℕ → Option Packet → List ℕ
packet_text f i None = missing_text i
packet_text f i (Some p) =
    line (codes "packet " ++ decimal i ++ codes " " ++ id_of f.tree p.from ++ codes " " ++ id_of f.tree p.to ++ codes " " ++ encode_lower (body p.message))

-- what a turn prints
abbrev pub printed_text : FleetConfig → Turn → Network → List ℕ
printed_text f (Publish moment kind tgt fun args) w = publish_text (publication f moment (order kind tgt fun args) (top_jobs w))
printed_text f (Send from to count) w = []
printed_text f (Deliver i) w = []
printed_text f Settle w = line (codes "settled")
printed_text f (Report jid) w = report_text f w jid (number_of jid (top_jobs w))
printed_text f (Exit jid) w = exit_or_unknown_text f w jid (number_of jid (top_jobs w))
printed_text f Jobs w = jobs_text (top_jobs w)
printed_text f Summary w = summary_text f.tree (node_at w.nodes 0).records
printed_text f (Data node) w = data_text (id_of f.tree node) (node_at w.nodes node).held
printed_text f (Counts node) w = counts_text f.tree node (node_at w.nodes node).records
printed_text f (t.Packet i) w = packet_text f i (slice_get w.packets i)

-- what a turn prints on a fleet and its network
abbrev pub turn_text : Turn → System → List ℕ
turn_text turn before = printed_text before.fleet turn before.network

-- what is written has the text of a turn more
abbrev pub Prints : Turn → System → Option (List ℕ) → Option (List ℕ) → Type 0
Prints turn before old new = new ≡ contents_after old (turn_text turn before)

-- what is written has a front of the text of a turn more
abbrev pub PrintsPart : Turn → System → Option (List ℕ) → Option (List ℕ) → Type 0
PrintsPart turn before old new = IsPart old new (turn_text turn before)

-- the text of a run from here on
abbrev pub text_from : FleetConfig → List Turn → Network → List ℕ
text_from f [] w = line (codes "end")
text_from f (turn ∷ turns) w = printed_text f turn w ++ text_from f turns (after f turn w)

-- the text of a whole run
abbrev pub text_of : FleetConfig → List Turn → List ℕ
text_of f turns = text_from f turns (start f)
