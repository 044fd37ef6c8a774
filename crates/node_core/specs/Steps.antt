-- What the parts of a publication, of a message that is taken and of the messages for a neighbour do. No public contract cites these.
use Rattle.std.specs.Prelude.{ℕ, ◌≡◌, ◌<◌, ◌+◌, ◌^◌, ◌++◌, ◌∷◌, [], ⊤, IsTrue, Bool, true, false, List, length, take, drop, Result, Ok, Err, Option, None, Some, is_some}
use Rattle.salt_value.specs.WellFormed.{ValueFits}
use Rattle.salt_value.specs.declared.value.Value.{Value}
use Rattle.salt_value.specs.declared.value.Value.TheVariants as v
use Rattle.target_tree.specs.declared.target.Target.{Target}
use Rattle.target_tree.specs.declared.fault.TargetFault.{TargetFault}
use Rattle.target_tree.specs.declared.fault.TargetFault.TheVariants as fault
use Rattle.target_match.specs.Holds.{NamesBigPattern}
use Rattle.target_match.specs.Readability.{unread_leaf}
use Rattle.salt_wire.specs.Limits.{TreeFits, JobFits, EntryFits}
use Rattle.salt_wire.specs.declared.message.Job.{Job}
use Rattle.fleet_config.specs.Fleet.{FleetConfig}
use Rattle.fleet_config.specs.Limits.{most_jobs}
use Rattle.node_core.specs.declared.faults.PublishRefusal.{PublishRefusal}
use Rattle.node_core.specs.declared.faults.PublishRefusal.TheVariants as r
use Rattle.node_core.specs.declared.faults.PublishFault.{PublishFault}
use Rattle.node_core.specs.declared.faults.PublishFault.TheVariants as f
use Rattle.fleet_config.specs.Causes.{first_cause}
use Rattle.salt_wire.specs.declared.message.Entry.{Entry}
use Rattle.salt_wire.specs.declared.message.Message.{Message}
use Rattle.salt_wire.specs.declared.message.Message.TheVariants as m
use Rattle.salt_wire.specs.declared.deed.Deed.{Deed}
use Rattle.target_tree.specs.declared.kind.Kind.{Kind}
use Rattle.fleet_config.specs.Tree.{Tree, id_of, place_of}
use Rattle.node_core.specs.Records.{jobs_held, log}
use Rattle.minion_core.specs.Faults.{IsRunFault}
use Rattle.minion_core.specs.declared.fault.RunFault.{RunFault}
use Rattle.minion_core.specs.declared.fault.RunFault.TheVariants as run
use Rattle.node_core.specs.declared.faults.TakeFault.{TakeFault}
use Rattle.node_core.specs.declared.faults.TakeFault.TheVariants as take
use Rattle.node_core.specs.declared.faults.Stray.{Stray}
use Rattle.node_core.specs.declared.faults.Stray.TheVariants as stray
use Rattle.node_core.specs.Node.{NodeState, PlacedNode, in_state, run_tests, RunsBigPattern, first_tests, taken_in, pubs_from, ups_from, pending_ups}
use Rattle.node_core.specs.Counts.{raised_counts}
use Rattle.node_core.specs.NextRecords.{MayAdd, IsAddedRecord, is_next_entry}
use Rattle.node_core.specs.Publications.{Order, order, order_jid, order_job, IsJobOfOrder, IsOrderFault}

-- a refusal for a text that is no target, or want of memory
abbrev pub order_fault : TargetFault → PublishFault
order_fault fault.NoMemory = f.NoMemory
order_fault cause = f.Refused (r.Target cause)

-- a part of a publication was refused as it says, or memory ran out
abbrev pub IsOrderRefusal : {A : Type 0} → Result A PublishRefusal → PublishFault → Type 0
IsOrderRefusal part (f.Refused cause) = part ≡ Err cause
IsOrderRefusal part (f.TooBig leaf) = ⊥
IsOrderRefusal part f.NoMemory = ⊤

-- a pattern of the target cannot be read, or is too big to match with, or memory ran out
abbrev pub IsPatternFault : Target → PublishFault → Type 0
IsPatternFault tree (f.Refused cause) = (leaf : ℕ) × (cause ≡ r.BadPattern leaf) × (unread_leaf tree ≡ Some leaf)
IsPatternFault tree (f.TooBig leaf) = NamesBigPattern tree leaf
IsPatternFault tree f.NoMemory = ⊤

-- arguments and target are within the limits of a job, and there is room for one more
pub record HasJobRoom (args : List Value) (tree : Target) (jobs : List Job) : Type 0 where
  pub args_fit : ValueFits (v.List args)
  pub target_fits : TreeFits tree
  pub few : length jobs < most_jobs

-- an order with these arguments and this target gets no jid for the cause that it says, or a pattern is too big, or memory ran out
abbrev pub IsJidFault : FleetConfig → ℕ → List Value → Target → List Job → PublishFault → Type 0
IsJidFault fleet moment args tree jobs (f.Refused cause) = order_jid fleet moment args tree jobs ≡ Err cause
IsJidFault fleet moment args tree jobs (f.TooBig leaf) = NamesBigPattern tree leaf
IsJidFault fleet moment args tree jobs f.NoMemory = ⊤

-- a job was run or not as `IsRunFault` says, where a minion runs it, and else only memory may be wanted
abbrev pub IsRunBy : {A : Type 0} → Bool → Result A RunFault → Target → Type 0
IsRunBy true result target = IsRunFault result target
IsRunBy false (Ok x) target = ⊤
IsRunBy false (Err run.NoMemory) target = ⊤
IsRunBy false (Err (run.BadPattern leaf)) target = ⊥
IsRunBy false (Err (run.TooBig leaf)) target = ⊥

-- the fault of a message whose job was not run
abbrev pub take_fault : RunFault → TakeFault
take_fault run.NoMemory = take.NoMemory
take_fault (run.BadPattern leaf) = take.Stray (stray.BadPattern leaf)
take_fault (run.TooBig leaf) = take.TooBig leaf

-- What a node answers to a message that passes the first tests: its job may be run, or is stray, or has a pattern that is too big.
abbrev pub IsRunAnswer : {A : Type 0} → Result A TakeFault → Message → NodeState → Type 0
IsRunAnswer (Ok x) message node = first_cause (run_tests message node) ≡ None
IsRunAnswer (Err take.NoMemory) message node = ⊤
IsRunAnswer (Err (take.Stray cause)) message node = first_cause (run_tests message node) ≡ Some cause
IsRunAnswer (Err (take.TooBig leaf)) message node = RunsBigPattern message node leaf

-- why a message is stray before a job is looked into, if it is
abbrev pub first_stray_of : Tree → ℕ → ℕ → Message → NodeState → Option Stray
first_stray_of t me from message node = first_cause (first_tests t me from message node)

-- the same at the place of a node
abbrev pub first_stray_at : ℕ → Message → PlacedNode → Option Stray
first_stray_at from message n = first_stray_of n.fleet.tree n.me from message n.state

-- why an entry from below is stray, if it is
abbrev pub up_stray_at : ℕ → List ℕ → ℕ → Entry → PlacedNode → Option Stray
up_stray_at from id n entry node = first_stray_at from (m.Up id n entry) node

-- the counts that a message tells are raised
abbrev pub raised_by : Tree → ℕ → Message → NodeState → NodeState
raised_by t from (m.Have jobs) node = record node { known_jobs = raised_counts node.known_jobs from jobs }
raised_by t from (m.UpHave id n) node = record node { known_ups = raised_counts node.known_ups (place_of t id) n }
raised_by t from other node = node

-- the same at the place of a node
abbrev pub raised_at : ℕ → Message → PlacedNode → PlacedNode
raised_at from message n = in_state (raised_by n.fleet.tree from message n.state) n

-- the reply to a message that was taken, if any: how many jobs, or entries of its minion, are held now
abbrev pub reply_by : Message → NodeState → Option Message
reply_by (m.Pub seq job) node = Some (m.Have (jobs_held node.records))
reply_by (m.Up id n entry) node = Some (m.UpHave id (length (log id node.records)))
reply_by other node = None

-- the same of a node
abbrev pub reply_at : Message → PlacedNode → Option Message
reply_at message n = reply_by message n.state

-- this is the record of a job with the next number, and the node may add it
pub record IsTakenIn (seq : ℕ) (job : Job) (n : PlacedNode) (deed : Deed) : Type 0 where
  pub is : deed ≡ taken_in n.fleet.tree n.me seq job n.state
  pub next : MayAdd deed n

-- this is the record of a job from the parent, if its number is the next
abbrev pub IsNextJobDeed : ℕ → Job → PlacedNode → Option Deed → Type 0
IsNextJobDeed seq job n deed = IsAddedRecord (m.Pub seq job) n deed

-- this is the record of an entry from below, if its number is the next
abbrev pub IsNextEntryDeed : List ℕ → ℕ → Entry → PlacedNode → Option Deed → Type 0
IsNextEntryDeed id k entry n deed = IsAddedRecord (m.Up id k entry) n deed

-- an entry may be the next record of a node
abbrev pub is_next_entry_at : PlacedNode → List ℕ → Entry → Bool
is_next_entry_at n id entry = is_next_entry n.fleet.tree n.me n.state.records id entry

-- the log that a node has of its own id
abbrev pub own_log : PlacedNode → List Entry
own_log n = log (id_of n.fleet.tree n.me) n.state.records

-- the publications of the jobs from number known on were added to these messages, up to max messages in all
abbrev pub AddsJobs : ℕ → ℕ → List Job → List Message → List Message → Type 0
AddsJobs max known jobs before after = after ≡ take max (before ++ pubs_from known (drop known jobs))

-- the entries of a minion from number known on were added to these messages, up to max messages in all
abbrev pub AddsEntries : ℕ → List ℕ → ℕ → List Entry → List Message → List Message → Type 0
AddsEntries max id known entries before after = after ≡ take max (before ++ ups_from id known (drop known entries))

-- the entries of a minion that the parent is not known to hold were added to these messages, up to max messages in all
abbrev pub AddsUps : PlacedNode → ℕ → ℕ → List Message → List Message → Type 0
AddsUps n minion max before after = after ≡ take max (before ++ pending_ups n.fleet.tree n.state minion)

-- an order with these arguments and this target gets this jid
abbrev pub IsOrderJid : FleetConfig → ℕ → List Value → Target → List Job → ℕ → Type 0
IsOrderJid fleet moment args tree jobs jid = order_jid fleet moment args tree jobs ≡ Ok jid

-- the job of an order, whose target is this tree, under this jid
abbrev pub IsJobOf : Order → Target → ℕ → Job → Type 0
IsJobOf o tree jid job = job ≡ order_job o tree jid

-- the order of a text of this kind, a function and its arguments makes this job
abbrev pub MakesJob : FleetConfig → ℕ → Kind → List ℕ → List ℕ → List Value → List Job → Job → Type 0
MakesJob fleet moment kind tgt fun args jobs job = IsJobOfOrder fleet moment (order kind tgt fun args) jobs job

-- this fault denies that order its job
abbrev pub Denies : FleetConfig → ℕ → Kind → List ℕ → List ℕ → List Value → List Job → PublishFault → Type 0
Denies fleet moment kind tgt fun args jobs fault = IsOrderFault fleet moment (order kind tgt fun args) jobs fault
