-- Publications: which job an order makes at the top, or why it is refused.
use Rattle.std.specs.Prelude.{ℕ, ◌≡◌, ⊤, ◌&&◌, nat_lt, Bool, List, [], ◌∷◌, length, is_none, unwrap_or, Option, None, Some, Result, Ok, Err}
use Rattle.std.specs.Option.{ok_or}
use Rattle.salt_value.specs.Readers.{◌>>=◌}
use Rattle.salt_value.specs.Jid.{next_jid}
use Rattle.salt_value.specs.FitTest.{fits}
use Rattle.salt_value.specs.declared.value.Value.{Value}
use Rattle.salt_value.specs.declared.value.Value.TheVariants as v
use Rattle.target_tree.specs.Nodegroups.{Group}
use Rattle.target_tree.specs.Machine.{machine_tree}
use Rattle.target_tree.specs.declared.kind.Kind.{Kind}
use Rattle.target_tree.specs.declared.target.Target.{Target}
use Rattle.target_tree.specs.declared.fault.TargetFault.{TargetFault}
use Rattle.target_match.specs.Holds.{NamesBigPattern}
use Rattle.target_match.specs.Readability.{unread_leaf}
use Rattle.salt_wire.specs.FitTest.{tree_fits}
use Rattle.salt_wire.specs.declared.message.Job.{Job}
use Rattle.salt_wire.specs.declared.deed.Deed.TheVariants.{Publish}
use Rattle.fleet_config.specs.Causes.{first_cause}
use Rattle.fleet_config.specs.Fleet.{FleetConfig}
use Rattle.minion_core.specs.Flat.{last_jid}
use Rattle.node_core.specs.declared.faults.PublishRefusal.{PublishRefusal}
use Rattle.node_core.specs.declared.faults.PublishRefusal.TheVariants as r
use Rattle.node_core.specs.declared.faults.PublishFault.{PublishFault}
use Rattle.node_core.specs.declared.faults.PublishFault.TheVariants as f
use Rattle.node_core.specs.Records.{jobs}
use Rattle.node_core.specs.Node.{NodeState, PlacedNode, with_record}

-- what is to be published: the text of a target and its kind, a function, and its arguments
pub record Order : Type 0 where
  pub kind : Kind
  pub tgt : List ℕ
  pub fun : List ℕ
  pub args : List Value

-- the order of these
abbrev pub order : Kind → List ℕ → List ℕ → List Value → Order
order kind tgt fun args = record { kind = kind; tgt = tgt; fun = fun; args = args }

-- the job of an order, whose target is this tree, under this jid
abbrev pub order_job : Order → Target → ℕ → Job
order_job o tree jid = record { jid = jid; kind = o.kind; tgt = o.tgt; target = tree; fun = o.fun; args = o.args }

-- a tree that was read, or the refusal of a text that is no target
abbrev pub tree_or_refusal : Result Target TargetFault → Result Target PublishRefusal
tree_or_refusal (Ok tree) = Ok tree
tree_or_refusal (Err fault) = Err (r.Target fault)

-- the tree of a target's text of this kind
abbrev pub tree_of_text : Kind → List Group → List ℕ → Result Target PublishRefusal
tree_of_text kind groups tgt = tree_or_refusal (machine_tree kind groups tgt)

-- the tree of an order's target
abbrev pub order_tree : List Group → Order → Result Target PublishRefusal
order_tree groups o = tree_of_text o.kind groups o.tgt

-- arguments and target are within the limits of a job
abbrev pub order_fits : List Value → Target → Bool
order_fits args tree = fits (v.List args) && tree_fits tree

-- What must hold of an order with these arguments and this target where the top holds so many jobs and may hold at most max_jobs, each with
-- the refusal where it does not, in order.
abbrev pub order_tests : ℕ → List Value → Target → ℕ → List (Bool × PublishRefusal)
order_tests max_jobs args tree held =
    (is_none (unread_leaf tree), r.BadPattern (unwrap_or (unread_leaf tree) 0))
    ∷ (order_fits args tree, r.TooLarge)
    ∷ (nat_lt held max_jobs, r.JobsFull max_jobs) ∷ []

-- the jid after those of these jobs at a moment
abbrev pub jid_or_refusal : ℕ → List Job → Result ℕ PublishRefusal
jid_or_refusal moment jobs = ok_or (next_jid (last_jid jobs) moment) r.JidEnd

-- what comes next, unless a cause refuses it
abbrev pub unless_refused : {A : Type 0} → Option PublishRefusal → Result A PublishRefusal → Result A PublishRefusal
unless_refused None next = next
unless_refused (Some cause) next = Err cause

-- the jid of an order with these arguments and this target, or the first refusal
abbrev pub order_jid : FleetConfig → ℕ → List Value → Target → List Job → Result ℕ PublishRefusal
order_jid f moment args tree jobs =
    unless_refused (first_cause (order_tests f.max_jobs args tree (length jobs))) (jid_or_refusal moment jobs)

-- The job that an order makes at a moment where the top has these jobs, or the first cause for which it is refused.
abbrev pub publication : FleetConfig → ℕ → Order → List Job → Result Job PublishRefusal
publication f moment o jobs =
    order_tree f.groups o >>= λ tree. order_jid f moment o.args tree jobs >>= λ jid. Ok (order_job o tree jid)

-- an order makes this job
abbrev pub IsJobOfOrder : FleetConfig → ℕ → Order → List Job → Job → Type 0
IsJobOfOrder f moment o jobs job = publication f moment o jobs ≡ Ok job

-- A node published an order under this jid: it recorded the job.
pub record Publishes (f : FleetConfig) (moment : ℕ) (o : Order) (before after : NodeState) (jid : ℕ) : Type 0 where
  pub job : Job
  pub is : publication f moment o (jobs before.records) ≡ Ok job
  pub jid_is : job.jid ≡ jid
  pub recorded : after ≡ with_record (Publish job) before

-- a pattern of the order's target can be read, as each before it, but is too big to match with
abbrev pub IsTargetTooBig : List Group → Order → ℕ → Type 0
IsTargetTooBig groups o leaf = (tree : Target) × (order_tree groups o ≡ Ok tree) × NamesBigPattern tree leaf

-- A refusal is the publication's where the top has these jobs. The other faults are a pattern that is too big, and want of memory.
abbrev pub IsOrderFault : FleetConfig → ℕ → Order → List Job → PublishFault → Type 0
IsOrderFault fleet moment o jobs (f.Refused cause) = publication fleet moment o jobs ≡ Err cause
IsOrderFault fleet moment o jobs (f.TooBig leaf) = IsTargetTooBig fleet.groups o leaf
IsOrderFault fleet moment o jobs f.NoMemory = ⊤

-- the same where this node is the top
abbrev pub IsPublishFault : FleetConfig → ℕ → Order → NodeState → PublishFault → Type 0
IsPublishFault fleet moment o node fault = IsOrderFault fleet moment o (jobs node.records) fault

-- a top published an order under this jid
abbrev pub PublishesOrder : ℕ → Order → PlacedNode → PlacedNode → ℕ → Type 0
PublishesOrder moment o before after jid = Publishes before.fleet moment o before.state after.state jid

-- an order makes this job at the top
abbrev pub MakesOrderJob : ℕ → Order → PlacedNode → Job → Type 0
MakesOrderJob moment o n job = IsJobOfOrder n.fleet moment o (jobs n.state.records) job

-- why a top publishes no job for an order
abbrev pub DeniesOrder : ℕ → Order → PlacedNode → PublishFault → Type 0
DeniesOrder moment o n fault = IsPublishFault n.fleet moment o n.state fault
