-- Why a turn is not finished: want of memory, a sink that failed, or a pattern that is too big to match with.
use Rattle.std.specs.Prelude.{ℕ, ◌≡◌, ⊤, List, Some, slice_get, Result, IsErrOf}
use Rattle.fleet_config.specs.Fleet.{FleetConfig}
use Rattle.target_match.specs.Holds.{NamesBigPattern}
use Rattle.salt_wire.specs.declared.message.Job.{Job}
use Rattle.salt_wire.specs.declared.message.Message.{Message}
use Rattle.salt_wire.specs.declared.message.Message.TheVariants as m
use Rattle.node_core.specs.Node.{NodeState, RunsBigPattern}
use Rattle.node_core.specs.Publications.{order, IsTargetTooBig}
use Rattle.fleet_turns.specs.declared.turn.Turn.{Turn}
use Rattle.fleet_turns.specs.declared.turn.Turn.TheVariants.{Publish, Send, Deliver, Settle, Report, Exit, Jobs, Summary, Data, Counts}
use Rattle.fleet_turns.specs.declared.turn.Turn.TheVariants as t
use Rattle.tree_world.specs.declared.world.Halt.{Halt}
use Rattle.tree_world.specs.declared.world.Halt.TheVariants as halt
use Rattle.tree_world.specs.declared.world.StepFault.{StepFault}
use Rattle.tree_world.specs.declared.world.StepFault.TheVariants as step
use Rattle.salt_outside.specs.Causes.{CountsFaults}
use Rattle.tree_world.specs.Packets.{Packet}
use Rattle.tree_world.specs.Network.{Network, System, node_at}
use Rattle.tree_world.specs.Settle.{node_jobs}

-- a node holds a job with a target whose pattern of this leaf is too big to match with
abbrev pub HoldsBigPattern : Network → ℕ → Type 0
HoldsBigPattern w leaf =
    (i seq : ℕ) × (job : Job) × (slice_get (node_jobs w i) seq ≡ Some job) × NamesBigPattern job.target leaf

-- A turn publishes for a target whose pattern of this leaf is too big, or delivers a job with such a target that its receiver runs, or
-- settles where a node holds such a job.
abbrev pub MeetsBigPattern : FleetConfig → Turn → Network → ℕ → Type 0
MeetsBigPattern f (Publish moment kind tgt fun args) w leaf = IsTargetTooBig f.groups (order kind tgt fun args) leaf
MeetsBigPattern f (Send from to count) w leaf = ⊥
MeetsBigPattern f (Deliver i) w leaf =
    (p : Packet) × (slice_get w.packets i ≡ Some p) × RunsBigPattern p.message (node_at w.nodes p.to) leaf
MeetsBigPattern f Settle w leaf = HoldsBigPattern w leaf
MeetsBigPattern f (Report jid) w leaf = ⊥
MeetsBigPattern f (Exit jid) w leaf = ⊥
MeetsBigPattern f Jobs w leaf = ⊥
MeetsBigPattern f Summary w leaf = ⊥
MeetsBigPattern f (Data node) w leaf = ⊥
MeetsBigPattern f (Counts node) w leaf = ⊥
MeetsBigPattern f (t.Packet i) w leaf = ⊥

-- A turn stops before its text is written: a pattern is too big, or memory ran out. No public contract cites it.
abbrev pub IsHalt : FleetConfig → Turn → Network → Halt → Type 0
IsHalt f turn w halt.NoMemory = ⊤
IsHalt f turn w (halt.TooBig leaf) = MeetsBigPattern f turn w leaf

-- A part of a settle stops: a node holds a job with a pattern that is too big, or memory ran out. No public contract cites it.
abbrev pub IsSettleHalt : Network → Halt → Type 0
IsSettleHalt w halt.NoMemory = ⊤
IsSettleHalt w (halt.TooBig leaf) = HoldsBigPattern w leaf

-- An exchange stops: its message carries a job with a pattern that is too big, or memory ran out. No public contract cites it.
abbrev pub IsExchangeHalt : Message → Halt → Type 0
IsExchangeHalt message halt.NoMemory = ⊤
IsExchangeHalt (m.Pub seq job) (halt.TooBig leaf) = NamesBigPattern job.target leaf
IsExchangeHalt other (halt.TooBig leaf) = ⊥

-- Memory ran out. No public contract cites it.
abbrev pub IsWantOfMemory : Halt → Type 0
IsWantOfMemory halt.NoMemory = ⊤
IsWantOfMemory (halt.TooBig leaf) = ⊥

-- the same of a fleet with its network. No public contract cites it.
abbrev pub Halts : Turn → System → Halt → Type 0
Halts turn before stop = IsHalt before.fleet turn before.network stop

-- The receiver of a packet runs a job with a pattern that is too big, or memory ran out. No public contract cites it.
abbrev pub IsReceiptHalt : List NodeState → Packet → Halt → Type 0
IsReceiptHalt nodes p halt.NoMemory = ⊤
IsReceiptHalt nodes p (halt.TooBig leaf) = RunsBigPattern p.message (node_at nodes p.to) leaf

-- a turn is not finished: a pattern is too big, or memory or the sink failed, of which nothing more is said here
abbrev pub IsStepFault : FleetConfig → Turn → Network → StepFault → Type 0
IsStepFault f turn w step.NoMemory = ⊤
IsStepFault f turn w (step.TooBig leaf) = MeetsBigPattern f turn w leaf
IsStepFault f turn w step.WriteFault = ⊤

-- The fault of a turn that stopped. No public contract cites it.
abbrev pub step_fault : Halt → StepFault
step_fault halt.NoMemory = step.NoMemory
step_fault (halt.TooBig leaf) = step.TooBig leaf

-- no pattern is too big
abbrev pub NeverTooBig : StepFault → Type 0
NeverTooBig step.NoMemory = ⊤
NeverTooBig (step.TooBig leaf) = ⊥
NeverTooBig step.WriteFault = ⊤

-- a sink counts a fault exactly where the answer is that the text could not be written
abbrev pub CountsWriteFaults : {A : Type 0} → Result A StepFault → ℕ → ℕ → Type 0
CountsWriteFaults result before now = CountsFaults (IsErrOf result step.WriteFault) before now
