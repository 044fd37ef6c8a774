-- A publication at a top over its log, by how it ended.
use Rattle.std.specs.Prelude.{◌≡◌, ℕ, ⊤, true, Option, Some, None, Result, Ok, Err}
use Rattle.gate_journal.specs.declared.fault.AppendFault.{AppendFault}
use Rattle.gate_journal.specs.declared.fault.AppendFault.TheVariants as a
use Rattle.salt_wire.specs.declared.message.Job.{Job}
use Rattle.salt_wire.specs.declared.deed.Deed.{Deed}
use Rattle.salt_wire.specs.declared.deed.Deed.TheVariants.{Publish}
use Rattle.node_core.specs.declared.faults.PublishRefusal.{PublishRefusal}
use Rattle.node_core.specs.declared.faults.PublishFault as NodeFault
use Rattle.node_core.specs.declared.faults.PublishFault.TheVariants as core
use Rattle.node_core.specs.Node.{PlacedNode}
use Rattle.node_core.specs.Publications.{Order, publication, DeniesOrder}
use Rattle.node_core.specs.Records.{jobs}
use Rattle.journalled_node.specs.declared.fault.PublishFault.{PublishFault}
use Rattle.journalled_node.specs.declared.fault.PublishFault.TheVariants as p
use Rattle.journalled_node.specs.State.{JournalledState, is_lost_or_down}
use Rattle.journalled_node.specs.Calls.{CallEnd, IsFullBy}
use Rattle.journalled_node.specs.Calls.CallEnd.{Answered, WasDown, WasRefused, WantedMemory, WasFull, DiskFailed}

-- how a publication ended
abbrev pub publish_end : {T : Type 0} → Result T PublishFault → CallEnd
publish_end (Ok jid) = Answered
publish_end (Err p.Down) = WasDown
publish_end (Err (p.Refused cause)) = WasRefused
publish_end (Err (p.TooBig leaf)) = WasRefused
publish_end (Err p.NoMemory) = WantedMemory
publish_end (Err (p.Full n limit)) = WasFull
publish_end (Err p.Disk) = DiskFailed

-- the record of an order, if it makes a job
abbrev pub order_record : Result Job PublishRefusal → Option Deed
order_record (Ok job) = Some (Publish job)
order_record (Err cause) = None

-- the record that an order adds at a top, if it makes a job
abbrev pub published_at : ℕ → Order → PlacedNode → Option Deed
published_at moment o n = order_record (publication n.fleet moment o (jobs n.state.records))

-- why a top over its log publishes no job for an order
abbrev pub IsJournalledRefusal : ℕ → Order → JournalledState → PublishFault → Type 0
IsJournalledRefusal moment o n p.Down = is_lost_or_down n ≡ true
IsJournalledRefusal moment o n (p.Refused cause) = DeniesOrder moment o n.node (core.Refused cause)
IsJournalledRefusal moment o n (p.TooBig leaf) = DeniesOrder moment o n.node (core.TooBig leaf)
IsJournalledRefusal moment o n p.NoMemory = ⊤
IsJournalledRefusal moment o n (p.Full length limit) = IsFullBy n (published_at moment o n.node) length limit
IsJournalledRefusal moment o n p.Disk = ⊤

-- Why a top that is up publishes no job for an order. No public contract cites it.
abbrev pub IsUpRefusal : ℕ → Order → JournalledState → PublishFault → Type 0
IsUpRefusal moment o n p.Down = ⊥
IsUpRefusal moment o n (p.Refused cause) = DeniesOrder moment o n.node (core.Refused cause)
IsUpRefusal moment o n (p.TooBig leaf) = DeniesOrder moment o n.node (core.TooBig leaf)
IsUpRefusal moment o n p.NoMemory = ⊤
IsUpRefusal moment o n (p.Full length limit) = IsFullBy n (published_at moment o n.node) length limit
IsUpRefusal moment o n p.Disk = ⊤

-- Why the record of a job was not kept. No public contract cites it.
abbrev pub IsKeptRefusal : JournalledState → Deed → PublishFault → Type 0
IsKeptRefusal n deed p.Down = ⊥
IsKeptRefusal n deed (p.Refused cause) = ⊥
IsKeptRefusal n deed (p.TooBig leaf) = ⊥
IsKeptRefusal n deed p.NoMemory = ⊤
IsKeptRefusal n deed (p.Full length limit) = IsFullBy n (Some deed) length limit
IsKeptRefusal n deed p.Disk = ⊤

-- the fault of an order whose job's record was not kept. No public contract cites it.
abbrev pub unpublished : AppendFault → PublishFault
unpublished a.NoMemory = p.NoMemory
unpublished a.Down = p.Down
unpublished (a.Full n limit) = p.Full n limit
unpublished a.Disk = p.Disk

-- the fault of an order of which the node in memory makes no job. No public contract cites it.
abbrev pub unmade : NodeFault.PublishFault → PublishFault
unmade (core.Refused cause) = p.Refused cause
unmade (core.TooBig leaf) = p.TooBig leaf
unmade core.NoMemory = p.NoMemory
