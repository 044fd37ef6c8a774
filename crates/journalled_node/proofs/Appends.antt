-- What the append of a record leaves of a node's records.
use Rattle.std.proofs.Common.{◌≡◌, ◌⊎◌, ℕ, ◌==◌, nat_le, ◌-◌, ◌∙◌, sym, ap, inl, arith, refl, subst, Bool, true, false, List, [], ◌∷◌, ◌++◌, length, Option, None, Some, Result, Ok, Err, if◌then◌else◌}
use Rattle.std.specs.Prelude.{◌||◌, IsErrOf, OnOk, IfOk}
use Rattle.std.proofs.lemmas.List.{map-append}
use Rattle.salt_disk.specs.declared.disk.Disk.{Ghosts}
use Rattle.salt_disk.specs.declared.disk.Fuse.{Fuse}
use Rattle.salt_disk.specs.declared.disk.Fuse.TheVariants.{Whole, Armed, Out}
use Rattle.salt_disk.specs.Crash.{Image, MayLeave, LeavesOnly}
use Rattle.salt_disk.specs.Fuse.{Passes, fuse_after}
use Rattle.salt_disk.proofs.Moments.{started}
use Rattle.gate_journal.specs.Layout.{open_gate}
use Rattle.gate_journal.specs.Journal.{JournalState}
use Rattle.gate_journal.specs.Append.{after_append, DownExactly}
use Rattle.gate_journal.specs.declared.fault.AppendFault.{AppendFault}
use Rattle.gate_journal.specs.declared.fault.AppendFault.TheVariants as a
use Rattle.checkpoint_log.specs.Content.{LogContent, IsLog, HoldsContent, content_after}
use Rattle.checkpoint_log.specs.Additions.{HoldsContentAfter, LeavesOldOrNewLog, LeavesLogByAnswer, BurnsByLogAppend, LogBurns, content_by_stop}
use Rattle.checkpoint_log.specs.Laws.{StopsGoByTheGate, LogsAtRestAreLeft}
use Rattle.salt_wire.specs.declared.deed.Deed.{Deed}
use Rattle.salt_wire.specs.declared.deed.Deed.TheVariants.{Publish}
use Rattle.salt_wire.specs.declared.message.Job.{Job}
use Rattle.salt_wire.specs.declared.message.Message.{Message}
use Rattle.journal_records.specs.Spelling.{record_bytes}
use Rattle.node_core.specs.declared.faults.TakeFault as NodeFault
use Rattle.node_core.specs.declared.faults.TakeFault.TheVariants as core
use Rattle.node_core.specs.declared.faults.PublishFault as OrderFault
use Rattle.node_core.specs.declared.faults.PublishFault.TheVariants as refused
use Rattle.node_core.specs.Node.{PlacedNode}
use Rattle.node_core.specs.Records.{jobs}
use Rattle.node_core.specs.NextRecords.{with_if_any, placed_after}
use Rattle.node_core.specs.Publications.{Order, IsJobOfOrder, PublishesOrder}
use Rattle.journalled_node.specs.declared.fault.PublishFault.{PublishFault}
use Rattle.journalled_node.specs.State.{records_content, HasRecords, HasRecordsOrMore}
use Rattle.journalled_node.specs.Calls.{CallEnd, HasRecordsByEnd, take_end, append_end, kept_fault, node_fault, record_by_stop, KeepsByCall, IsKeptFault, TellsRoom, node_over}
use Rattle.journalled_node.specs.Orders.{publish_end, unpublished, unmade}
use Rattle.journalled_node.specs.Calls.CallEnd.{Answered, WasRefused, WantedMemory, WasFull, DiskFailed}

or_true : {A : Type 0} (b : Bool) → (b || true) ≡ false → A
or_true true e = absurd cc
or_true false e = absurd cc

take_ends : (fault : AppendFault) → append_end {T = Unit {0}} (Err fault) ≡ take_end {T = Option Message} (Err (kept_fault fault))
take_ends a.NoMemory = refl
take_ends a.Down = refl
take_ends (a.Full n limit) = refl
take_ends a.Disk = refl

abbrev publish_ends : (fault : AppendFault) → append_end {T = Unit {0}} (Err fault) ≡ publish_end {T = ℕ} (Err (unpublished fault))
publish_ends a.NoMemory = refl
publish_ends a.Down = refl
publish_ends (a.Full n limit) = refl
publish_ends a.Disk = refl

abbrev content_of : List (List ℕ) → LogContent
content_of rest = record { base = None; rest = rest }

-- a record more is a payload more
pub more : (records : List Deed) (deed : Deed) → content_after (records_content records) (record_bytes deed) ≡ records_content (records ++ deed ∷ [])
more records deed = ap content_of (sym (map-append record_bytes records (deed ∷ [])))

by_stop : (records : List Deed) (deed : Deed) (late chosen : Bool)
    → (if late then (if chosen then content_after (records_content records) (record_bytes deed) else records_content records) else records_content records)
    ≡ records_content (with_if_any (if late then (if chosen then Some deed else None) else None) records)
by_stop records deed true true = more records deed
by_stop records deed true false = refl
by_stop records deed false chosen = refl

-- what the gate decides on, in records
pub stop_is : (records : List Deed) (deed : Deed) (calls pick : ℕ)
    → content_by_stop calls pick (records_content records) (record_bytes deed) ≡ records_content (with_if_any (record_by_stop calls pick (Some deed)) records)
stop_is records deed calls pick = by_stop records deed (nat_le 2 calls) (pick == open_gate)

module _ {D : Type 0} (disk : Ghosts D) (old new : D) (p : PlacedNode) (log after : JournalState) (deed : Deed) (up : log.is_down ≡ false)
    (holds : disk.is_told → HoldsContent log (records_content p.state.records) (disk.state old)) where
  abbrev pub bytes : List ℕ
  bytes = record_bytes deed

  moment : LeavesOldOrNewLog disk old new log bytes → disk.is_told
      → LeavesOnly disk.past disk.state old new (HasRecordsOrMore log.limit p.state.records (Some deed))
  moment h told =
      subst (λ (c : LogContent). LeavesOnly disk.past disk.state old new (λ image. IsLog log.limit (records_content p.state.records) image ⊎ IsLog log.limit c image))
      (more p.state.records deed) (h told up (records_content p.state.records) (holds told))

  module _ (done : Unit {0}) (held : HoldsContentAfter {T = Unit {0}} disk old new log after bytes (Ok done)) (moments : LeavesOldOrNewLog disk old new log bytes)
      (left : LeavesLogByAnswer {T = Unit {0}} disk old new log bytes (Ok done)) (burns : BurnsByLogAppend {T = Unit {0}} disk old new log bytes (Ok done))
      (is : after ≡ after_append log (length bytes) (Ok done)) where
    left_more : disk.is_told → (image : Image) → MayLeave (disk.state new) image → HasRecords log.limit (p.state.records ++ deed ∷ []) image
    left_more told image may =
        subst (λ (c : LogContent). IsLog log.limit c image) (more p.state.records deed) (left told up (records_content p.state.records) (holds told) image may)

    -- a record that was kept, and that the node took
    pub kept_ok : (q : PlacedNode) → q.state.records ≡ p.state.records ++ deed ∷ []
        → KeepsByCall disk old new (node_over p log false) (node_over q after false) (Some deed) Answered
    kept_ok q grown = record {
      limit = ap (λ (j : JournalState). j.limit) is;
      stands = λ told still. subst (λ (rs : List Deed). HoldsContent after (records_content rs) (disk.state new)) (sym grown)
          (subst (λ (c : LogContent). HoldsContent after c (disk.state new)) (more p.state.records deed) (held told (λ e. absurd cc) (records_content p.state.records) (holds told)));
      any_moment = moment moments;
      left = left_more;
      passed = λ told e. (burns told).passed;
      not_passed = λ told e. absurd cc;
      stopped = λ told e. absurd cc;
    }

    -- a record that was kept, and that the node found no memory for
    pub kept_lost : KeepsByCall disk old new (node_over p log false) (node_over p after true) (Some deed) WantedMemory
    kept_lost = record {
      limit = ap (λ (j : JournalState). j.limit) is;
      stands = λ told still. or_true after.is_down still;
      any_moment = moment moments;
      left = left_more;
      passed = λ told e. absurd cc;
      not_passed = λ told e. absurd cc;
      stopped = λ told e. absurd cc;
    }

  -- after an append that changed nothing
  module _ (fault : AppendFault) (held : HoldsContentAfter {T = Unit {0}} disk old new log after bytes (Err fault)) (moments : LeavesOldOrNewLog disk old new log bytes)
      (is : after ≡ log) (end : CallEnd) where
    unkept : (IsErrOf {T = Unit {0}} (Err fault) a.Disk → ⊥) → (end ≡ Answered → ⊥) → (end ≡ DiskFailed → ⊥)
        → (disk.is_told → (image : Image) → MayLeave (disk.state new) image → HasRecordsByEnd end false log.limit p.state.records (Some deed) image)
        → KeepsByCall disk old new (node_over p log false) (node_over p after false) (Some deed) end
    unkept other answered failed left = record {
      limit = ap (λ (j : JournalState). j.limit) is;
      stands = λ told still. held told other (records_content p.state.records) (holds told);
      any_moment = moment moments;
      left = left;
      passed = λ told e. absurd (answered e);
      not_passed = λ told e. absurd (failed e);
      stopped = λ told e. absurd (failed e);
    }

  failed_log : after ≡ after_append {T = Unit {0}} log (length bytes) (Err a.Disk) → after.is_down ≡ true
  failed_log is = ap (λ (j : JournalState). j.is_down) is

  still_up : (b : Bool) → b ≡ true → (b || false) ≡ false → ⊥
  still_up true e f = absurd cc
  still_up false e f = absurd cc

  -- a record that was not kept
  pub kept_err : StopsGoByTheGate → (fault : AppendFault) → HoldsContentAfter {T = Unit {0}} disk old new log after bytes (Err fault) → LeavesOldOrNewLog disk old new log bytes
      → LeavesLogByAnswer {T = Unit {0}} disk old new log bytes (Err fault) → BurnsByLogAppend {T = Unit {0}} disk old new log bytes (Err fault)
      → after ≡ after_append {T = Unit {0}} log (length bytes) (Err fault) → DownExactly {T = Unit {0}} log old new (Err fault)
      → KeepsByCall disk old new (node_over p log false) (node_over p after false) (Some deed) (append_end {T = Unit {0}} (Err fault))
  kept_err law a.NoMemory held moments left burns is down =
      unkept a.NoMemory held moments is WantedMemory (λ e. absurd cc) (λ e. absurd cc) (λ e. absurd cc)
      (λ told image may. left told up (records_content p.state.records) (holds told) image may)
  kept_err law a.Down held moments left burns is down = absurd (let wrong : true ≡ false = sym (down.down refl).0 ∙ up in cc)
  kept_err law (a.Full n limit) held moments left burns is down =
      unkept (a.Full n limit) held moments is WasFull (λ e. absurd cc) (λ e. absurd cc) (λ e. absurd cc)
      (λ told image may. left told up (records_content p.state.records) (holds told) image may)
  kept_err law a.Disk held moments left burns is down = record {
    limit = ap (λ (j : JournalState). j.limit) is;
    stands = λ told still. absurd (still_up after.is_down (failed_log is) still);
    any_moment = moment moments;
    left = λ told image may.
        subst (λ (c : LogContent). IsLog log.limit (records_content p.state.records) image ⊎ IsLog log.limit c image) (more p.state.records deed)
        (left told up (records_content p.state.records) (holds told) image may);
    passed = λ told e. absurd cc;
    not_passed = λ told e passes. (burns told).not_passed refl passes;
    stopped = λ told e calls pick cut image armed may picked.
        subst (λ (c : LogContent). IsLog log.limit c image) (stop_is p.state.records deed calls pick)
        (law log (records_content p.state.records) bytes calls (disk.fuse new) (disk.state old) (disk.state new) (Err a.Disk)
        (subst (λ (f : Fuse). LogBurns {T = Unit {0}} log bytes f (disk.fuse new) (disk.state old) (disk.state new) (Err a.Disk)) armed (burns told))
        (holds told) refl pick cut image may picked);
  }

  -- the same, as a message's call tells it
  pub kept_taken : StopsGoByTheGate → (fault : AppendFault) → HoldsContentAfter {T = Unit {0}} disk old new log after bytes (Err fault) → LeavesOldOrNewLog disk old new log bytes
      → LeavesLogByAnswer {T = Unit {0}} disk old new log bytes (Err fault) → BurnsByLogAppend {T = Unit {0}} disk old new log bytes (Err fault)
      → after ≡ after_append {T = Unit {0}} log (length bytes) (Err fault) → DownExactly {T = Unit {0}} log old new (Err fault)
      → KeepsByCall disk old new (node_over p log false) (node_over p after false) (Some deed) (take_end {T = Option Message} (Err (kept_fault fault)))
  kept_taken law fault held moments left burns is down =
      subst (λ (end : CallEnd). KeepsByCall disk old new (node_over p log false) (node_over p after false) (Some deed) end) (take_ends fault)
      (kept_err law fault held moments left burns is down)

  -- the same, as a publication tells it
  pub kept_published : StopsGoByTheGate → (fault : AppendFault) → HoldsContentAfter {T = Unit {0}} disk old new log after bytes (Err fault) → LeavesOldOrNewLog disk old new log bytes
      → LeavesLogByAnswer {T = Unit {0}} disk old new log bytes (Err fault) → BurnsByLogAppend {T = Unit {0}} disk old new log bytes (Err fault)
      → after ≡ after_append {T = Unit {0}} log (length bytes) (Err fault) → DownExactly {T = Unit {0}} log old new (Err fault)
      → KeepsByCall disk old new (node_over p log false) (node_over p after false) (Some deed) (publish_end {T = ℕ} (Err (unpublished fault)))
  kept_published law fault held moments left burns is down =
      subst (λ (end : CallEnd). KeepsByCall disk old new (node_over p log false) (node_over p after false) (Some deed) end) (publish_ends fault)
      (kept_err law fault held moments left burns is down)

  -- why it was not kept
  pub fault_kept : (lost : Bool) (fault : AppendFault) → TellsRoom {T = Unit {0}} log (length bytes) (Err fault) → DownExactly {T = Unit {0}} log old new (Err fault)
      → IsKeptFault (node_over p log lost) deed (kept_fault fault)
  fault_kept lost a.NoMemory room down = tt
  fault_kept lost a.Down room down = let wrong : true ≡ false = sym (down.down refl).0 ∙ up in absurd cc
  fault_kept lost (a.Full n limit) room down = room.full n limit refl
  fault_kept lost a.Disk room down = tt

passes_none : (fuse : Fuse) → Passes 0 fuse × (fuse ≡ fuse_after 0 fuse)
passes_none Whole = (tt, refl)
passes_none (Armed left) = (omega arith, ap Armed (let same : left ≡ left - 0 = omega arith in same))
passes_none Out = (refl, refl)

-- a call that left log and disk as they were
module _ {D : Type 0} (disk : Ghosts D) (old : D) (p : PlacedNode) (log : JournalState) (law : LogsAtRestAreLeft)
    (holds : disk.is_told → HoldsContent log (records_content p.state.records) (disk.state old)) where
  rests : disk.is_told → (image : Image) → MayLeave (disk.state old) image → HasRecords log.limit p.state.records image
  rests told image may = law log (records_content p.state.records) (disk.state old) (holds told) image may

  -- an end of a call that neither answered nor met a disk that failed
  pub quiet_err : (deed : Option Deed) (end : CallEnd) → (end ≡ Answered → ⊥) → (end ≡ DiskFailed → ⊥)
      → ((image : Image) → HasRecords log.limit p.state.records image → HasRecordsByEnd end false log.limit p.state.records deed image)
      → KeepsByCall disk old old (node_over p log false) (node_over p log false) deed end
  quiet_err deed end answered failed by_end = record {
    limit = refl;
    stands = λ told still. holds told;
    any_moment = λ told. started disk.past disk.state old (HasRecordsOrMore log.limit p.state.records deed) (λ image may. inl (rests told image may));
    left = λ told image may. by_end image (rests told image may);
    passed = λ told e. absurd (answered e);
    not_passed = λ told e. absurd (failed e);
    stopped = λ told e. absurd (failed e);
  }

  -- an answer without a record
  pub quiet_ok : (q : PlacedNode) → q.state.records ≡ p.state.records → KeepsByCall disk old old (node_over p log false) (node_over q log false) None Answered
  quiet_ok q same = record {
    limit = refl;
    stands = λ told still. subst (λ (rs : List Deed). HoldsContent log (records_content rs) (disk.state old)) (sym same) (holds told);
    any_moment = λ told. started disk.past disk.state old (HasRecordsOrMore log.limit p.state.records None) (λ image may. inl (rests told image may));
    left = λ told image may. rests told image may;
    passed = λ told e. (passes_none (disk.fuse old));
    not_passed = λ told e. absurd cc;
    stopped = λ told e. absurd cc;
  }

  -- an order of which the node in memory makes no job
  pub quiet_order : (deed : Option Deed) (fault : OrderFault.PublishFault)
      → KeepsByCall disk old old (node_over p log false) (node_over p log false) deed (publish_end {T = ℕ} (Err (unmade fault)))
  quiet_order deed (refused.Refused cause) = quiet_err deed WasRefused (λ e. absurd cc) (λ e. absurd cc) (λ image h. h)
  quiet_order deed (refused.TooBig leaf) = quiet_err deed WasRefused (λ e. absurd cc) (λ e. absurd cc) (λ image h. h)
  quiet_order deed refused.NoMemory = quiet_err deed WantedMemory (λ e. absurd cc) (λ e. absurd cc) (λ image h. h)

  -- what the node in memory refused
  pub quiet_fault : (deed : Option Deed) (fault : NodeFault.TakeFault)
      → KeepsByCall disk old old (node_over p log false) (node_over p log false) deed (take_end {T = Option Message} (Err (node_fault fault)))
  quiet_fault deed (core.Stray cause) = quiet_err deed WasRefused (λ e. absurd cc) (λ e. absurd cc) (λ image h. h)
  quiet_fault deed (core.TooBig leaf) = quiet_err deed WasRefused (λ e. absurd cc) (λ e. absurd cc) (λ image h. h)
  quiet_fault deed core.NoMemory = quiet_err deed WantedMemory (λ e. absurd cc) (λ e. absurd cc) (λ image h. h)

-- a job that was made and recorded is published
pub published : (moment : ℕ) (o : Order) (job : Job) (p q : PlacedNode) (r : Result ℕ PublishFault) → IsJobOfOrder p.fleet moment o (jobs p.state.records) job
    → OnOk r (q ≡ placed_after (Publish job) p) → IfOk r (λ jid. jid ≡ job.jid) → IfOk r (PublishesOrder moment o p q)
published moment o job p q (Ok jid) is recorded named = record { job = job; is = is; jid_is = sym named; recorded = ap (λ (n : PlacedNode). n.state) recorded }
published moment o job p q (Err fault) is recorded named = tt
