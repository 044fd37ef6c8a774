-- What a load answers, and what it leaves.
use Rattle.std.proofs.Common.{◌≡◌, ℕ, ◌+◌, ◌-◌, ◌<◌, ◌≤◌, ◌∙◌, sym, ap, refl, subst, inl, inr, arith, Bool, true, false, List, [], length, nat_le, Option, None, Some, Result, Ok, Err}
use Rattle.std.specs.Prelude.{◌||◌, ◌⊎◌, map, IfOk, IfErr, IsErrOf, if◌then◌else◌}
use Rattle.std.proofs.lemmas.Bool.{le-leb, leb-true}
use Rattle.salt_outside.specs.Causes.{CountsFaults, Rose}
use Rattle.salt_disk.specs.declared.disk.Disk.{Ghosts}
use Rattle.salt_disk.specs.declared.disk.Part.{Part}
use Rattle.salt_disk.specs.declared.disk.Part.TheVariants.{Root, Even}
use Rattle.salt_disk.specs.declared.disk.Fuse.{Fuse}
use Rattle.salt_disk.specs.declared.disk.Fuse.TheVariants.{Whole, Armed, Out}
use Rattle.salt_disk.specs.Disk.{DiskState, PartState, part_of}
use Rattle.salt_disk.specs.Crash.{Image, IsPartImage, MayLeave, LeavesOnly}
use Rattle.salt_disk.specs.Fuse.{Passes, fuse_after}
use Rattle.salt_disk.specs.Memory.{IsPicked}
use Rattle.salt_disk.proofs.Moments.{weakens, joins}
use Rattle.salt_disk.proofs.Torn.{settled_image}
use Rattle.gate_journal.specs.declared.fault.LoadFault as LogFault
use Rattle.gate_journal.specs.declared.fault.LoadFault.TheVariants as log
use Rattle.gate_journal.specs.declared.fault.AppendFault.{AppendFault}
use Rattle.gate_journal.specs.declared.fault.AppendFault.TheVariants as a
use Rattle.gate_journal.specs.Journal.{JournalState, IsJournal}
use Rattle.gate_journal.specs.Layout.{first_gate, record_overhead}
use Rattle.gate_journal.specs.Payloads.{PlacedPayloads, gate_place}
use Rattle.checkpoint_log.specs.declared.content.LoadedContent.{LoadedContent}
use Rattle.checkpoint_log.specs.Content.{LogContent, IsLog, HoldsContent, bytes_in, content_length}
use Rattle.checkpoint_log.specs.Loading.{AreSettled, KeepsAllBytes, TellsLogFault, SettlesAll, BurnsByLoad, content_of}
use Rattle.checkpoint_log.specs.Laws.{LogsAreOne}
use Rattle.checkpoint_log.proofs.Faults.{no_fault, one_fault}
use Rattle.gate_journal.specs.Calls.{LeavesAsBefore}
use Rattle.fleet_config.specs.Fleet.{FleetConfig}
use Rattle.fleet_config.specs.Tree.{Tree, is_minion}
use Rattle.salt_wire.specs.declared.deed.Deed.{Deed}
use Rattle.salt_wire.specs.declared.deed.Deed.TheVariants.{Boot}
use Rattle.journal_records.specs.Spelling.{record_bytes}
use Rattle.journal_records.specs.RoundTrip.{HasOneRecord}
use Rattle.node_core.specs.Node.{PlacedNode}
use Rattle.node_core.specs.NextRecords.{with_if_any}
use Rattle.journalled_node.specs.declared.fault.LoadFault.{LoadFault}
use Rattle.journalled_node.specs.declared.fault.LoadFault.TheVariants as n
use Rattle.journalled_node.specs.State.{JournalledState, records_content, HasRecords, HasRecordsOrMore}
use Rattle.journalled_node.specs.Calls.{CallEnd, KeepsByCall, IsFullBy, HadRoom, append_end, changing_calls, node_over, record_by_stop}
use Rattle.journalled_node.specs.Calls.CallEnd.{Answered, DiskFailed}
use Rattle.journalled_node.specs.Loading.{start_at, loaded_node, IsLoadedAt, HasRecordsAt, IsFirstWrong, HasWrongRecord, LacksRoomToStart, HasLoadFault, IsLoadFault, IsLoadedFrom, HasRoomToStart, tells_of_bytes, IsTaken, IsDenied, AnswersEachNode, HasRecordsFrom, start_by_stop, IsDamage, KeepsByLoad}
use Rattle.journalled_node.specs.Starts.{unread, unstarted, IsStartFault, placed_after_any, IsNodeOf, FitAJournal, IsPayloadFault, IsReadAt, ReadsNode}
use Rattle.journalled_node.proofs.Payloads.{one_list, none_wrong, one_wrong, is_wrong, loaded_more}

-- ---- the bytes have one meaning

module _ (law : HasOneRecord) (one_log : LogsAreOne) (t : Tree) (me : ℕ) (image : Image) where
  -- a log of one limit and one list of records
  pub same_records : (m k : ℕ) (rs qs : List Deed) → HasRecordsAt t me m rs image → HasRecordsAt t me k qs image → (m ≡ k) × (rs ≡ qs)
  same_records m k rs qs one other =
      let same = one_log m k (records_content rs) (records_content qs) image one.log other.log in
      (same.0, one_list law rs qs one.right.fit other.right.fit (ap (λ (c : LogContent). c.rest) same.1))

  no_wrong : (m : ℕ) (rs : List Deed) (at : ℕ) → HasRecordsAt t me m rs image → HasWrongRecord t me image at → ⊥
  no_wrong m rs at has wrong =
      let same = one_log m wrong.limit (records_content rs) wrong.content image has.log wrong.log in
      let spelled : wrong.content.rest ≡ map record_bytes rs = sym (ap (λ (c : LogContent). c.rest) same.1) in
      none_wrong law t me wrong.content.rest rs wrong.number (record { spelled = spelled; right = has.right }) wrong.first

  -- a log that a node's records are in has no damage
  no_damage : (m : ℕ) (rs : List Deed) (part : Part) (at : ℕ) → HasRecordsAt t me m rs image → HasLoadFault t me (n.Damaged part at) image → ⊥
  no_damage m rs part at has (inl damaged) = no_fault m (records_content rs) image has.log (log.Damaged part at) damaged
  no_damage m rs part at has (inr wrong) = no_wrong m rs at has wrong.1

  no_journal : (m : ℕ) (rs : List Deed) → HasRecordsAt t me m rs image → HasLoadFault t me n.NotAJournal image → ⊥
  no_journal m rs has none = no_fault m (records_content rs) image has.log log.NotAJournal none

  no_room : (m : ℕ) (rs : List Deed) (length limit : ℕ) → HasRecordsAt t me m rs image → HasRoomToStart t me m rs → LacksRoomToStart t me image length limit → ⊥
  no_room m rs length limit has room lacks =
      let same = same_records m limit rs lacks.records has lacks.log in
      let fits = room lacks.minion in
      let long = lacks.long in
      let over = lacks.over in
      let lengths : content_length (records_content rs) ≡ content_length (records_content lacks.records) = ap (λ (l : List Deed). content_length (records_content l)) same.1 in
      let limits = same.0 in
      omega (arith, fits, long, over, lengths, limits)

  both_wrong : (part other : Part) (at place : ℕ) → part ≡ Even → other ≡ Even → HasWrongRecord t me image at → HasWrongRecord t me image place → n.Damaged part at ≡ n.Damaged other place
  both_wrong part other at place is also one two =
      let same = one_log one.limit two.limit one.content two.content image one.log two.log in
      let numbers : one.number ≡ two.number =
      one_wrong law t me one.content.rest one.number two.number one.first (subst (λ (c : LogContent). IsFirstWrong t me c.rest two.number) (sym same.1) two.first) in
      let places : at ≡ place =
      one.place ∙ ap (λ (k : ℕ). gate_place (record { first = first_gate; items = one.content.rest }) k) numbers
      ∙ ap (λ (c : LogContent). gate_place (record { first = first_gate; items = c.rest }) two.number) same.1 ∙ sym two.place in
      cc

  both_full : (length long limit most : ℕ) → LacksRoomToStart t me image length limit → LacksRoomToStart t me image long most → n.Full length limit ≡ n.Full long most
  both_full length long limit most one two =
      let same = same_records limit most one.records two.records one.log two.log in
      let limits = same.0 in
      let lengths : length ≡ long =
      one.long ∙ ap (λ (l : List Deed). content_length (records_content l) + record_overhead + 1) same.1 ∙ sym two.long in
      cc

  -- bytes have one fault
  one_load_fault : (x y : LoadFault) → HasLoadFault t me x image → HasLoadFault t me y image → x ≡ y
  one_load_fault n.NoMemory y has other = absurd has
  one_load_fault n.Disk y has other = absurd has
  one_load_fault x n.NoMemory has other = absurd other
  one_load_fault x n.Disk has other = absurd other
  one_load_fault n.NotAJournal n.NotAJournal has other = refl
  one_load_fault n.NotAJournal (n.Damaged part at) has (inl other) = ap unread (one_fault image log.NotAJournal (log.Damaged part at) has other)
  one_load_fault n.NotAJournal (n.Damaged part at) has (inr wrong) = absurd (no_fault wrong.1.limit wrong.1.content image wrong.1.log log.NotAJournal has)
  one_load_fault n.NotAJournal (n.Full length limit) has other = absurd (no_journal limit other.records other.log has)
  one_load_fault (n.Damaged part at) n.NotAJournal (inl has) other = ap unread (one_fault image (log.Damaged part at) log.NotAJournal has other)
  one_load_fault (n.Damaged part at) n.NotAJournal (inr wrong) other = absurd (no_fault wrong.1.limit wrong.1.content image wrong.1.log log.NotAJournal other)
  one_load_fault (n.Damaged part at) (n.Damaged other place) (inl has) (inl more) = ap unread (one_fault image (log.Damaged part at) (log.Damaged other place) has more)
  one_load_fault (n.Damaged part at) (n.Damaged other place) (inl has) (inr wrong) = absurd (no_fault wrong.1.limit wrong.1.content image wrong.1.log (log.Damaged part at) has)
  one_load_fault (n.Damaged part at) (n.Damaged other place) (inr wrong) (inl has) = absurd (no_fault wrong.1.limit wrong.1.content image wrong.1.log (log.Damaged other place) has)
  one_load_fault (n.Damaged part at) (n.Damaged other place) (inr one) (inr two) = both_wrong part other at place one.0 two.0 one.1 two.1
  one_load_fault (n.Damaged part at) (n.Full length limit) has other = absurd (no_damage limit other.records part at other.log has)
  one_load_fault (n.Full length limit) n.NotAJournal has other = absurd (no_journal limit has.records has.log other)
  one_load_fault (n.Full length limit) (n.Damaged part at) has other = absurd (no_damage limit has.records part at has.log other)
  one_load_fault (n.Full length limit) (n.Full long most) has other = both_full length long limit most has other

  no_load_fault : (m : ℕ) (rs : List Deed) → HasRecordsAt t me m rs image → HasRoomToStart t me m rs → (fault : LoadFault) → HasLoadFault t me fault image → ⊥
  no_load_fault m rs has room n.NoMemory fault = fault
  no_load_fault m rs has room n.Disk fault = fault
  no_load_fault m rs has room n.NotAJournal fault = no_journal m rs has fault
  no_load_fault m rs has room (n.Damaged part at) fault = no_damage m rs part at has fault
  no_load_fault m rs has room (n.Full length limit) fault = no_room m rs length limit has room fault

module _ (law : HasOneRecord) (one_log : LogsAreOne) (f : FleetConfig) (me : ℕ) (image : Image) where
  accepts : (r : Result JournalledState LoadFault) → IfErr r (IsLoadFault f.tree me image)
      → (limit : ℕ) (records : List Deed) → HasRecordsAt f.tree me limit records image → HasRoomToStart f.tree me limit records → IsTaken r
  accepts (Ok x) told limit rs has room = tt
  accepts (Err fault) told limit rs has room = silent (tells_of_bytes fault) refl
    where
      silent : (tells : Bool) → tells_of_bytes fault ≡ tells → tells_of_bytes fault ≡ false
      silent true e = absurd (no_load_fault law one_log f.tree me image limit rs has room fault (told e))
      silent false e = e

  same : (r : Result JournalledState LoadFault) → IfOk r (IsLoadedFrom f me image) → (limit : ℕ) (records : List Deed) → HasRecordsAt f.tree me limit records image
      → IfOk r (λ x. (x.log.limit ≡ limit) × (x.node.state.records ≡ with_if_any (start_at f.tree me) records))
  same (Ok x) from limit rs has =
      let one = same_records law one_log f.tree me image x.log.limit limit from.records rs from.log has in
      (one.0, ap (λ (p : PlacedNode). p.state.records) from.node ∙ ap (with_if_any (start_at f.tree me)) one.1)
  same (Err fault) from limit rs has = tt

  refuses : (r : Result JournalledState LoadFault) → IfOk r (IsLoadedFrom f me image) → IfErr r (IsLoadFault f.tree me image)
      → (fault : LoadFault) → HasLoadFault f.tree me fault image → IsDenied fault r
  refuses (Ok x) from told fault has = no_load_fault law one_log f.tree me image x.log.limit from.records from.log from.room fault has
  refuses (Err other) from told fault has = λ tells. one_load_fault law one_log f.tree me image fault other has (told tells)

  -- what is loaded, and each fault that is told, answers each log of a node and each fault
  pub answers_each : (r : Result JournalledState LoadFault) → IfOk r (IsLoadedFrom f me image) → IfErr r (IsLoadFault f.tree me image) → AnswersEachNode f me image r
  answers_each r from told = record { accepts = accepts r told; same = same r from; refuses = refuses r from told }

-- ---- how many calls pass

-- some calls pass, and then others
pub passes_sum : (calls more : ℕ) (old mid new : Fuse) → Passes calls old → mid ≡ fuse_after calls old → Passes more mid → new ≡ fuse_after more mid
    → Passes (calls + more) old × (new ≡ fuse_after (calls + more) old)
passes_sum calls more Whole mid new first is second now = (tt, now ∙ ap (fuse_after more) is)
passes_sum calls more (Armed left) mid new first is second now =
    let rest : more ≤ left - calls = subst (Passes more) is second in
    (omega (arith, first, rest), now ∙ ap (fuse_after more) is ∙ ap Armed (let e : left - calls - more ≡ left - (calls + more) = omega arith in e))
passes_sum calls more Out mid new first is second now =
    let rest : more ≡ 0 = subst (Passes more) is second in
    (omega (arith, first, rest), now ∙ ap (fuse_after more) is)

-- where all pass, the first pass, and then the others
pub passes_split : (calls more : ℕ) (fuse : Fuse) → Passes (calls + more) fuse → Passes calls fuse × Passes more (fuse_after calls fuse)
passes_split calls more Whole passes = (tt, tt)
passes_split calls more (Armed left) passes = (omega (arith, passes), omega (arith, passes))
passes_split calls more Out passes = (omega (arith, passes), omega (arith, passes))

-- ---- a disk at rest

file_at_rest : (disk : DiskState) (image : Image) → AreSettled disk → MayLeave disk image → (part : Part) → image part ≡ bytes_in disk part
file_at_rest disk image rests may part =
    settled_image (part_of disk part).bytes (image part) (subst (λ (p : PartState). IsPartImage p (image part)) (rests part) (may part))

-- a crash leaves the log that a disk at rest has
pub log_at_rest : (limit : ℕ) (content : LogContent) (disk : DiskState) (image : Image) → IsLog limit content (bytes_in disk) → AreSettled disk → MayLeave disk image
    → IsLog limit content image
log_at_rest limit content disk image is rests may = record {
  root_limit = is.root_limit;
  root = subst (IsJournal is.root_limit []) (sym (file_at_rest disk image rests may Root)) is.root;
  first = is.first;
  rest = subst (IsJournal limit content.rest) (sym (file_at_rest disk image rests may Even)) is.rest;
}

-- ---- a log that was loaded, and the records of its payloads

-- the answer that a log was not loaded for this fault, as that of the node
as_unread : {T U : Type 0} (fault other : LogFault.LoadFault) → ◌≡◌ {A = Result T LogFault.LoadFault} (Err fault) (Err other)
    → ◌≡◌ {A = Result U LoadFault} (Err (unread fault)) (Err (unread other))
as_unread fault other e = let same : fault ≡ other = cc in ap (λ (x : LogFault.LoadFault). Err (unread x)) same

is_disk : (fault : LogFault.LoadFault) → unread fault ≡ n.Disk → fault ≡ log.Disk
is_disk log.NoMemory e = absurd cc
is_disk log.Disk e = refl
is_disk log.NotAJournal e = absurd cc
is_disk (log.Damaged part at) e = absurd cc

failed_log : {T U : Type 0} (fault : LogFault.LoadFault) → ◌≡◌ {A = Result U LoadFault} (Err (unread fault)) (Err n.Disk)
    → ◌≡◌ {A = Result T LogFault.LoadFault} (Err fault) (Err log.Disk)
failed_log fault e = let same : unread fault ≡ n.Disk = cc in ap Err (is_disk fault same)

module _ {D : Type 0} (disk : Ghosts D) (old new : D) where
  -- the log that stands on the disk is that of its bytes
  log_there : (j : JournalState) (content : LogContent) → HoldsContent j content (disk.state new) → KeepsAllBytes disk old new → IsLog j.limit content (bytes_in (disk.state old))
  log_there j content holds bytes = record {
    root_limit = holds.root_limit;
    root = subst (IsJournal holds.root_limit []) (bytes Root) holds.root.holds;
    first = holds.first;
    rest = subst (IsJournal j.limit content.rest) (bytes Even) (subst (λ (part : Part). IsJournal j.limit content.rest (bytes_in (disk.state new) part)) holds.is_even holds.rest.holds);
  }

  module _ (f : FleetConfig) (me : ℕ) where
    no_disk_fault : (payloads : PlacedPayloads) (r : Result (PlacedNode × JournalState) LoadFault) → IfErr r (IsPayloadFault f me payloads) → IsErrOf r n.Disk → ⊥
    no_disk_fault payloads (Ok x) told e = absurd cc
    no_disk_fault payloads (Err n.Disk) told e = told
    no_disk_fault payloads (Err n.NoMemory) told e = absurd cc
    no_disk_fault payloads (Err n.NotAJournal) told e = told
    no_disk_fault payloads (Err (n.Damaged part at)) told e = absurd cc
    no_disk_fault payloads (Err (n.Full length limit)) told e = told

    module _ (j : JournalState) (content : LoadedContent) (holds : HoldsContent j (content_of content) (disk.state new)) (begins : content.rest.first ≡ first_gate)
        (bytes : KeepsAllBytes disk old new) where
      content_is : (x : PlacedNode × JournalState) → IsNodeOf f me content.rest.items x.0 → content_of content ≡ records_content x.0.state.records
      content_is x is =
          let base : content.base ≡ None = holds.first in
          let rest : content.rest.items ≡ map record_bytes x.0.state.records = is.bytes.spelled in
          λ i. record { base = base i; rest = rest i }

      records_read : (r : Result (PlacedNode × JournalState) LoadFault) → IfOk r (λ x. IsNodeOf f me content.rest.items x.0 × (x.1 ≡ j))
          → IfOk r (λ x. HasRecordsAt f.tree me x.1.limit x.0.state.records (bytes_in (disk.state old)))
      records_read (Ok x) (is, same) = record {
        log = subst (λ (k : JournalState). IsLog k.limit (records_content x.0.state.records) (bytes_in (disk.state old))) (sym same)
            (subst (λ (c : LogContent). IsLog j.limit c (bytes_in (disk.state old))) (content_is x is) (log_there j (content_of content) holds bytes));
        right = is.bytes.right;
      }
      records_read (Err fault) is = tt

      stands_read : (r : Result (PlacedNode × JournalState) LoadFault) → IfOk r (λ x. IsNodeOf f me content.rest.items x.0 × (x.1 ≡ j))
          → IfOk r (λ x. HoldsContent x.1 (records_content x.0.state.records) (disk.state new))
      stands_read (Ok x) (is, same) =
          subst (λ (k : JournalState). HoldsContent k (records_content x.0.state.records) (disk.state new)) (sym same)
          (subst (λ (c : LogContent). HoldsContent j c (disk.state new)) (content_is x is) holds)
      stands_read (Err fault) is = tt

      fault_read : (r : Result (PlacedNode × JournalState) LoadFault) → IfErr r (IsPayloadFault f me content.rest)
          → IfErr r (IsLoadFault f.tree me (bytes_in (disk.state old)))
      fault_read (Ok x) told = tt
      fault_read (Err n.NoMemory) told = λ tells. absurd cc
      fault_read (Err n.NotAJournal) told = absurd told
      fault_read (Err (n.Full length limit)) told = absurd told
      fault_read (Err n.Disk) told = absurd told
      fault_read (Err (n.Damaged part at)) told = λ tells.
          inr (
            told.0,
            record {
              limit = j.limit;
              content = content_of content;
              log = log_there j (content_of content) holds bytes;
              number = told.1.number;
              first = is_wrong f me content.rest.items told.1.number told.1.stops;
              place = told.1.place ∙ ap (λ (first : ℕ). gate_place (record { first = first; items = content.rest.items }) told.1.number) begins;
            },
          )

      -- the node of a log that was loaded
      pub read_there : LeavesAsBefore disk old new → AreSettled (disk.state new) → Passes 3 (disk.fuse old) × (disk.fuse new ≡ fuse_after 3 (disk.fuse old))
          → (r : Result (PlacedNode × JournalState) LoadFault) → IfOk r (λ x. IsNodeOf f me content.rest.items x.0 × (x.1 ≡ j)) → IfErr r (IsPayloadFault f me content.rest)
          → ReadsNode disk old new f me r
      read_there moment rests passed r is told = record {
        any_moment = moment;
        bytes = bytes;
        settled = λ failed lacked. rests;
        passed = λ failed lacked. passed;
        not_passed = λ e passes. no_disk_fault content.rest r told e;
        records = records_read r is;
        stands = stands_read r is;
        fault = fault_read r told;
      }

    unread_fault : (fault : LogFault.LoadFault) → TellsLogFault {T = JournalState × LoadedContent} (bytes_in (disk.state old)) (Err fault)
        → IsLoadFault f.tree me (bytes_in (disk.state old)) (unread fault)
    unread_fault log.NoMemory told = λ tells. absurd cc
    unread_fault log.Disk told = λ tells. absurd cc
    unread_fault log.NotAJournal told = λ tells. told log.NotAJournal refl
    unread_fault (log.Damaged part at) told = λ tells. inl (told (log.Damaged part at) refl)

    -- a log that was not loaded
    pub read_not : (fault : LogFault.LoadFault) → LeavesAsBefore disk old new → KeepsAllBytes disk old new → SettlesAll {T = JournalState × LoadedContent} (disk.state new) (Err fault)
        → BurnsByLoad {T = JournalState × LoadedContent} (disk.fuse old) (disk.fuse new) (Err fault) → TellsLogFault {T = JournalState × LoadedContent} (bytes_in (disk.state old)) (Err fault)
        → ReadsNode disk old new f me (Err (unread fault))
    read_not fault moment bytes rests burns told = record {
      any_moment = moment;
      bytes = bytes;
      settled = λ failed lacked. rests (λ e. failed (as_unread fault log.Disk e)) (λ e. lacked (as_unread fault log.NoMemory e));
      passed = λ failed lacked. burns.passed (λ e. failed (as_unread fault log.Disk e)) (λ e. lacked (as_unread fault log.NoMemory e));
      not_passed = λ e passes. burns.not_passed (failed_log fault e) passes;
      records = tt;
      stands = tt;
      fault = unread_fault fault told;
    }

-- the node of a log that was loaded, with its log
pub read_at : (f : FleetConfig) (me : ℕ) (j : JournalState) (payloads : List (List ℕ)) → FitAJournal payloads → j.is_down ≡ false
    → (r : Result (PlacedNode × JournalState) LoadFault) → IfOk r (λ x. IsNodeOf f me payloads x.0 × (x.1 ≡ j)) → IfOk r (IsReadAt f me)
read_at f me j payloads small up (Ok x) (is, same) =
    record { node = is.is; small = subst FitAJournal is.bytes.spelled small; up = ap (λ (k : JournalState). k.is_down) same ∙ up }
read_at f me j payloads small up (Err fault) is = tt

-- ---- a load that did not come to its start

fewer : (calls : ℕ) (b : Bool) → nat_le 3 calls ≡ b → (3 ≤ calls → ⊥) → b ≡ false
fewer calls true e never = absurd (never (leb-true 3 calls e))
fewer calls false e never = refl

module _ {D : Type 0} (disk : Ghosts D) (old new : D) (f : FleetConfig) (me : ℕ) where
  settled_damage : (fault : LoadFault) → ReadsNode disk old new f me (Err fault) → IsDamage {T = JournalledState} (Err fault) → AreSettled (disk.state new)
  settled_damage n.NotAJournal read damage = read.settled (λ e. absurd cc) (λ e. absurd cc)
  settled_damage (n.Damaged part at) read damage = read.settled (λ e. absurd cc) (λ e. absurd cc)
  settled_damage n.NoMemory read damage = absurd damage
  settled_damage n.Disk read damage = absurd damage
  settled_damage (n.Full length limit) read damage = absurd damage

  disk_fault : (fault : LoadFault) → ◌≡◌ {A = Result JournalledState LoadFault} (Err fault) (Err n.Disk) → ◌≡◌ {A = Result (PlacedNode × JournalState) LoadFault} (Err fault) (Err n.Disk)
  disk_fault fault e = let same : fault ≡ n.Disk = cc in cc

  -- the log of these bytes is that of those from before
  log_kept : (limit : ℕ) (content : LogContent) → KeepsAllBytes disk old new → IsLog limit content (bytes_in (disk.state old)) → IsLog limit content (bytes_in (disk.state new))
  log_kept limit content bytes is = record {
    root_limit = is.root_limit;
    root = subst (IsJournal is.root_limit []) (sym (bytes Root)) is.root;
    first = is.first;
    rest = subst (IsJournal limit content.rest) (sym (bytes Even)) is.rest;
  }

  full_there : (fault : LoadFault) → ReadsNode disk old new f me (Err fault) → (length limit : ℕ) → ◌≡◌ {A = Result JournalledState LoadFault} (Err fault) (Err (n.Full length limit))
      → (image : Image) → MayLeave (disk.state new) image → (records : List Deed) × HasRecordsAt f.tree me limit records (bytes_in (disk.state old)) × HasRecords limit records image
  full_there fault read length limit e image may =
      let same : fault ≡ n.Full length limit = cc in
      let lacks : LacksRoomToStart f.tree me (bytes_in (disk.state old)) length limit = subst (IsLoadFault f.tree me (bytes_in (disk.state old))) same read.fault refl in
      let content : LogContent = records_content lacks.records in (
        lacks.records,
        lacks.log,
        log_at_rest limit content (disk.state new) image (log_kept limit content read.bytes lacks.log.log) (read.settled (λ failed. absurd cc) (λ lacked. absurd cc)) may,
      )

  early_stop : (fault : LoadFault) → ReadsNode disk old new f me (Err fault) → ◌≡◌ {A = Result JournalledState LoadFault} (Err fault) (Err n.Disk) → AreSettled (disk.state old)
      → (limit : ℕ) (records : List Deed) → HasRecordsAt f.tree me limit records (bytes_in (disk.state old)) → (calls pick : ℕ) (image : Image) → disk.fuse old ≡ Armed calls
      → MayLeave (disk.state new) image → HasRecords limit (with_if_any (start_by_stop f.tree me calls pick) records) image
  early_stop fault read e rests limit records has calls pick image armed may =
      let few : nat_le 3 calls ≡ false =
      fewer calls (nat_le 3 calls) refl (λ more. read.not_passed (disk_fault fault e) (subst (Passes 3) (sym armed) more)) in
      subst (λ (late : Bool). HasRecords limit (with_if_any (if late then record_by_stop (calls - 3) pick (start_at f.tree me) else None) records) image) (sym few)
      (log_at_rest limit (records_content records) (disk.state old) image has.log rests (read.any_moment.each image (inl may)))

  -- what is left where no node was read
  pub kept_unread : (fault : LoadFault) → ReadsNode disk old new f me (Err fault) → KeepsByLoad disk old new f.tree me (Err fault)
  kept_unread fault read = record {
    any_moment = weakens disk.past disk.state old new (MayLeave (disk.state old)) _ read.any_moment (λ image may. inl may);
    stands = tt;
    left = tt;
    kept = λ damage. (read.bytes, settled_damage fault read damage);
    full = full_there fault read;
    passed = tt;
    not_passed = λ e passes. read.not_passed (disk_fault fault e) (passes_split 3 (changing_calls (start_at f.tree me)) (disk.fuse old) passes).0;
    stopped = λ e rests limit records has calls pick cut image armed may picked. early_stop fault read e rests limit records has calls pick image armed may;
  }

-- ---- a load that came to its start

-- answers that are the same fault
err_of : {T E : Type 0} (x y : E) → ◌≡◌ {A = Result T E} (Err x) (Err y) → x ≡ y
err_of x y e = cc

answers_full : (t : Tree) (me : ℕ) (n : JournalledState) (minion : Bool) (length limit : ℕ) → IsFullBy n (if minion then Some Boot else None) length limit
    → (minion ≡ true) × (length ≡ n.log.length + record_overhead + 1) × (limit ≡ n.log.limit) × (limit < length)
answers_full t me n true length limit full = (refl, full.0, full.1, full.2)
answers_full t me n false length limit full = absurd full

room_told : (n : JournalledState) (minion : Bool) → HadRoom n (if minion then Some Boot else None) → minion ≡ true → n.log.length + record_overhead + 1 ≤ n.log.limit
room_told n true room is = room
room_told n false room is = absurd cc

started_node : (f : FleetConfig) (me : ℕ) (rs : List Deed) (start : Option Deed) → placed_after_any start (loaded_node f me rs) ≡ loaded_node f me (with_if_any start rs)
started_node f me rs None = refl
started_node f me rs (Some deed) = loaded_more f me rs deed

-- the node that is loaded, where the start was added that its place has
pub started_from : (f : FleetConfig) (me : ℕ) (p q : PlacedNode) → p ≡ loaded_node f me p.state.records → q ≡ placed_after_any (start_at p.fleet.tree p.me) p
    → q ≡ loaded_node f me (with_if_any (start_at f.tree me) p.state.records)
started_from f me p q is grown =
    grown ∙ ap (λ (n : PlacedNode). placed_after_any (start_at n.fleet.tree n.me) p) is ∙ ap (placed_after_any (start_at f.tree me)) is
    ∙ started_node f me p.state.records (start_at f.tree me)

pub loaded_at : (f : FleetConfig) (me : ℕ) (p q : PlacedNode) (after : JournalState) → p ≡ loaded_node f me p.state.records
    → q ≡ placed_after_any (start_at p.fleet.tree p.me) p → after.is_down ≡ false → IsLoadedAt f me (node_over q after false)
loaded_at f me p q after is grown up =
    let whole = started_from f me p q is grown in
    record { node = whole ∙ ap (loaded_node f me) (sym (ap (λ (n : PlacedNode). n.state.records) whole)); up = ap (λ (b : Bool). b || false) up }

unfailed : {F : Type 0} (before mid now : ℕ) → (F → ⊥) → mid ≡ before → now ≡ mid → mid ≤ now → CountsFaults F before now
unfailed before mid now never first second later =
    record { rose = λ e. absurd (never e); kept = λ still. second ∙ first; later = subst (λ (k : ℕ). k ≤ now) first later }

-- the count of faults over a load whose start was not kept
pub start_counts : {S T U : Type 0} (x : S) (node : JournalledState) (deed : Option Deed) (fault : AppendFault) (before mid now : ℕ) → IsStartFault node deed fault
    → CountsFaults (IsErrOf {T = S} (Ok x) n.Disk) before mid → CountsFaults (IsErrOf {T = T} (Err fault) a.Disk) mid now
    → CountsFaults (IsErrOf {T = U} (Err (unstarted fault)) n.Disk) before now
start_counts x node deed a.Down before mid now why first second = absurd why
start_counts x node deed a.NoMemory before mid now why first second = unfailed before mid now (λ e. absurd cc) (first.kept (λ e. absurd cc)) (second.kept (λ e. absurd cc)) second.later
start_counts x node deed (a.Full length limit) before mid now why first second = unfailed before mid now (λ e. absurd cc) (first.kept (λ e. absurd cc)) (second.kept (λ e. absurd cc)) second.later
start_counts x node deed a.Disk before mid now why first second =
    let same : mid ≡ before = first.kept (λ e. absurd cc) in
    record { rose = λ e. subst (λ (k : ℕ). Rose k now) same (second.rose refl); kept = λ never. absurd (never refl); later = subst (λ (k : ℕ). k ≤ now) same second.later }

late_stop : (calls : ℕ) → 3 ≤ calls → (b : Bool) → nat_le 3 calls ≡ b → b ≡ true
late_stop calls more true e = refl
late_stop calls more false e = let wrong : true ≡ false = sym (le-leb 3 calls more) ∙ e in absurd cc

module _ {D : Type 0} (disk : Ghosts D) (old mid new : D) (f : FleetConfig) (me : ℕ) (x : PlacedNode × JournalState) (at : IsReadAt f me x)
    (read : ReadsNode disk old mid f me (Ok x)) where
  abbrev p : PlacedNode
  p = x.0

  abbrev j : JournalState
  j = x.1

  abbrev loaded : JournalledState
  loaded = node_over p j false

  -- the start of the node that was read
  abbrev own : Option Deed
  own = start_at p.fleet.tree p.me

  -- it is that at its place of the fleet
  at_place : (P : Option Deed → Type 0) → P own → P (start_at f.tree me)
  at_place P here = subst P (ap (λ (n : PlacedNode). start_at n.fleet.tree n.me) at.node) here

  three : Passes 3 (disk.fuse old) × (disk.fuse mid ≡ fuse_after 3 (disk.fuse old))
  three = read.passed (λ e. absurd cc) (λ e. absurd cc)

  length_is : j.length ≡ content_length (records_content p.state.records)
  length_is = read.stands.rest.counts

  moment : (after : JournalledState) (end : CallEnd) → disk.is_told → KeepsByCall disk mid new loaded after (start_at f.tree me) end
      → LeavesOnly disk.past disk.state old new (λ image. MayLeave (disk.state old) image ⊎ HasRecordsFrom f.tree me (bytes_in (disk.state old)) image)
  moment after end told call =
      joins disk.past disk.state old mid new (MayLeave (disk.state old)) (HasRecordsOrMore j.limit p.state.records (start_at f.tree me)) _ read.any_moment (call.any_moment told)
      (λ image may. inl may) (λ image here. inr (record { limit = j.limit; records = p.state.records; log = read.records; here = here }))

  -- what is left where the node is up
  pub kept_started : (q : PlacedNode) (after : JournalState) (lost : Bool) → disk.is_told → after.is_down ≡ false → lost ≡ false → q ≡ placed_after_any own p
      → KeepsByCall disk mid new loaded (node_over q after lost) own Answered → KeepsByLoad disk old new f.tree me (Ok (node_over q after false))
  kept_started q after lost told up found grown kept =
      let call : KeepsByCall disk mid new loaded (node_over q after false) (start_at f.tree me) Answered =
      subst (λ (b : Bool). KeepsByCall disk mid new loaded (node_over q after b) (start_at f.tree me) Answered) found
      (at_place (λ o. KeepsByCall disk mid new loaded (node_over q after lost) o Answered) kept) in
      let whole : q.state.records ≡ with_if_any (start_at f.tree me) p.state.records =
      ap (λ (n : PlacedNode). n.state.records) (started_from f me p q at.node grown) in
      record {
        any_moment = moment (node_over q after false) Answered told call;
        stands = call.stands told (ap (λ (b : Bool). b || false) up);
        left = λ image may. subst (λ (k : ℕ). HasRecords k q.state.records image) (sym call.limit)
            (subst (λ (rs : List Deed). HasRecords j.limit rs image) (sym whole) (call.left told image may));
        kept = λ damage. absurd damage;
        full = λ length limit e. absurd cc;
        passed = passes_sum 3 (changing_calls (start_at f.tree me)) (disk.fuse old) (disk.fuse mid) (disk.fuse new) three.0 three.1 (call.passed told refl).0 (call.passed told refl).1;
        not_passed = λ e. absurd cc;
        stopped = λ e. absurd cc;
      }

  -- which node is loaded
  pub loaded_from : (q : PlacedNode) (after : JournalState) → after.limit ≡ j.limit → q ≡ placed_after_any own p → HadRoom loaded own
      → IsLoadedFrom f me (bytes_in (disk.state old)) (node_over q after false)
  loaded_from q after limits grown room = record {
    records = p.state.records;
    log = subst (λ (k : ℕ). HasRecordsAt f.tree me k p.state.records (bytes_in (disk.state old))) (sym limits) read.records;
    room = λ minion. subst (λ (k : ℕ). content_length (records_content p.state.records) + record_overhead + 1 ≤ k) (sym limits)
        (subst (λ (k : ℕ). k + record_overhead + 1 ≤ j.limit) length_is (room_told loaded (is_minion f.tree me) (at_place (HadRoom loaded) room) minion));
    node = started_from f me p q at.node grown;
  }

  -- why a start was not kept, as a fault of the load
  pub start_fault : (fault : AppendFault) → IsStartFault loaded own fault → IsLoadFault f.tree me (bytes_in (disk.state old)) (unstarted fault)
  start_fault a.NoMemory told = λ tells. absurd cc
  start_fault a.Down told = absurd told
  start_fault a.Disk told = λ tells. absurd cc
  start_fault (a.Full long limit) told = λ tells.
      let full = answers_full f.tree me loaded (is_minion f.tree me) long limit (at_place (λ o. IsFullBy loaded o long limit) told) in
      record {
        records = p.state.records;
        minion = full.0;
        log = subst (λ (k : ℕ). HasRecordsAt f.tree me k p.state.records (bytes_in (disk.state old))) (sym full.2) read.records;
        long = full.1 ∙ ap (λ (k : ℕ). k + record_overhead + 1) length_is;
        over = full.3;
      }

  module _ (law : HasOneRecord) (one_log : LogsAreOne) (told : disk.is_told) (after : JournalledState) where
    start_stop : KeepsByCall disk mid new loaded after (start_at f.tree me) DiskFailed → (limit : ℕ) (records : List Deed) → HasRecordsAt f.tree me limit records (bytes_in (disk.state old))
        → (calls pick cut : ℕ) (image : Image) → disk.fuse old ≡ Armed calls → MayLeave (disk.state new) image
        → ((part : Part) → IsPicked pick cut (part_of (disk.state new) part) (image part))
        → HasRecords limit (with_if_any (start_by_stop f.tree me calls pick) records) image
    start_stop call limit records has calls pick cut image armed may picked =
        let one = same_records law one_log f.tree me (bytes_in (disk.state old)) j.limit limit p.state.records records read.records has in
        let more : 3 ≤ calls = subst (Passes 3) armed three.0 in
        let late : nat_le 3 calls ≡ true = late_stop calls more (nat_le 3 calls) refl in
        let here : HasRecords j.limit (with_if_any (record_by_stop (calls - 3) pick (start_at f.tree me)) p.state.records) image =
        call.stopped told refl (calls - 3) pick cut image (three.1 ∙ ap (fuse_after 3) armed) may picked in
        subst (λ (b : Bool). HasRecords limit (with_if_any (if b then record_by_stop (calls - 3) pick (start_at f.tree me) else None) records) image) (sym late)
        (subst (λ (k : ℕ). HasRecords k (with_if_any (record_by_stop (calls - 3) pick (start_at f.tree me)) records) image) one.0
        (subst (λ (rs : List Deed). HasRecords j.limit (with_if_any (record_by_stop (calls - 3) pick (start_at f.tree me)) rs) image) one.1 here))

    -- a start that was not kept is no damage
    undamaged : (fault : AppendFault) → IsDamage {T = JournalledState} (Err (unstarted fault)) → ⊥
    undamaged a.NoMemory damage = damage
    undamaged a.Down damage = damage
    undamaged a.Disk damage = damage
    undamaged (a.Full long most) damage = damage

    -- a load that came to its start answers that the disk failed only where it failed at the start
    failed : (fault : AppendFault) → IsStartFault loaded (start_at f.tree me) fault → unstarted fault ≡ n.Disk → append_end {T = Unit {0}} (Err fault) ≡ DiskFailed
    failed a.NoMemory why e = absurd cc
    failed a.Down why e = absurd why
    failed a.Disk why e = refl
    failed (a.Full long most) why e = absurd cc

    full_so : (fault : AppendFault) → IsStartFault loaded (start_at f.tree me) fault → KeepsByCall disk mid new loaded after (start_at f.tree me) (append_end {T = Unit {0}} (Err fault))
        → (length limit : ℕ) → unstarted fault ≡ n.Full length limit → (image : Image) → MayLeave (disk.state new) image
        → (records : List Deed) × HasRecordsAt f.tree me limit records (bytes_in (disk.state old)) × HasRecords limit records image
    full_so a.NoMemory why call length limit e = absurd cc
    full_so a.Down why call length limit e = absurd why
    full_so a.Disk why call length limit e = absurd cc
    full_so (a.Full long most) why call length limit e = λ image may.
        let limits : most ≡ limit = cc in
        let full = answers_full f.tree me loaded (is_minion f.tree me) long most why in
        let same : j.limit ≡ limit = sym full.2 ∙ limits in (
          p.state.records,
          subst (λ (k : ℕ). HasRecordsAt f.tree me k p.state.records (bytes_in (disk.state old))) same read.records,
          subst (λ (k : ℕ). HasRecords k p.state.records image) same (call.left told image may),
        )

    kept_so : (fault : AppendFault) → IsStartFault loaded (start_at f.tree me) fault
        → KeepsByCall disk mid new loaded after (start_at f.tree me) (append_end {T = Unit {0}} (Err fault)) → KeepsByLoad disk old new f.tree me (Err (unstarted fault))
    kept_so fault why call = record {
      any_moment = moment after _ told call;
      stands = tt;
      left = tt;
      kept = λ damage. absurd (undamaged fault damage);
      full = λ length limit e. full_so fault why call length limit (err_of _ _ e);
      passed = tt;
      not_passed = λ e passes. call.not_passed told (failed fault why (err_of _ _ e))
          (subst (Passes (changing_calls (start_at f.tree me))) (sym three.1) (passes_split 3 (changing_calls (start_at f.tree me)) (disk.fuse old) passes).1);
      stopped = λ e rests limit records has calls pick cut image armed may picked.
          start_stop (subst (λ (end : CallEnd). KeepsByCall disk mid new loaded after (start_at f.tree me) end) (failed fault why (err_of _ _ e)) call)
          limit records has calls pick cut image armed may picked;
    }

    -- what is left where the start was not kept
    pub kept_unstarted : (fault : AppendFault) → IsStartFault loaded own fault
        → KeepsByCall disk mid new loaded after own (append_end {T = Unit {0}} (Err fault)) → KeepsByLoad disk old new f.tree me (Err (unstarted fault))
    kept_unstarted fault why call =
        kept_so fault (at_place (λ o. IsStartFault loaded o fault) why) (at_place (λ o. KeepsByCall disk mid new loaded after o (append_end {T = Unit {0}} (Err fault))) call)
