-- Payloads as the records of a node.
use Rattle.std.proofs.Common.{◌≡◌, ℕ, zero, suc, ◌+◌, ◌<◌, ◌≤◌, ◌∙◌, sym, ap, refl, subst, inl, inr, All, arith, Bool, true, false, nat_le, List, [], ◌∷◌, ◌++◌, length, take, bytes_eq, append-nil, append_assoc, Option, None, Some}
use Rattle.std.specs.Prelude.{◌||◌, map, slice_index_or, if◌then◌else◌}
use Rattle.std.proofs.lemmas.Bool.{lt-ltb, le-leb, cases_lt}
use Rattle.std.proofs.lemmas.List.{length-append, length-map, length-take-le, take-take, get_or-take, map-append}
use Rattle.std.proofs.lemmas.List.Elements.{All-head, All-tail, All-take, All-get_or}
use Rattle.gate_journal.specs.Journal.{JournalState, records, record_of}
use Rattle.gate_journal.specs.Layout.{greatest_limit}
use Rattle.gate_journal.proofs.Store.{journal_length-push}
use Rattle.fleet_config.specs.Fleet.{FleetConfig}
use Rattle.fleet_config.specs.Tree.{Tree, member, id_of, is_minion}
use Rattle.exec_functions.specs.declared.holdings.Holdings.{Holdings}
use Rattle.minion_core.specs.Flat.{held_by, held_after}
use Rattle.salt_value.specs.Spelling.{concatenation}
use Rattle.salt_wire.specs.Spelling as wire
use Rattle.salt_wire.specs.declared.message.Entry.{Entry}
use Rattle.salt_wire.specs.declared.message.Entry.TheVariants as e
use Rattle.salt_wire.specs.declared.deed.Changed.{Changed}
use Rattle.salt_wire.specs.declared.deed.Deed.{Deed}
use Rattle.salt_wire.specs.declared.deed.Deed.TheVariants.{Publish, Intake, Up, Fire, React, Boot, Done}
use Rattle.journal_records.specs.Limits.{RecordFits}
use Rattle.journal_records.specs.Spelling.{record_bytes, changed_bytes}
use Rattle.journal_records.specs.RoundTrip.{HasOneRecord}
use Rattle.node_core.specs.Records.{log, log_after}
use Rattle.node_core.specs.NextRecords.{AreRecordsAt, is_next_record, are_next, has_log_room, most_own_entries, placed_after}
use Rattle.node_core.specs.Node.{PlacedNode, first_held}
use Rattle.node_core.proofs.Nexts.{both_true, no_records, records_more}
use Rattle.journalled_node.specs.Loading.{AreBytesOf, IsFirstWrong, loaded_node, start_at}
use Rattle.journalled_node.specs.Starts.{AddsPayload, FitAJournal, FindsRoom, IsNodeOf, IsReadAt, MayAddIfAny, StopsAt}

-- ---- lists

map_take : {A B : Type 0} (f : A → B) (n : ℕ) (xs : List A) → take n (map f xs) ≡ map f (take n xs)
map_take f zero xs = refl
map_take f (suc n) [] = refl
map_take f (suc n) (x ∷ xs) = ap (λ l. f x ∷ l) (map_take f n xs)

map_at : {A B : Type 0} (f : A → B) (xs : List A) (n : ℕ) (d : A) (c : B) → n < length xs → slice_index_or (map f xs) n c ≡ f (slice_index_or xs n d)
map_at f [] n d c within = absurd (omega (arith, within))
map_at f (x ∷ xs) zero d c within = refl
map_at f (x ∷ xs) (suc n) d c within = map_at f xs n d c (omega (arith, within))

take_next : {A : Type 0} (xs : List A) (n : ℕ) (d : A) → n < length xs → take (suc n) xs ≡ take n xs ++ slice_index_or xs n d ∷ []
take_next [] n d within = absurd (omega (arith, within))
take_next (x ∷ xs) zero d within = refl
take_next (x ∷ xs) (suc n) d within = ap (λ l. x ∷ l) (take_next xs n d (omega (arith, within)))

-- one element more of a front
take_more : {A : Type 0} (xs : List A) (n : ℕ) (d : A) → n < length xs → take (n + 1) xs ≡ take n xs ++ slice_index_or xs n d ∷ []
take_more {A = A} xs n d within =
    subst (λ (k : ℕ). take k xs ≡ take n xs ++ slice_index_or xs n d ∷ []) (let e : suc n ≡ n + 1 = omega arith in e) (take_next xs n d within)

-- ---- records are what their bytes are

-- two lists of records within their limits that have the same bytes are the same
pub one_list : HasOneRecord → (rs qs : List Deed) → All RecordFits rs → All RecordFits qs → map record_bytes rs ≡ map record_bytes qs → rs ≡ qs
one_list law [] [] fits also same = refl
one_list law [] (q ∷ qs) fits also same = absurd cc
one_list law (r ∷ rs) [] fits also same = absurd cc
one_list law (r ∷ rs) (q ∷ qs) fits also same =
    let first : record_bytes r ≡ record_bytes q = cc in
    let rest : map record_bytes rs ≡ map record_bytes qs = cc in
    let head : r ≡ q = law r q (All-head RecordFits r rs fits) (All-head RecordFits q qs also) first in
    let tail : rs ≡ qs = one_list law rs qs (All-tail RecordFits r rs fits) (All-tail RecordFits q qs also) rest in
    cc

-- each record may be added after those before it
next_at : (t : Tree) (me : ℕ) (before rs : List Deed) (n : ℕ) → n < length rs → are_next t me before rs ≡ true
    → is_next_record t me (before ++ take n rs) (slice_index_or rs n Boot) ≡ true
next_at t me before [] n within right = absurd (omega (arith, within))
next_at t me before (r ∷ rs) zero within right =
    subst (λ (l : List Deed). is_next_record t me l r ≡ true) (sym (append-nil before)) (both_true (is_next_record t me before r) (are_next t me (before ++ r ∷ []) rs) right).0
next_at t me before (r ∷ rs) (suc n) within right =
    subst (λ (l : List Deed). is_next_record t me l (slice_index_or rs n Boot) ≡ true) (append_assoc before (r ∷ []) (take n rs))
    (next_at t me (before ++ r ∷ []) rs n (omega (arith, within)) (both_true (is_next_record t me before r) (are_next t me (before ++ r ∷ []) rs) right).1)

-- payloads that are all right have no wrong one
pub none_wrong : HasOneRecord → (t : Tree) (me : ℕ) (payloads : List (List ℕ)) (rs : List Deed) (n : ℕ) → AreBytesOf t me payloads rs → IsFirstWrong t me payloads n → ⊥
none_wrong law t me payloads rs n are first =
    let count : length payloads ≡ length rs = ap (λ (l : List (List ℕ)). length l) are.spelled ∙ length-map rs record_bytes in
    let inside : n < length rs = omega (arith, first.inside, count) in
    let fronts : map record_bytes first.records ≡ map record_bytes (take n rs) =
    sym first.before.spelled ∙ ap (λ (l : List (List ℕ)). take n l) are.spelled ∙ map_take record_bytes n rs in
    let same : first.records ≡ take n rs = one_list law first.records (take n rs) first.before.right.fit (All-take RecordFits n rs are.right.fit) fronts in
    let deed : Deed = slice_index_or rs n Boot in
    let is : slice_index_or payloads n [] ≡ record_bytes deed =
    ap (λ (l : List (List ℕ)). slice_index_or l n []) are.spelled ∙ map_at record_bytes rs n Boot [] inside in
    let may : is_next_record t me (take n rs) deed ≡ true = next_at t me [] rs n inside are.right.right in
    let may_not : is_next_record t me first.records deed ≡ false = first.wrong deed (All-get_or RecordFits rs n Boot inside are.right.fit) is in
    let wrong : true ≡ false = sym may ∙ ap (λ (l : List Deed). is_next_record t me l deed) (sym same) ∙ may_not in
    absurd cc

-- the first wrong payload is so in a longer front too
shorter : (t : Tree) (me : ℕ) (payloads : List (List ℕ)) (n m : ℕ) → n < m → m < length payloads → IsFirstWrong t me payloads n → IsFirstWrong t me (take m payloads) n
shorter t me payloads n m less inside first = record {
  records = first.records;
  before = subst (λ (l : List (List ℕ)). AreBytesOf t me l first.records) (sym (take-take n m payloads (omega (arith, less)))) first.before;
  inside = subst (λ (k : ℕ). n < k) (sym (length-take-le m payloads (omega (arith, inside)))) less;
  wrong = λ deed fits is. first.wrong deed fits (sym (get_or-take m payloads n [] less) ∙ is);
}

-- there is one first wrong payload
pub one_wrong : HasOneRecord → (t : Tree) (me : ℕ) (payloads : List (List ℕ)) (n m : ℕ) → IsFirstWrong t me payloads n → IsFirstWrong t me payloads m → n ≡ m
one_wrong law t me payloads n m one other = elim (cases_lt n m) [
  | inl less ↦ absurd (none_wrong law t me (take m payloads) other.records n other.before (shorter t me payloads n m less other.inside one))
  | inr more ↦ elim (cases_lt m n) [
    | inl less ↦ absurd (none_wrong law t me (take n payloads) one.records m one.before (shorter t me payloads m n less one.inside other))
    | inr same ↦ omega (arith, more, same)
  ]
]

-- ---- a log in a journal has room for each record

entry_some : (entry : Entry) → 1 ≤ length (wire.entry entry)
entry_some (e.Return seq outcome) = omega arith
entry_some (e.Fired event) = omega arith
entry_some (e.Start boot) = omega arith
entry_some (e.Mine seq mine grains pillar) = omega arith

entries_some : (entries : List Entry) → length entries ≤ length (concatenation (map wire.entry entries))
entries_some [] = omega arith
entries_some (entry ∷ entries) =
    let rest = entries_some entries in
    let first = entry_some entry in
    let all = length-append (wire.entry entry) (concatenation (map wire.entry entries)) in
    omega (arith, rest, first, all)

behind : (n : ℕ) (xs ys : List ℕ) → n ≤ length ys → n ≤ length (xs ++ ys)
behind n xs ys few =
    let all = length-append xs ys in
    omega (arith, all, few)

-- a record has as many bytes as entries
done_some : (seq : ℕ) (changed : Option Changed) (entries : List Entry) → length entries ≤ length (record_bytes (Done seq changed entries))
done_some seq changed entries =
    let spelled : List ℕ = wire.number (length entries) ++ concatenation (map wire.entry entries) in
    let some = behind (length entries) (wire.number (length entries)) (concatenation (map wire.entry entries)) (entries_some entries) in
    let all = behind (length entries) (wire.number seq) (changed_bytes changed ++ spelled) (behind (length entries) (changed_bytes changed) spelled some) in
    omega (arith, all)

-- a record in a journal is longer than its payload
record_long : (payload : List ℕ) → length payload + 1 ≤ length (record_of payload)
record_long payload =
    let grown = journal_length-push [] payload in
    let one = append-nil (record_of payload) in
    let bytes : length (records (payload ∷ [])) ≡ length (record_of payload) = ap (λ (l : List ℕ). length l) one in
    omega (arith, grown, bytes)

-- the bytes of one payload more
step : (payload : List ℕ) (payloads : List (List ℕ)) (n k : ℕ) → n ≤ length payload + 1 → k ≤ length (records payloads) → n + k ≤ length (records (payload ∷ payloads))
step payload payloads n k few rest =
    let all = length-append (record_of payload) (records payloads) in
    let here = record_long payload in
    omega (arith, all, here, few, rest)

-- a payload more leaves no fewer bytes
step_over : (payload : List ℕ) (payloads : List (List ℕ)) (k : ℕ) → k ≤ length (records payloads) → k ≤ length (records (payload ∷ payloads))
step_over payload payloads k rest =
    let more = step payload payloads 0 k (omega arith) rest in
    omega (arith, more)

-- and one more than there were
step_one : (payload : List ℕ) (payloads : List (List ℕ)) (k : ℕ) → k ≤ length (records payloads) → suc k ≤ length (records (payload ∷ payloads))
step_one payload payloads k rest =
    let more = step payload payloads 1 k (omega arith) rest in
    omega (arith, more)

up_short : (b : ℕ) (id : List ℕ) (payload : List ℕ) (entry : Entry) (rs : List Deed) (same : Bool) → length (log_after b id rs) ≤ length (records (map record_bytes rs))
    → length (if same then entry ∷ log_after b id rs else log_after b id rs) ≤ length (records (payload ∷ map record_bytes rs))
up_short b id payload entry rs true rest = step_one payload (map record_bytes rs) (length (log_after b id rs)) rest
up_short b id payload entry rs false rest = step_over payload (map record_bytes rs) (length (log_after b id rs)) rest

-- no log has more entries than the records have bytes in a journal
log_short : (b : ℕ) (id : List ℕ) (rs : List Deed) → length (log_after b id rs) ≤ length (records (map record_bytes rs))
log_short b id [] = omega arith
log_short b id (Publish job ∷ rs) = step_over (record_bytes (Publish job)) (map record_bytes rs) (length (log_after b id rs)) (log_short b id rs)
log_short b id (Intake job ∷ rs) = step_over (record_bytes (Intake job)) (map record_bytes rs) (length (log_after b id rs)) (log_short b id rs)
log_short b id (Fire event ∷ rs) = step_over (record_bytes (Fire event)) (map record_bytes rs) (length (log_after b id rs)) (log_short b id rs)
log_short b id (React items ∷ rs) = step_over (record_bytes (React items)) (map record_bytes rs) (length (log_after b id rs)) (log_short b id rs)
log_short b id (Up minion entry ∷ rs) = up_short b id (record_bytes (Up minion entry)) entry rs (bytes_eq minion id) (log_short b id rs)
log_short b id (Boot ∷ rs) = step_one (record_bytes Boot) (map record_bytes rs) (length (log_after (b + 1) id rs)) (log_short (b + 1) id rs)
log_short b id (Done seq changed entries ∷ rs) =
    let all = length-append entries (log_after b id rs) in
    let some = done_some seq changed entries in
    let more = step (record_bytes (Done seq changed entries)) (map record_bytes rs) (length entries) (length (log_after b id rs)) (omega (arith, some)) (log_short b id rs) in
    omega (arith, all, more)

right_holds : (a b : Bool) → b ≡ true → (a || b) ≡ true
right_holds true b e = refl
right_holds false b e = e

-- records that a journal has room for find room in their logs
pub room_for : (own : List ℕ) (rs : List Deed) (deed : Deed) → length (records (map record_bytes rs)) + length (record_bytes deed) ≤ greatest_limit
    → has_log_room own rs deed ≡ true
room_for own rs (Publish job) small = refl
room_for own rs (Intake job) small = refl
room_for own rs (Fire event) small = refl
room_for own rs (React items) small = refl
room_for own rs (Up id entry) small =
    let short = log_short 0 id rs in
    lt-ltb (length (log id rs) + 1) 4294967296 (omega (arith, short, small))
room_for own rs Boot small =
    let short = log_short 0 own rs in
    lt-ltb (length (log own rs)) most_own_entries (omega (arith, short, small))
room_for own rs (Done seq changed entries) small =
    let short = log_short 0 own rs in
    let some = done_some seq changed entries in
    right_holds (nat_le (length entries) 2) (nat_le (length (log own rs) + length entries) most_own_entries)
    (le-leb (length (log own rs) + length entries) most_own_entries (omega (arith, short, some, small)))

-- a front of payloads and the one behind it are no longer than all of them
front_short : (payloads : List (List ℕ)) (n : ℕ) → n < length payloads → length (records (take n payloads)) + length (slice_index_or payloads n []) ≤ length (records payloads)
front_short [] n within = absurd (omega (arith, within))
front_short (payload ∷ payloads) zero within =
    let more = step payload payloads (length payload) 0 (omega arith) (omega arith) in
    omega (arith, more)
front_short (payload ∷ payloads) (suc n) within =
    let rest = front_short payloads n (omega (arith, within)) in
    let all = length-append (record_of payload) (records payloads) in
    let front = length-append (record_of payload) (records (take n payloads)) in
    omega (arith, rest, all, front)

-- the first payload that a node did not add is the first wrong one
pub is_wrong : (f : FleetConfig) (me : ℕ) (payloads : List (List ℕ)) (n : ℕ) → StopsAt f me payloads n → IsFirstWrong f.tree me payloads n
is_wrong f me payloads n stops = record {
  records = stops.node.state.records;
  before = stops.before.bytes;
  inside = stops.inside;
  wrong = λ deed fits is.
      sym (ap (λ (n : PlacedNode). is_next_record n.fleet.tree n.me stops.node.state.records deed) stops.before.is) ∙ stops.wrong deed fits is;
}

-- the next payload of a journal finds room at the node of those before it
pub finds_room : (f : FleetConfig) (me : ℕ) (payloads : List (List ℕ)) (n : ℕ) (node : PlacedNode) → FitAJournal payloads → n < length payloads
    → IsNodeOf f me (take n payloads) node → FindsRoom (slice_index_or payloads n []) node
finds_room f me payloads n node small inside before deed fits is =
    let rs : List Deed = node.state.records in
    let fronts = front_short payloads n inside in
    let front : length (records (map record_bytes rs)) ≡ length (records (take n payloads)) = ap (λ (l : List (List ℕ)). length (records l)) (sym before.bytes.spelled) in
    let own : length (slice_index_or payloads n []) ≡ length (record_bytes deed) = ap (λ (l : List ℕ). length l) is in
    room_for (id_of node.fleet.tree node.me) rs deed (omega (arith, fronts, front, own, small))

-- a minion whose records a journal may have has room for one start more, and a master adds nothing
pub may_start : (f : FleetConfig) (me : ℕ) (x : PlacedNode × JournalState) → IsReadAt f me x → MayAddIfAny (start_at x.0.fleet.tree x.0.me) x.0
may_start f me x read = by_role (is_minion x.0.fleet.tree x.0.me) refl
  where
    by_role : (minion : Bool) → is_minion x.0.fleet.tree x.0.me ≡ minion → MayAddIfAny (if minion then Some Boot else None) x.0
    by_role true is = record { next = is; room = room_for (id_of x.0.fleet.tree x.0.me) x.0.state.records Boot (let small = read.small in omega (arith, small)); fits = tt }
    by_role false is = tt

-- ---- one payload more

held_push : (h : Holdings) (rs : List Deed) (deed : Deed) → held_by h (rs ++ deed ∷ []) ≡ held_after (held_by h rs) deed
held_push h [] deed = refl
held_push h (r ∷ rs) deed = held_push (held_after h r) rs deed

-- the node that is loaded with a record more
pub loaded_more : (f : FleetConfig) (me : ℕ) (rs : List Deed) (deed : Deed) → placed_after deed (loaded_node f me rs) ≡ loaded_node f me (rs ++ deed ∷ [])
loaded_more f me rs deed =
    ap (λ (held : Holdings). record { fleet = f; me = me; state = record { minion = is_minion f.tree me; records = rs ++ deed ∷ []; held = held; known_jobs = []; known_ups = [] } })
    (sym (held_push (first_held (member f.tree me)) rs deed))

-- a node that added the record of one payload more
pub node_more : (f : FleetConfig) (me : ℕ) (payloads : List (List ℕ)) (n : ℕ) (old new : PlacedNode) → n < length payloads
    → IsNodeOf f me (take n payloads) old → AddsPayload (slice_index_or payloads n []) old new true → IsNodeOf f me (take (n + 1) payloads) new
node_more f me payloads n old new inside before (deed, is, may, made) =
    let rs : List Deed = old.state.records in
    let whole : new ≡ loaded_node f me (rs ++ deed ∷ []) = made ∙ ap (placed_after deed) before.is ∙ loaded_more f me rs deed in
    let recorded : new.state.records ≡ rs ++ deed ∷ [] = ap (λ (n : PlacedNode). n.state.records) whole in
    let next : is_next_record f.tree me rs deed ≡ true = sym (ap (λ (n : PlacedNode). is_next_record n.fleet.tree n.me rs deed) before.is) ∙ may.next in
    let right : AreRecordsAt f.tree me (rs ++ deed ∷ []) = records_more f.tree me rs deed before.bytes.right next may.fits in
    let spelled : take (n + 1) payloads ≡ map record_bytes (rs ++ deed ∷ []) =
    take_more payloads n [] inside ∙ ap (λ (l : List (List ℕ)). l ++ slice_index_or payloads n [] ∷ []) before.bytes.spelled
    ∙ ap (λ (p : List ℕ). map record_bytes rs ++ p ∷ []) is ∙ sym (map-append record_bytes rs (deed ∷ [])) in
    record {
      is = whole ∙ ap (loaded_node f me) (sym recorded);
      bytes = subst (AreBytesOf f.tree me (take (n + 1) payloads)) (sym recorded) (record { spelled = spelled; right = right });
    }

-- a node without a record
pub node_none : (f : FleetConfig) (me : ℕ) (node : PlacedNode) → node ≡ loaded_node f me [] → IsNodeOf f me [] node
node_none f me node is =
    let none : node.state.records ≡ [] = ap (λ (n : PlacedNode). n.state.records) is in
    record {
      is = is ∙ ap (loaded_node f me) (sym none);
      bytes = subst (AreBytesOf f.tree me []) (sym none) (record { spelled = refl; right = no_records f.tree me });
    }
