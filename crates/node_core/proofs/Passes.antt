-- What is known of a message that passes the first tests: its record may be added.
use Rattle.std.proofs.Common.{◌≡◌, ◌≢◌, ℕ, ◌+◌, ◌<◌, ◌≤◌, ◌^◌, ◌∙◌, sym, ap, refl, subst, inl, inr, Bool, true, false, ◌&&◌, ◌==◌, nat_lt, nat_le, List, [], ◌∷◌, length, All, Option, None, Some, arith}
use Rattle.std.specs.Prelude.{◌||◌, not, filter}
use Rattle.std.specs.List.{AllByRecursion, list_all}
use Rattle.std.proofs.lemmas.Bool.Decides.{eqb_tells}
use Rattle.std.proofs.lemmas.Bool.{lt-ltb, ltb-true, le-leb}
use Rattle.fleet_config.specs.Causes.{first_cause}
use Rattle.fleet_config.specs.Limits.{most_jobs}
use Rattle.fleet_config.specs.Tree.{Tree, id_of, place_of, branch, is_parent, is_minion, is_within}
use Rattle.exec_functions.specs.declared.holdings.Holdings.{Holdings}
use Rattle.salt_value.specs.Id.{IsId}
use Rattle.salt_wire.specs.Limits.{EntryFits, JobFits}
use Rattle.salt_wire.specs.declared.message.Job.{Job}
use Rattle.salt_wire.specs.declared.message.Entry.{Entry}
use Rattle.salt_wire.specs.declared.message.Entry.TheVariants.{Return, Fired, Start, Mine}
use Rattle.salt_wire.specs.declared.message.Message.TheVariants as m
use Rattle.salt_wire.specs.declared.deed.Changed.{Changed}
use Rattle.salt_wire.specs.declared.deed.Deed.{Deed}
use Rattle.salt_wire.specs.declared.deed.Deed.TheVariants.{Intake, Up, Done}
use Rattle.journal_records.specs.Limits as Record
use Rattle.journal_records.specs.Limits.{RecordFits}
use Rattle.minion_core.specs.Flat.{job_record, is_first, is_later, return_of, entries_in}
use Rattle.minion_core.specs.Limits.{ChangedFits, DeedFits, HasFewEntries}
use Rattle.minion_core.proofs.Own.{IsOwn, NoTwice, IsDone, done_is}
use Rattle.node_core.specs.declared.faults.Stray.{Stray}
use Rattle.node_core.specs.Records.{jobs, jobs_held, log}
use Rattle.node_core.specs.Node.{NodeState, PlacedNode, is_below, is_here, is_next, may_take, may_record, names_held}
use Rattle.node_core.specs.NextRecords.{MayAdd, is_made_by, is_return, is_run, is_next_job, most_own_entries}
use Rattle.node_core.specs.Steps.{first_stray_at, IsTakenIn}
use Rattle.node_core.proofs.Nexts.{both_true, both_hold, same_is, is_same}

two_tests : (a b c : Bool) (x y : Stray) → first_cause ((a, x) ∷ (b && c, y) ∷ []) ≡ None → (b ≡ true) × (c ≡ true)
two_tests true true true x y e = (refl, refl)
two_tests true true false x y e = absurd cc
two_tests true false c x y e = absurd cc
two_tests false b c x y e = absurd cc

-- a job that passes comes from the parent, and may be taken
job_passes : (from seq : ℕ) (job : Job) (n : PlacedNode) → first_stray_at from (m.Pub seq job) n ≡ None → (is_parent n.fleet.tree from n.me ≡ true) × (may_take seq job n.state ≡ true)
job_passes from seq job n e = two_tests _ (is_parent n.fleet.tree from n.me) (may_take seq job n.state) _ _ e

pub job_may : (from seq : ℕ) (job : Job) (n : PlacedNode) → first_stray_at from (m.Pub seq job) n ≡ None → may_take seq job n.state ≡ true
job_may from seq job n e = (job_passes from seq job n e).1

-- a node with a parent is no top
pub job_below : (from seq : ℕ) (job : Job) (n : PlacedNode) → first_stray_at from (m.Pub seq job) n ≡ None → n.me ≢ 0
job_below from seq job n e top =
    let t = n.fleet.tree in
    let parent = (job_passes from seq job n e).0 in
    let some : nat_lt 0 n.me ≡ true = (both_true (nat_lt 0 n.me) (nat_lt n.me (length t)) (both_true _ _ parent).0).0 in
    let wrong : nat_lt 0 0 ≡ true = subst (λ k. nat_lt 0 k ≡ true) top some in
    absurd cc

-- what the tests of an entry say
record AreTrue (above minion here first is_held : Bool) : Type 0 where
  parent : above ≡ true
  master : minion ≡ false
  below : here ≡ true
  may : first ≡ true
  known : is_held ≡ true

four_tests : (a b minion d r h : Bool) (x y z u : Stray)
    → first_cause ((a, x) ∷ (b && not minion && (not d || r), y) ∷ (d, z) ∷ (h, u) ∷ []) ≡ None → AreTrue b minion d r h
four_tests true true false true true true x y z u e = record { parent = refl; master = refl; below = refl; may = refl; known = refl }
four_tests true true false true true false x y z u e = absurd cc
four_tests true true false true false h x y z u e = absurd cc
four_tests true true false false r h x y z u e = absurd cc
four_tests true true true d r h x y z u e = absurd cc
four_tests true false minion d r h x y z u e = absurd cc
four_tests false b minion d r h x y z u e = absurd cc

then_true : (t s : Bool) → (not t || s) ≡ true → t ≡ true → s ≡ true
then_true true s e is = e
then_true false s e is = absurd cc

first_true : (a b : Bool) → a ≡ true → (a || b) ≡ true
first_true true b e = refl
first_true false b e = absurd cc

either_true : (a b : Bool) → b ≡ true → (a || b) ≡ true
either_true true b e = refl
either_true false b e = e

not_same : (n k : ℕ) → n ≢ k → (n == k) ≡ false
not_same n k apart = elim (eqb_tells n k) [
  | inl y ↦ absurd (apart y.1)
  | inr y ↦ y.0
]

-- a minion that lies below a node through a child of it is at or below that node
below_here : (t : Tree) (me child : ℕ) (id : List ℕ) → is_parent t me child ≡ true → is_below t me child id ≡ true → is_here t me id ≡ true
below_here t me child id parent below =
    let minion : ℕ = place_of t id in
    let told = both_true (is_minion t minion) (branch t me minion == child) below in
    let through : branch t me minion ≡ child = is_same (branch t me minion) child told.1 in
    let some : nat_lt 0 child ≡ true = (both_true (nat_lt 0 child) (nat_lt child (length t)) (both_true _ _ parent).0).0 in
    both_hold (is_minion t minion) (is_within t me minion) told.0
    (either_true (me == minion) (nat_lt 0 (branch t me minion)) (subst (λ c. nat_lt 0 c ≡ true) (sym through) some))

-- an entry that passes may be added, where its number is the next
pub entry_passes : (from : ℕ) (id : List ℕ) (k : ℕ) (entry : Entry) (n : PlacedNode) → n.state.minion ≡ is_minion n.fleet.tree n.me → first_stray_at from (m.Up id k entry) n ≡ None
    → k + 1 < 2 ^ 32 → IsId id → EntryFits entry → k ≡ length (log id n.state.records) → MayAdd (Up id entry) n
entry_passes from id k entry n role e counted is_id fits next =
    let told : AreTrue (is_parent n.fleet.tree n.me from) n.state.minion (is_below n.fleet.tree n.me from id) (may_record k id entry n.state)
    (not (is_next k id n.state) || names_held (jobs_held n.state.records) entry) =
    four_tests _ _ _ _ _ _ _ _ _ _ e in
    let here : is_next k id n.state ≡ true = same_is k (length (log id n.state.records)) next in
    record {
      next = both_hold (not (is_minion n.fleet.tree n.me)) _ (ap not (sym role ∙ told.master))
          (both_hold (is_here n.fleet.tree n.me id) _ (below_here n.fleet.tree n.me from id told.parent told.below)
          (both_hold (names_held (jobs_held n.state.records) entry) _ (then_true (is_next k id n.state) (names_held (jobs_held n.state.records) entry) told.known here)
          (then_true (is_next k id n.state) (is_first entry (log id n.state.records)) told.may here)));
      room = lt-ltb (length (log id n.state.records) + 1) 4294967296 (omega arith);
      fits = (is_id, fits);
    }

-- ---- a job with the next number

later_told : (l m s r : Bool) → (l && (m || not s || r)) ≡ true → m ≡ false → s ≡ true → (l ≡ true) × (r ≡ true)
later_told true false true r e p q = (refl, e)
later_told false m s r e p q = absurd cc
later_told true true s r e p q = absurd cc
later_told true false false r e p q = absurd cc

next_number : (seq : ℕ) (job : Job) (node : NodeState) → may_take seq job node ≡ true → seq ≡ jobs_held node.records → jobs_held node.records < most_jobs
next_number seq job node may next = subst (λ k. k < most_jobs) next (ltb-true seq most_jobs (both_true (nat_lt seq most_jobs) _ may).0)

-- a syndic may add it
pub intake_may : (seq : ℕ) (job : Job) (n : PlacedNode) → n.state.minion ≡ is_minion n.fleet.tree n.me → n.state.minion ≡ false → may_take seq job n.state ≡ true → n.me ≢ 0
    → seq ≡ jobs_held n.state.records → JobFits job → MayAdd (Intake job) n
intake_may seq job n role master may below next fits =
    let later = later_told (nat_lt seq most_jobs) n.state.minion (seq == jobs_held n.state.records) (is_later (jobs n.state.records) job) may master (same_is seq (jobs_held n.state.records) next) in
    record {
      next = both_hold (not (is_minion n.fleet.tree n.me)) _ (ap not (sym role ∙ master))
          (both_hold (not (n.me == 0)) _ (ap not (not_same n.me 0 below))
          (both_hold (is_later (jobs n.state.records) job) _ later.1 (lt-ltb (jobs_held n.state.records) most_jobs (next_number seq job n.state may next))));
      room = refl;
      fits = fits;
    }

are_made : (seq : ℕ) (es : List Entry) → AllByRecursion (IsOwn seq) es → list_all (is_made_by seq) es ≡ true
are_made seq [] h = refl
are_made seq (Return n o ∷ es) h = both_hold (n == seq) _ (same_is n seq h.0) (are_made seq es h.1)
are_made seq (Fired e ∷ es) h = are_made seq es h.1
are_made seq (Start b ∷ es) h = absurd h.0
are_made seq (Mine n m g p ∷ es) h = both_hold (n == seq) _ (same_is n seq h.0) (are_made seq es h.1)

no_returns : (seq : ℕ) (es : List Entry) → AllByRecursion (IsOwn seq) es → return_of seq es ≡ None → length (filter is_return es) ≡ 0
no_returns seq [] h e = refl
no_returns seq (Return n o ∷ es) h e = absurd (let g = rw (same_is n seq h.0) at e in cc)
no_returns seq (Fired x ∷ es) h e = no_returns seq es h.1 e
no_returns seq (Start b ∷ es) h e = absurd h.0
no_returns seq (Mine n m g p ∷ es) h e = no_returns seq es h.1 e

one_return : (seq : ℕ) (es : List Entry) → AllByRecursion (IsOwn seq) es → NoTwice es → length (filter is_return es) ≤ 1
one_return seq [] h n = omega arith
one_return seq (Return k o ∷ es) h n =
    let none : length (filter is_return es) ≡ 0 = no_returns seq es h.1 (subst (λ j. return_of j es ≡ None) h.0 n.0) in
    omega arith
one_return seq (Fired x ∷ es) h n = one_return seq es h.1 n
one_return seq (Start b ∷ es) h n = absurd h.0
one_return seq (Mine k m g p ∷ es) h n = one_return seq es h.1 n

change_fits : (changed : Option Changed) → ChangedFits changed → Record.ChangedFits changed
change_fits None fits = fits
change_fits (Some new) fits = fits

run_is : (seq : ℕ) (d : Deed) (h : IsDone seq d) → is_run seq h.entries ≡ true
run_is seq d h = both_hold (list_all (is_made_by seq) h.entries) _ (are_made seq h.entries h.own) (le-leb (length (filter is_return h.entries)) 1 (one_return seq h.entries h.own h.once))

done_may : (seq : ℕ) (changed : Option Changed) (entries : List Entry) (n : PlacedNode) → is_minion n.fleet.tree n.me ≡ true → seq ≡ jobs_held n.state.records
    → jobs_held n.state.records < most_jobs → is_run seq entries ≡ true → DeedFits (Done seq changed entries) → length entries ≤ 2 → MayAdd (Done seq changed entries) n
done_may seq changed entries n minion next small run fits few = record {
  next = both_hold (is_minion n.fleet.tree n.me) _ minion
      (both_hold (seq == jobs_held n.state.records) _ (same_is seq (jobs_held n.state.records) next)
      (both_hold (nat_lt seq most_jobs) _ (lt-ltb seq most_jobs (omega arith)) run));
  room = first_true (nat_le (length entries) 2) _ (le-leb (length entries) 2 few);
  fits = (omega arith, change_fits changed fits.0, (omega arith, fits.1));
}

-- a minion may add what it made of the job
pub run_may : (seq : ℕ) (job : Job) (n : PlacedNode) (d : Deed) → n.state.minion ≡ is_minion n.fleet.tree n.me → n.state.minion ≡ true → may_take seq job n.state ≡ true
    → seq ≡ jobs_held n.state.records → d ≡ job_record seq job (id_of n.fleet.tree n.me) n.state.held → DeedFits d → HasFewEntries d → MayAdd d n
run_may seq job n d role minion may next is fits few =
    let done : IsDone seq d = subst (λ (k : Deed). IsDone seq k) (sym is) (done_is seq job (id_of n.fleet.tree n.me) n.state.held) in
    subst (λ (k : Deed). MayAdd k n) (sym done.is)
    (done_may seq done.changed done.entries n (sym role ∙ minion) next (next_number seq job n.state may next) (run_is seq d done)
    (subst (λ (k : Deed). DeedFits k) done.is fits) (subst (λ (k : Deed). length (entries_in k) ≤ 2) done.is few))

pub run_taken : (seq : ℕ) (job : Job) (n : PlacedNode) (d : Deed) (id : List ℕ) (held : Holdings) → n.state.minion ≡ is_minion n.fleet.tree n.me → n.state.minion ≡ true
    → may_take seq job n.state ≡ true → seq ≡ jobs_held n.state.records → id ≡ id_of n.fleet.tree n.me → held ≡ n.state.held
    → d ≡ job_record seq job id held → DeedFits d → HasFewEntries d → IsTakenIn seq job n d
run_taken seq job n d id held role minion may next id_is held_is made fits few =
    let is : d ≡ job_record seq job (id_of n.fleet.tree n.me) n.state.held = rw (sym id_is, sym held_is) made in
    record { is = rw minion is; next = run_may seq job n d role minion may next is fits few }
