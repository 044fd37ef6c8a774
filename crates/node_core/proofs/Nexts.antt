-- What is known of a record that a node may add next.
use Rattle.std.proofs.Common.{◌≡◌, ℕ, ◌<◌, ◌≤◌, ◌∙◌, sym, refl, subst, inl, inr, Bool, true, false, ◌&&◌, ◌==◌, nat_lt, nat_le, List, [], ◌∷◌, ◌++◌, length, append-nil, append_assoc, All, arith}
use Rattle.std.specs.Prelude.{◌||◌, not, IsTrue, is_some}
use Rattle.std.proofs.lemmas.Bool.{ltb-true}
use Rattle.std.proofs.lemmas.Bool.Decides.{eqb_tells, leb_tells}
use Rattle.std.proofs.lemmas.List.Elements.{All-nil, All-push}
use Rattle.fleet_config.specs.Limits.{most_jobs}
use Rattle.fleet_config.specs.Laws.{FindsMinionsBelow, FindsPlaces}
use Rattle.fleet_config.specs.Tree.{Tree, ids_below, place_of, is_minion, is_within}
use Rattle.fleet_config.proofs.Owns.{minion_within}
use Rattle.salt_wire.specs.declared.message.Job.{Job}
use Rattle.salt_wire.specs.declared.deed.Deed.{Deed}
use Rattle.salt_wire.specs.declared.deed.Deed.TheVariants.{Publish, Intake}
use Rattle.journal_records.specs.Limits.{RecordFits}
use Rattle.minion_core.specs.Flat.{is_later}
use Rattle.master_core.specs.Master.{place_in}
use Rattle.node_core.specs.Records.{jobs, jobs_held}
use Rattle.node_core.specs.Node.{is_here}
use Rattle.node_core.specs.NextRecords.{is_next_record, is_next_job, are_next, AreRecordsAt}

-- ---- tests

pub both_true : (a b : Bool) → (a && b) ≡ true → (a ≡ true) × (b ≡ true)
both_true true b e = (refl, e)
both_true false b e = absurd cc

pub both_hold : (a b : Bool) → a ≡ true → b ≡ true → (a && b) ≡ true
both_hold true b e f = f
both_hold false b e f = absurd cc

pub second_true : (a b : Bool) → a ≡ false → (a || b) ≡ true → b ≡ true
second_true false b n e = e
second_true true b n e = absurd cc

pub same_is : (n k : ℕ) → n ≡ k → (n == k) ≡ true
same_is n k e = elim (eqb_tells n k) [
  | inl y ↦ y.0
  | inr y ↦ absurd (y.1 e)
]

pub is_same : (n k : ℕ) → (n == k) ≡ true → n ≡ k
is_same n k e = elim (eqb_tells n k) [
  | inl y ↦ y.1
  | inr y ↦ absurd (let wrong : true ≡ false = sym e ∙ y.0 in cc)
]

pub le_told : (n k : ℕ) → nat_le n k ≡ true → n ≤ k
le_told n k e = elim (leb_tells n k) [
  | inl y ↦ y.1
  | inr y ↦ absurd (let wrong : true ≡ false = sym e ∙ y.0 in cc)
]

pub not_le : (n k : ℕ) → k < n → nat_le n k ≡ false
not_le n k l = elim (leb_tells n k) [
  | inl y ↦ absurd (let le : n ≤ k = y.1 in omega arith)
  | inr y ↦ y.0
]

-- ---- the records of a node

pub no_records : (t : Tree) (me : ℕ) → AreRecordsAt t me []
no_records t me = record { right = refl; fit = All-nil RecordFits }

next_more : (t : Tree) (me : ℕ) (before rs : List Deed) (new : Deed) → are_next t me before rs ≡ true → is_next_record t me (before ++ rs) new ≡ true
    → are_next t me before (rs ++ new ∷ []) ≡ true
next_more t me before [] new h next =
    both_hold (is_next_record t me before new) true (subst (λ (l : List Deed). is_next_record t me l new ≡ true) (append-nil before) next) refl
next_more t me before (r ∷ rs) new h next =
    let told = both_true (is_next_record t me before r) (are_next t me (before ++ r ∷ []) rs) h in
    both_hold (is_next_record t me before r) (are_next t me (before ++ r ∷ []) (rs ++ new ∷ [])) told.0
    (next_more t me (before ++ r ∷ []) rs new told.1 (subst (λ (l : List Deed). is_next_record t me l new ≡ true) (sym (append_assoc before (r ∷ []) rs)) next))

-- a record more that may be next
pub records_more : (t : Tree) (me : ℕ) (rs : List Deed) (new : Deed) → AreRecordsAt t me rs → is_next_record t me rs new ≡ true → RecordFits new
    → AreRecordsAt t me (rs ++ new ∷ [])
records_more t me rs new h next fits = record { right = next_more t me [] rs new h.right next; fit = All-push RecordFits rs new h.fit fits }

-- ---- what the rule says of one record

pub next_job_told : (rs : List Deed) (job : Job) → is_next_job rs job ≡ true → (is_later (jobs rs) job ≡ true) × (jobs_held rs < most_jobs)
next_job_told rs job next =
    let told = both_true (is_later (jobs rs) job) (nat_lt (jobs_held rs) most_jobs) next in
    (told.0, ltb-true (jobs_held rs) most_jobs told.1)

pub job_of_publish : (t : Tree) (me : ℕ) (rs : List Deed) (job : Job) → is_next_record t me rs (Publish job) ≡ true → is_next_job rs job ≡ true
job_of_publish t me rs job next = (both_true (me == 0) _ (both_true (not (is_minion t me)) _ next).1).1

pub job_of_intake : (t : Tree) (me : ℕ) (rs : List Deed) (job : Job) → is_next_record t me rs (Intake job) ≡ true → is_next_job rs job ≡ true
job_of_intake t me rs job next = (both_true (not (me == 0)) _ (both_true (not (is_minion t me)) _ next).1).1

-- a minion that is a node or lies below it is found among those below
pub found_here : FindsMinionsBelow → FindsPlaces → (t : Tree) (me : ℕ) (id : List ℕ) → is_here t me id ≡ true → IsTrue (is_some (place_in (ids_below t me) id))
found_here finds places t me id here =
    let minion : ℕ = place_of t id in
    let told = both_true (is_minion t minion) (is_within t me minion) here in
    subst (λ (i : List ℕ). IsTrue (is_some (place_in (ids_below t me) i))) (places t id (minion_within t minion told.0)) (finds t me minion told.0 told.1)
