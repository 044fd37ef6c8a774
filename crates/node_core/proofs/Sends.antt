-- Messages for a neighbour: their numbers are u32, and they are within the limits.
use Rattle.std.proofs.Common.{◌≡◌, ℕ, ◌+◌, ◌-◌, ◌<◌, ◌≤◌, ◌^◌, sym, subst, inl, inr, All, take, drop, arith, List, [], ◌∷◌, ◌++◌, length}
use Rattle.std.specs.Prelude.{flat_map}
use Rattle.std.proofs.lemmas.Bool.{cases_lt}
use Rattle.std.proofs.lemmas.List.{length-drop, drop_all}
use Rattle.std.proofs.lemmas.List.Elements.{All-nil, All-cons, All-append, All-take, All-drop, All-head, All-tail}
use Rattle.salt_value.specs.Id.{IsId}
use Rattle.salt_wire.specs.Limits.{Within, JobFits, EntryFits}
use Rattle.salt_wire.specs.declared.message.Entry.{Entry}
use Rattle.salt_wire.specs.declared.message.Message.{Message}
use Rattle.salt_wire.specs.declared.message.Message.TheVariants as m
use Rattle.salt_wire.specs.declared.message.Job.{Job}
use Rattle.fleet_config.specs.Limits.{most_jobs}
use Rattle.fleet_config.specs.Tree.{Tree, id_of, minions}
use Rattle.node_core.specs.Counts.{known_count}
use Rattle.node_core.specs.Records.{log, jobs, jobs_held}
use Rattle.node_core.specs.Node.{NodeState, IsCounted, pubs_from, ups_from, pending_ups, pending_up, pending_down}

-- numbers
pubs_counted : (seq : ℕ) (jobs : List Job) → All IsCounted (pubs_from seq jobs)
pubs_counted seq [] = All-nil IsCounted
pubs_counted seq (job ∷ jobs) = All-cons IsCounted (m.Pub seq job) (pubs_from (seq + 1) jobs) tt (pubs_counted (seq + 1) jobs)

ups_counted : (id : List ℕ) (n : ℕ) (entries : List Entry) → n + length entries < 2 ^ 32 → All IsCounted (ups_from id n entries)
ups_counted id n [] h = All-nil IsCounted
ups_counted id n (entry ∷ entries) h = All-cons IsCounted (m.Up id n entry) (ups_from id (n + 1) entries) (omega arith) (ups_counted id (n + 1) entries (omega arith))

-- the numbers of the entries that are left of a log
dropped_counted : (id : List ℕ) (n : ℕ) (log : List Entry) → length log < 2 ^ 32 → All IsCounted (ups_from id n (drop n log))
dropped_counted id n log h = elim (cases_lt n (length log)) [
  | inl l ↦ ups_counted id n (drop n log) (let d : length (drop n log) ≡ length log - n = length-drop n log in omega arith)
  | inr l ↦ rw (drop_all n log l) (All-nil IsCounted)
]

minions_counted : (t : Tree) (node : NodeState) → ((id : List ℕ) → length (log id node.records) < 2 ^ 32) → (minions : List ℕ) → All IsCounted (flat_map (pending_ups t node) minions)
minions_counted t node h [] = All-nil IsCounted
minions_counted t node h (minion ∷ minions) =
    All-append IsCounted (pending_ups t node minion) _ (dropped_counted (id_of t minion) (known_count node.known_ups minion) (log (id_of t minion) node.records) (h (id_of t minion))) (minions_counted t node h minions)

pub up_counted : (t : Tree) (me max : ℕ) (node : NodeState) → ((id : List ℕ) → length (log id node.records) < 2 ^ 32) → All IsCounted (take max (pending_up t me node))
up_counted t me max node h = All-take IsCounted max _ (All-cons IsCounted (m.Have (jobs_held node.records)) _ tt (minions_counted t node h (minions t me)))

pub down_counted : (child max : ℕ) (node : NodeState) → All IsCounted (take max (pending_down child node))
down_counted child max node = All-take IsCounted max _ (pubs_counted (known_count node.known_jobs child) (drop (known_count node.known_jobs child) (jobs node.records)))

-- limits
pubs_fit : (seq : ℕ) (jobs : List Job) → seq + length jobs < 2 ^ 32 → All JobFits jobs → All Within (pubs_from seq jobs)
pubs_fit seq [] h f = All-nil Within
pubs_fit seq (job ∷ jobs) h f =
    let here : Within (m.Pub seq job) = (omega arith, All-head JobFits job jobs f) in
    All-cons Within (m.Pub seq job) (pubs_from (seq + 1) jobs) here (pubs_fit (seq + 1) jobs (omega arith) (All-tail JobFits job jobs f))

ups_fit : (id : List ℕ) (n : ℕ) (entries : List Entry) → IsId id → n + length entries < 2 ^ 32 → All EntryFits entries → All Within (ups_from id n entries)
ups_fit id n [] i h f = All-nil Within
ups_fit id n (entry ∷ entries) i h f =
    let here : Within (m.Up id n entry) = (i, omega arith, All-head EntryFits entry entries f) in
    All-cons Within (m.Up id n entry) (ups_from id (n + 1) entries) here (ups_fit id (n + 1) entries i (omega arith) (All-tail EntryFits entry entries f))

dropped_pubs : (n : ℕ) (jobs : List Job) → length jobs < 2 ^ 32 → All JobFits jobs → All Within (pubs_from n (drop n jobs))
dropped_pubs n jobs h f = elim (cases_lt n (length jobs)) [
  | inl l ↦ pubs_fit n (drop n jobs) (let d : length (drop n jobs) ≡ length jobs - n = length-drop n jobs in omega arith) (All-drop JobFits n jobs f)
  | inr l ↦ rw (drop_all n jobs l) (All-nil Within)
]

dropped_ups : (id : List ℕ) (n : ℕ) (log : List Entry) → IsId id → length log < 2 ^ 32 → All EntryFits log → All Within (ups_from id n (drop n log))
dropped_ups id n log i h f = elim (cases_lt n (length log)) [
  | inl l ↦ ups_fit id n (drop n log) i (let d : length (drop n log) ≡ length log - n = length-drop n log in omega arith) (All-drop EntryFits n log f)
  | inr l ↦ rw (drop_all n log l) (All-nil Within)
]

pub pubs_after : (known max : ℕ) (jobs : List Job) (old : List Message) → old ≡ [] → length jobs ≤ most_jobs → All JobFits jobs
    → All Within (take max (old ++ pubs_from known (drop known jobs)))
pubs_after known max jobs old none few f =
    All-take Within max _ (All-append Within old _ (subst (λ (l : List Message). All Within l) (sym none) (All-nil Within)) (dropped_pubs known jobs (omega arith) f))

pub ups_after : (id : List ℕ) (n max : ℕ) (entries : List Entry) (old : List Message) → IsId id → length entries < 2 ^ 32 → All EntryFits entries
    → All Within old → All Within (take max (old ++ ups_from id n (drop n entries)))
ups_after id n max entries old i h f o = All-take Within max _ (All-append Within old _ o (dropped_ups id n entries i h f))
