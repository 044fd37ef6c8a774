-- The laws, from the invariant.
use Rattle.fleet_config.specs.Fleet.{FleetConfig}
use Rattle.std.proofs.Common.{◌≡◌, ◌≤◌, ℕ, suc, ◌+◌, ◌<◌, ◌∙◌, sym, ap, refl, true, List, [], ◌∷◌, ◌++◌, length, take, drop, arith, append_assoc, take-append-drop}
use Rattle.std.specs.Prelude.{IfSome, Option, None, Some, is_some, Bool, filter}
use Rattle.std.specs.List.{AllByRecursion}
use Rattle.salt_wire.specs.declared.message.Job.{Job}
use Rattle.salt_value.specs.declared.outcome.Outcome.{Outcome}
use Rattle.salt_wire.specs.declared.deed.Deed.{Deed}
use Rattle.node_core.specs.declared.faults.Stray.{Stray}
use Rattle.fleet_config.specs.Tree.{Tree, id_of, parent_of, is_minion, is_within, IsTree, minions}
use Rattle.minion_core.specs.Flat.{row_of, job_record, held_after, held_by, entries_in, flat_records, flat_up, acts, return_of}
use Rattle.node_core.specs.Records.{jobs_held, log, log_after}
use Rattle.std.specs.Prelude.{flat_map}
use Rattle.exec_functions.specs.declared.holdings.Holdings.{Holdings}
use Rattle.salt_wire.specs.declared.deed.Deed.{Deed}
use Rattle.fleet_config.specs.Tree.{place_of, held_of}
use Rattle.tree_laws.proofs.Records.{held_without}
use Rattle.node_core.specs.Node.{NodeState, Answer, message_result}
use Rattle.node_core.specs.Node.Answer.{IsStray}
use Rattle.tree_world.specs.Packets.{Packet}
use Rattle.tree_world.specs.Network.{Network, node_at, top_jobs}
use Rattle.tree_laws.specs.Laws.{IsPrefixOfParent, ActedOnce, AreJobsInOrder, NamesHeldJobs, IsTaken, outcome_at, flat_outcome, IsOutcomeFlat, IsReportFlat, IsReportSoFar, has_returned}
use Rattle.tree_world.specs.Report.{report, flat_report, by_id}
use Rattle.salt_value.specs.declared.outcome.Row.{Row}
use Rattle.std.specs.List.{All, Contains, filter_map, cons_option}
use Rattle.std.proofs.lemmas.List.Elements.{All-weaker, All-same, All-filter, All-contains_itself, recursion_from_All, All-from_recursion}
use Rattle.tree_laws.specs.Lists.{IsPrefix}
use Rattle.tree_laws.specs.Invariant.{IsSent, Names, IsPair, Holds}
use Rattle.tree_laws.proofs.Lists.{prefix_both, all_imply}
use Rattle.tree_laws.proofs.Trees.{branch_in, parent_before, parent_test, minion_low}
use Rattle.tree_laws.proofs.Calls.{took, FitsReply}
use Rattle.tree_laws.proofs.Turns.{minions_in}
use Rattle.tree_laws.proofs.Places.{IsMinionIn, place_at}
use Rattle.tree_laws.proofs.Rows.{by_id_all}
use Rattle.tree_laws.proofs.Chains.{chain, acts_flat, acts_without, return_prefix, return_acts}

pub prefix_law : (f : Tree) (w : Network) (c : ℕ) → IsTree f → Holds f w → 0 < c → c < length f → IsPrefixOfParent f w c
prefix_law f w c fleet h lo up =
    let p : ℕ = parent_of f c in
    let before : p < c = parent_before f c fleet lo in
    let g : IsPair f p c (node_at w.nodes p) (node_at w.nodes c) = h.pairs c lo up in
    let b = (h.each p (omega arith)).master (fleet.master c lo up) in
    record {
      lists = λ z. let a = (h.each c up).master z in let x = a.counted in let y = b.counted in let k = g.held in
          prefix_both _ _ (top_jobs w) a.prefix b.prefix (omega arith);
      held = g.held;
      logs = λ m i. g.logs m (branch_in f fleet p c m (parent_test f c lo up) i);
      known_jobs = g.known_jobs;
      known_ups = λ m i. g.known_ups m (branch_in f fleet p c m (parent_test f c lo up) i);
    }

pub acted_law : (f : Tree) (w : Network) (m : ℕ) → Holds f w → m < length f → is_minion f m ≡ true → ActedOnce f w m
acted_law f w m h up z =
    let g = (h.each m up).minion z in
    let id : List ℕ = id_of f m in
    let rs : List Deed = (node_at w.nodes m).records in
    record {
      records = g.acted;
      entries = acts_without 0 0 id rs ∙ ap (λ (l : List Deed). acts (log_after 0 id l)) g.acted ∙ acts_flat 0 id 0 id (held_of f m) (take (jobs_held rs) (top_jobs w));
      held = g.held ∙ sym (held_without (held_of f m) rs) ∙ ap (held_by (held_of f m)) g.acted;
    }

-- the flat minion over more jobs
flat_map_join : (xs ys : List Deed) → flat_map entries_in (xs ++ ys) ≡ flat_map entries_in xs ++ flat_map entries_in ys
flat_map_join [] ys = refl
flat_map_join (x ∷ xs) ys = rw (flat_map_join xs ys) (sym (append_assoc (entries_in x) _ _))

records_join : (k : ℕ) (id : List ℕ) (h : Holdings) (xs ys : List Job)
    → flat_records k id h (xs ++ ys) ≡ flat_records k id h xs ++ flat_records (k + length xs) id (held_by h (flat_records k id h xs)) ys
records_join k id h [] ys = let e : k + 0 ≡ k = omega arith in rw e refl
records_join k id h (x ∷ xs) ys = let e : k + suc (length xs) ≡ k + 1 + length xs = omega arith in
    rw (records_join (k + 1) id (held_after h (job_record k x id h)) xs ys, e) refl

pub flat_join : (id : List ℕ) (h : Holdings) (xs ys : List Job)
    → flat_up 0 id h (xs ++ ys) ≡ flat_up 0 id h xs ++ flat_up (0 + length xs) id (held_by h (flat_records 0 id h xs)) ys
flat_join id h xs ys = ap (flat_map entries_in) (records_join 0 id h xs ys) ∙ flat_map_join (flat_records 0 id h xs) _

pub flat_prefix : (id : List ℕ) (h : Holdings) (xs ys : List Job) → IsPrefix xs ys → IsPrefix (flat_up 0 id h xs) (flat_up 0 id h ys)
flat_prefix id h xs ys p = (_, sym (flat_join id h xs p.0) ∙ ap (λ (l : List Job). flat_up 0 id h l) p.1)

pub flat_take : (c : ℕ) (id : List ℕ) (h : Holdings) (js : List Job) → IsPrefix (flat_up 0 id h (take c js)) (flat_up 0 id h js)
flat_take c id h js = flat_prefix id h (take c js) js (drop c js, take-append-drop c js)

-- an outcome that a node has is that of the flat minion
pub outcome_law : (f : Tree) (w : Network) (p m seq : ℕ) (o : Outcome) → IsTree f → Holds f w → m < length f → is_minion f m ≡ true → is_within f p m ≡ true
    → outcome_at f w p m seq ≡ Some o → flat_outcome f (top_jobs w) m seq ≡ Some o
outcome_law f w p m seq o fleet h up z i e =
    let id : List ℕ = id_of f m in
    let whole = chain f w fleet h m p m up (omega arith) i in
    let own : return_of seq (log id (node_at w.nodes m).records) ≡ Some o = return_prefix seq o _ _ whole e in
    let a = acted_law f w m h up z in
    let mine : return_of seq (flat_up 0 id (held_of f m) (take (jobs_held (node_at w.nodes m).records) (top_jobs w))) ≡ Some o =
    ap (return_of seq) (sym a.entries) ∙ return_acts seq (log id (node_at w.nodes m).records) ∙ own in
    return_prefix seq o _ _ (flat_take (jobs_held (node_at w.nodes m).records) id (held_of f m) (top_jobs w)) mine

minions_by_id : (f : Tree) → All (IsMinionIn f 0) (by_id f (minions f 0))
minions_by_id f = by_id_all f (IsMinionIn f 0) (minions f 0) (All-from_recursion (IsMinionIn f 0) (minions f 0) (minions_in f 0))

-- what one gives, the other gives too
abbrev Keeps : Tree → (List ℕ → Option Outcome) → (List ℕ → Option Outcome) → ℕ → Type 0
Keeps f some more m = (o : Outcome) → some (id_of f m) ≡ Some o → more (id_of f m) ≡ Some o

-- where what one gives the other gives too, the rows of the one are those of the other that it has
abbrev has : (List ℕ → Option Outcome) → Row → Bool
has some row = is_some (some row.id)

more_rows : (id : List ℕ) (some : List ℕ → Option Outcome) (a b : Option Outcome) (xs ys : List Row) → some id ≡ a
    → ((o : Outcome) → a ≡ Some o → b ≡ Some o) → xs ≡ filter (has some) ys
    → cons_option (row_of id a) xs ≡ filter (has some) (cons_option (row_of id b) ys)
more_rows id some None None xs ys e g h = h
more_rows id some None (Some o) xs ys e g h = rw e h
more_rows id some (Some o) None xs ys e g h = absurd (let x = g o refl in cc)
more_rows id some (Some o) (Some n) xs ys e g h =
    let x : Some n ≡ Some o = g o refl in
    let same : n ≡ o = cc in
    rw (same, e) (ap (λ (rest : List Row). record { id = id; outcome = o } ∷ rest) h)

rows_so_far : (f : Tree) (some more : List ℕ → Option Outcome) (ms : List ℕ) → AllByRecursion (Keeps f some more) ms
    → filter_map (λ m. row_of (id_of f m) (some (id_of f m))) ms ≡ filter (has some) (filter_map (λ m. row_of (id_of f m) (more (id_of f m))) ms)
rows_so_far f some more [] h = refl
rows_so_far f some more (m ∷ ms) h =
    more_rows (id_of f m) some (some (id_of f m)) (more (id_of f m))
    (filter_map (λ m. row_of (id_of f m) (some (id_of f m))) ms) (filter_map (λ m. row_of (id_of f m) (more (id_of f m))) ms)
    refl h.0 (rows_so_far f some more ms h.1)

-- more jobs than the top has may be given
pub so_far_law : (f : Tree) (w : Network) (js : List Job) (seq : ℕ) → IsTree f → Holds f w → IsPrefix (top_jobs w) js → IsReportSoFar f js w seq
so_far_law f w js seq fleet h p =
    let some : List ℕ → Option Outcome = λ id. return_of seq (log id (node_at w.nodes 0).records) in
    let more : List ℕ → Option Outcome = λ id. return_of seq (flat_up 0 id (held_of f (place_of f id)) js) in
    rows_so_far f some more (by_id f (minions f 0))
    (recursion_from_All (Keeps f some more) (by_id f (minions f 0))
    (All-weaker (IsMinionIn f 0) (Keeps f some more)
    (λ m i o e. rw (place_at f m fleet (minion_low f m i.minion)) (return_prefix seq o _ _ ((flat_prefix (id_of f m) (held_of f m) _ _ p)) (outcome_law f w 0 m seq o fleet h (minion_low f m i.minion) i.minion i.within e)))
    (by_id f (minions f 0)) (minions_by_id f)))

pub report_law : (f : Tree) (w : Network) (js : List Job) (seq : ℕ) → IsTree f → Holds f w → IsPrefix (top_jobs w) js → IsReportFlat f js w seq
report_law f w js seq fleet h p =
    let all : List Row = flat_report f js seq in
    All-same (Contains all) (report f (node_at w.nodes 0).records seq) (filter (has_returned w seq) all) (so_far_law f w js seq fleet h p)
    (All-filter (has_returned w seq) (Contains all) all (All-contains_itself all))

if_some : {X : Type 0} (P : X → Type 0) (o : Option X) → ((x : X) → o ≡ Some x → P x) → IfSome o P
if_some P None g = tt
if_some P (Some x) g = g x refl

pub outcomes_law : (f : Tree) (w : Network) (p m seq : ℕ) → IsTree f → Holds f w → m < length f → is_minion f m ≡ true → is_within f p m ≡ true → IsOutcomeFlat f w p m seq
outcomes_law f w p m seq fleet h up z i =
    if_some (λ o. flat_outcome f (top_jobs w) m seq ≡ Some o) (outcome_at f w p m seq) (λ o e. outcome_law f w p m seq o fleet h up z i e)

pub jobs_law : (f : FleetConfig) (w : Network) → Holds f.tree w → length (top_jobs w) ≤ f.max_jobs → AreJobsInOrder f.max_jobs (top_jobs w)
jobs_law f w h few = record { few = few; within = h.few; rising = h.rising }

pub names_law : (f : Tree) (w : Network) (i : ℕ) → Holds f w → i < length f → NamesHeldJobs w i
names_law f w i h l = λ id. All-from_recursion (Names (jobs_held (node_at w.nodes i).records)) (log id (node_at w.nodes i).records) ((h.each i l).names id)

pub packets_law : (f : Tree) (w : Network) → Holds f w → All (IsSent f w.nodes) w.packets
packets_law f w h = All-from_recursion (IsSent f w.nodes) w.packets h.sent

stray_never : (f : Tree) (me to : ℕ) (node : NodeState) (answer : Answer) (cause : Stray) → FitsReply f me to node answer → answer ≡ IsStray cause → ⊥
stray_never f me to node answer cause g e = rw e at g

pub taken_law : (f : Tree) (w : Network) (p : Packet) → IsTree f → Holds f w → IsSent f w.nodes p → IsTaken f w p
taken_law f w p fleet h s = λ cause e.
    let t = message_result f p.to p.from p.message (node_at w.nodes p.to) in
    stray_never f p.to p.from t.node t.answer cause (took f w p.from p.to p.message fleet h s.fits).1 e

pub none_stray_law : (f : Tree) (w : Network) → IsTree f → Holds f w → All (IsTaken f w) w.packets
none_stray_law f w fleet h = All-from_recursion (IsTaken f w) w.packets (all_imply (IsSent f w.nodes) (IsTaken f w) (λ p s. taken_law f w p fleet h s) w.packets h.sent)
