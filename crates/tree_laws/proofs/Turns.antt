-- What each turn keeps.
use Rattle.std.proofs.Common.{◌≡◌, ℕ, zero, suc, ◌+◌, ◌<◌, ◌⊎◌, ◌∙◌, sym, ap, refl, inl, inr, Bool, true, false, List, [], ◌∷◌, ◌++◌, length, take, drop, arith, le_refl}
use Rattle.std.specs.Prelude.{Some, map, flat_map, slice_get, filter, ◌&&◌, if◌then◌else◌, nat_lt}
use Rattle.std.specs.List.{AllByRecursion}
use Rattle.std.proofs.lemmas.List.{length_push, length-map}
use Rattle.std.proofs.lemmas.Option.{slice_get_cases}
use Rattle.fleet_config.specs.declared.fleet.Member.{Member}
use Rattle.salt_wire.specs.declared.message.Job.{Job}
use Rattle.salt_wire.specs.declared.message.Entry.{Entry}
use Rattle.salt_wire.specs.declared.deed.Deed.TheVariants.{Publish, Boot}
use Rattle.salt_wire.specs.declared.message.Message.{Message}
use Rattle.fleet_config.specs.Limits.{most_jobs}
use Rattle.fleet_config.specs.Fleet.{FleetConfig}
use Rattle.fleet_config.specs.Tree.{Tree, member, id_of, held_of, parent_of, is_minion, is_parent, is_within, IsTree, up_to, minions, runs_jobs}
use Rattle.minion_core.specs.Flat.{is_later}
use Rattle.node_core.specs.Records.{jobs, jobs_held, log}
use Rattle.node_core.specs.Counts.{known_count}
use Rattle.node_core.specs.Node.{NodeState, with_record, is_here, pubs_from, ups_from, pending_ups, pending, first_held, first_node}
use Rattle.exec_functions.specs.declared.holdings.Holdings.{Holdings}
use Rattle.std.specs.Prelude.{min}
use Rattle.tree_world.specs.Network.{Network, node_at, start, top_jobs, with_node_at, with_packets, packet, sent_packets, after_receipt, after_delivery, most_sent}
use Rattle.tree_laws.specs.Invariant.{Fits, IsSent, Names, IsNode, IsPair, IsReadableJob, Holds}
use Rattle.tree_laws.proofs.Lists.{prefix_same, all_join, all_imply, all_at, all_map, all_take, at_drop}
use Rattle.tree_laws.proofs.Trees.{IsChild, child, parent_before, both}
use Rattle.tree_laws.proofs.Places.{IsMinionIn, here_minion}
use Rattle.tree_laws.proofs.Chains.{rising_push}
use Rattle.tree_laws.proofs.Records.{log_publish, jobs_push, held_push}
use Rattle.tree_laws.proofs.Steps.{names_more, pair_above_more}
use Rattle.tree_laws.proofs.Calls.{at_same, node_step, packets_step, received_step}

-- a packet to a node that is there is received, and another does nothing
pub by_receiver : (P : Network → Type 0) (there : Bool) (w v : Network) → P w → P v → P (if there then v else w)
by_receiver P true w v a b = b
by_receiver P false w v a b = a

pub delivered_step : (f : FleetConfig) (w : Network) (i : ℕ) → IsTree f.tree → Holds f.tree w → Holds f.tree (after_delivery f w (slice_get w.packets i))
delivered_step f w i fleet h = elim (slice_get_cases w.packets i).1 [
  | inl c ↦ rw c.2 (by_receiver (Holds f.tree) (nat_lt c.0.to (length w.nodes)) w (after_receipt f w c.0) h
      (received_step f w c.0 fleet h (all_at (IsSent f.tree w.nodes) w.packets i c.0 h.sent c.2)))
  | inr c ↦ rw c.1 h
]

-- the top is a master
pub top_master : (f : Tree) → IsTree f → is_minion f 0 ≡ false
top_master f fleet = ap runs_jobs fleet.top

-- publish: one record at the top
master_add : (f : Tree) (a : NodeState) (job : Job) → is_minion f 0 ≡ false → IsNode f (jobs a.records) 0 a
    → IsNode f (jobs (a.records ++ Publish job ∷ [])) 0 (with_record (Publish job) a)
master_add f a job z h = record {
  runs = h.runs;
  master = λ y. let g = (h.master y).counted in record {
    counted = rw (held_push, jobs_push) (let e = length_push (jobs a.records) job in omega arith);
    prefix = prefix_same (jobs (a.records ++ Publish job ∷ []));
  };
  minion = λ y. absurd (let x = sym z ∙ y in cc);
  names = λ id. rw (log_publish, held_push) (all_imply (Names (jobs_held a.records)) (Names (jobs_held a.records + 1)) (names_more _ _ (omega arith)) (log id a.records) (h.names id));
}

pub add_step : (f : Tree) (w : Network) (job : Job) → IsTree f → Holds f w → length (top_jobs w) < most_jobs → is_later (top_jobs w) job ≡ true → IsReadableJob job
    → Holds f (with_node_at w 0 (with_record (Publish job) (node_at w.nodes 0)))
add_step f w job fleet h few late readable =
    let a : NodeState = node_at w.nodes 0 in
    let b : NodeState = with_record (Publish job) a in
    let some = fleet.some in
    let in' : 0 < length w.nodes = let s = h.size in omega arith in
    node_step f w 0 b fleet h some (Publish job ∷ [], refl)
    (rw (at_same w.nodes 0 b in', jobs_push) (let e = length_push (jobs a.records) job in omega arith))
    (rw (at_same w.nodes 0 b in', jobs_push) (rising_push (jobs a.records) job h.rising late))
    (rw (at_same w.nodes 0 b in', jobs_push) (all_join IsReadableJob (jobs a.records) (job ∷ []) h.readable (readable, tt)))
    (rw (at_same w.nodes 0 b in') (master_add f a job (top_master f fleet) (h.each 0 some)))
    (λ z. absurd (omega arith))
    (λ d dlo dup de. let g : IsPair f 0 d a (node_at w.nodes d) = rw de at (h.pairs d dlo dup) in
    pair_above_more f 0 d a (node_at w.nodes d) (Publish job) (λ id. log_publish id a.records job) g)

-- send: what is pending may be sent
pubs_fit : (f : Tree) (me to : ℕ) (node : NodeState) → is_parent f me to ≡ true → (seq : ℕ) (js : List Job)
    → ((k : ℕ) (job : Job) → slice_get js k ≡ Some job → slice_get (jobs node.records) (seq + k) ≡ Some job) → AllByRecursion (Fits f me to node) (pubs_from seq js)
pubs_fit f me to node p seq [] g = tt
pubs_fit f me to node p seq (j ∷ js) g = (
  (p, let e : seq + 0 ≡ seq = omega arith in rw e at (g 0 j refl)),
  pubs_fit f me to node p (seq + 1) js (λ k job at. let e : seq + 1 + k ≡ seq + suc k = omega arith in rw e (g (suc k) job at)),
)

ups_fit : (f : Tree) (me to : ℕ) (id : List ℕ) (node : NodeState) → is_parent f to me ≡ true → is_here f me id ≡ true → (n : ℕ) (es : List Entry)
    → ((k : ℕ) (entry : Entry) → slice_get es k ≡ Some entry → slice_get (log id node.records) (n + k) ≡ Some entry) → AllByRecursion (Fits f me to node) (ups_from id n es)
ups_fit f me to id node p q n [] g = tt
ups_fit f me to id node p q n (entry ∷ es) g = (
  (p, q, let e : n + 0 ≡ n = omega arith in rw e at (g 0 entry refl)),
  ups_fit f me to id node p q (n + 1) es (λ k x at. let e : n + 1 + k ≡ n + suc k = omega arith in rw e (g (suc k) x at)),
)

-- what the test of a filter says holds of what is kept
kept_by : (test : ℕ → Bool) (x : ℕ) (xs : List ℕ) → AllByRecursion (λ y. test y ≡ true) (filter test xs) → (t : Bool) → test x ≡ t → AllByRecursion (λ y. test y ≡ true) (filter test (x ∷ xs))
kept_by test x xs h true e = rw e (e, h)
kept_by test x xs h false e = rw e h

pub all_filter : (test : ℕ → Bool) (xs : List ℕ) → AllByRecursion (λ x. test x ≡ true) (filter test xs)
all_filter test [] = tt
all_filter test (x ∷ xs) = kept_by test x xs (all_filter test xs) (test x) refl

pub minions_in : (f : Tree) (a : ℕ) → AllByRecursion (IsMinionIn f a) (minions f a)
minions_in f a = all_imply (λ m. (is_minion f m && is_within f a m) ≡ true) (IsMinionIn f a)
    (λ m e. let b = both (is_minion f m) (is_within f a m) e in record { minion = b.0; within = b.1 }) (minions f a) (all_filter (λ m. is_minion f m && is_within f a m) (up_to (length f)))

all_flat : {X Y : Type 0} (P : X → Type 0) (Q : Y → Type 0) (g : X → List Y) → ((x : X) → P x → AllByRecursion Q (g x)) → (xs : List X) → AllByRecursion P xs → AllByRecursion Q (flat_map g xs)
all_flat P Q g each [] h = tt
all_flat P Q g each (x ∷ xs) h = all_join Q (g x) (flat_map g xs) (each x h.0) (all_flat P Q g each xs h.1)

not_both : (f : Tree) (a b : ℕ) → IsTree f → is_parent f a b ≡ true → is_parent f b a ≡ false
not_both f a b fleet p =
    let ch : IsChild f a b = child f a b p in
    let x : a < b = rw ch.parent at (parent_before f b fleet ch.some) in
    either (is_parent f b a) refl where
      either : (t : Bool) → is_parent f b a ≡ t → is_parent f b a ≡ false
      either false e = e
      either true e = absurd (
          let ch : IsChild f a b = child f a b p in
          let x : a < b = rw ch.parent at (parent_before f b fleet ch.some) in
          let dh : IsChild f b a = child f b a e in
          let y : b < a = rw dh.parent at (parent_before f a fleet dh.some) in omega arith)

pub pending_fits : (f : Tree) (me to : ℕ) (node : NodeState) → IsTree f → (is_parent f me to ≡ true) ⊎ (is_parent f to me ≡ true) → AllByRecursion (Fits f me to node) (pending f me to node)
pending_fits f me to node fleet (inl p) =
    let count : ℕ = known_count node.known_jobs to in
    rw p (pubs_fit f me to node p count (drop count (jobs node.records)) (λ k job at. rw (at_drop count (jobs node.records) k) at at))
pending_fits f me to node fleet (inr p) =
    rw (not_both f to me fleet p) (
      (p, le_refl _),
      all_flat (IsMinionIn f me) (Fits f me to node) (pending_ups f node)
          (λ m i. let count : ℕ = known_count node.known_ups m in
          ups_fit f me to (id_of f m) node p (here_minion f me m fleet i) count (drop count (log (id_of f m) node.records)) (λ k x at. rw (at_drop count (log (id_of f m) node.records) k) at at))
          (minions f me) (minions_in f me),
    )

pub send_step : (f : FleetConfig) (w : Network) (from to count : ℕ) → Holds f.tree w → from < length f.tree → to < length f.tree → AllByRecursion (Fits f.tree from to (node_at w.nodes from)) (pending f.tree from to (node_at w.nodes from))
    → Holds f.tree (with_packets w (sent_packets f from to count w))
send_step f w from to count h lf lt g =
    let all : List Message = pending f.tree from to (node_at w.nodes from) in
    packets_step f.tree w (sent_packets f from to count w) h
    (all_map (Fits f.tree from to (node_at w.nodes from)) (IsSent f.tree w.nodes) (packet from to) (λ message x. record { from = lf; to = lt; fits = x }) (take (min count most_sent) all)
    (all_take (Fits f.tree from to (node_at w.nodes from)) (min count most_sent) all g))

-- the start
first_of : Bool → Holdings → NodeState
first_of t held = record { minion = t; records = if t then Boot ∷ [] else []; held = held; known_jobs = []; known_ups = [] }

first_at : (f : Tree) (i : ℕ) → i < length f → node_at (map first_node f) i ≡ first_node (member f i)
first_at [] i l = absurd (omega arith)
first_at (s ∷ f) zero l = refl
first_at (s ∷ f) (suc i) l = first_at f i (omega arith)

-- what a minion holds as it starts
holds_first : (f : Tree) (i : ℕ) → is_minion f i ≡ true → first_held (member f i) ≡ held_of f i
holds_first f i z = rw z refl

first_holds : (f : Tree) (top : List Job) (i : ℕ) (t : Bool) (held : Holdings) → is_minion f i ≡ t → (t ≡ true → held ≡ held_of f i)
    → IsNode f top i (first_of t held)
unfolding first_of
first_holds f top i true held z e = record {
  runs = sym z;
  master = λ y. absurd (let x = sym z ∙ y in cc);
  minion = λ y. record { within = omega arith; acted = refl; held = e refl };
  names = λ id. (refl, tt);
}
first_holds f top i false held z e = record {
  runs = sym z;
  master = λ y. record { counted = refl; prefix = (top, refl) };
  minion = λ y. absurd (let x = sym z ∙ y in cc);
  names = λ id. tt;
}

first_pair : (f : Tree) (p c : ℕ) (above below : Holdings) (t : Bool) → IsPair f p c (first_of false above) (first_of t below)
unfolding first_of
first_pair f p c above below true = record { held = omega arith; known_jobs = omega arith; logs = λ m e. (_, refl); known_ups = λ m e. omega arith }
first_pair f p c above below false = record { held = omega arith; known_jobs = omega arith; logs = λ m e. (_, refl); known_ups = λ m e. omega arith }

first_is : (m : Member) → first_node m ≡ first_of (runs_jobs m.role) (first_held m)
unfolding first_of
first_is m = refl

pub first_jobs : (f : FleetConfig) → IsTree f.tree → top_jobs (start f) ≡ []
unfolding first_of
first_jobs f fleet = rw (first_at f.tree 0 fleet.some, fleet.top) refl

pub start_holds : (f : FleetConfig) → IsTree f.tree → Holds f.tree (start f)
start_holds f fleet = let t : Tree = f.tree in record {
  size = length-map t first_node;
  few = rw (first_jobs f fleet) (omega arith);
  rising = rw (first_jobs f fleet) refl;
  readable = rw (first_jobs f fleet) tt;
  each = λ i u. rw (first_at t i u, first_is (member t i)) (first_holds t _ i (is_minion t i) (first_held (member t i)) refl (holds_first t i));
  pairs = λ c lo u. let b = parent_before t c fleet lo in
      rw (first_at t c u, first_at t (parent_of t c) (omega arith), first_is (member t c), first_is (member t (parent_of t c)), fleet.master c lo u) (first_pair t (parent_of t c) c _ _ (is_minion t c));
  sent = tt;
}
