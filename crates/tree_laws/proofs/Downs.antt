-- What the way down of a settle makes whole.
use Rattle.std.proofs.Common.{◌≡◌, ℕ, zero, suc, ◌+◌, ◌-◌, ◌*◌, ◌<◌, ◌≤◌, ◌∙◌, sym, ap, refl, subst, inl, inr, Bool, true, false, List, [], ◌∷◌, ◌++◌, length, set, arith, le_refl}
use Rattle.std.specs.Prelude.{Some, slice_get, filter, ◌==◌}
use Rattle.std.specs.List.{AllByRecursion}
use Rattle.std.proofs.lemmas.List.{length_push, length-set}
use Rattle.std.proofs.lemmas.List.Elements.{All-contains, All-from_recursion}
use Rattle.std.proofs.lemmas.Bool.{cases_eq, cases_lt, lt-ltb}
use Rattle.std.proofs.lemmas.Bool.Decides.{eqb_tells, leb_tells}
use Rattle.std.proofs.lemmas.Option.{slice_get_past}
use Rattle.salt_wire.specs.declared.message.Job.{Job}
use Rattle.salt_wire.specs.declared.message.Message.{Message}
use Rattle.salt_wire.specs.declared.message.Message.TheVariants.{Pub, Have}
use Rattle.salt_wire.specs.declared.deed.Deed.{Deed}
use Rattle.fleet_config.specs.Fleet.{FleetConfig}
use Rattle.fleet_config.specs.Tree.{Tree, is_parent, is_minion, parent_of, IsTree, up_to}
use Rattle.node_core.specs.Records.{jobs, jobs_held, count_in}
use Rattle.node_core.specs.Counts.{raised_counts}
use Rattle.node_core.specs.Node.{NodeState, message_result, taken_in, with_next_record}
use Rattle.node_core.specs.Node.Answer.{Silent, Reply}
use Rattle.tree_world.specs.Packets.{Packet}
use Rattle.tree_world.specs.Network.{Network, node_at, top_jobs, packet}
use Rattle.tree_world.specs.Settle.{after_exchange, node_jobs, known_jobs_at, down_step, down_steps, down_child, down_children, children, down_pass}
use Rattle.tree_laws.specs.Lists.{IsPrefix}
use Rattle.tree_laws.specs.Invariant.{IsMaster, IsPair, IsReadableJob, Holds}
use Rattle.tree_laws.proofs.Lists.{prefix_same, prefix_length, prefix_trans, prefix_at, at_end, all_at, some_at}
use Rattle.tree_laws.proofs.Trees.{IsChild, child, parent_before, parent_test}
use Rattle.tree_laws.proofs.Records.{held_prefix, held_push}
use Rattle.tree_laws.proofs.Steps.{known_raised}
use Rattle.tree_laws.proofs.Chains.{pub_may}
use Rattle.tree_laws.proofs.Calls.{at_same, at_other, taken_pub, taken_have, count_taken}
use Rattle.tree_laws.proofs.Turns.{top_master}
use Rattle.tree_laws.proofs.Ascends.{filter_has, up_to_has}
use Rattle.tree_laws.proofs.Passes.{down_step_holds, down_steps_hold, down_children_hold, down_pass_holds, children_of}

-- A later network: records only came, and no job at the top.
pub record Later (w v : Network) : Type 0 where
  pub grows : (i : ℕ) → IsPrefix (node_at w.nodes i).records (node_at v.nodes i).records
  pub top : top_jobs v ≡ top_jobs w

pub later_same : (w : Network) → Later w w
later_same w = record { grows = λ i. prefix_same (node_at w.nodes i).records; top = refl }

pub later_trans : (u w v : Network) → Later u w → Later w v → Later u v
later_trans u w v a b = record { grows = λ i. prefix_trans _ _ _ (a.grows i) (b.grows i); top = b.top ∙ a.top }

-- what two nodes take, one after the other
pub two_grow : (nodes : List NodeState) (i j : ℕ) (a b : NodeState) → i < length nodes → j < length nodes → (i ≡ j → ⊥)
    → IsPrefix (node_at nodes i).records a.records → b.records ≡ (node_at nodes j).records
    → (k : ℕ) → IsPrefix (node_at nodes k).records (node_at (set (set nodes i a) j b) k).records
two_grow nodes i j a b li lj ne pa pb k = elim (cases_eq k j) [
  | inl e ↦ rw (e, at_same (set nodes i a) j b (rw length-set lj), pb) (prefix_same _)
  | inr nj ↦ rw (at_other (set nodes i a) k j b nj) (elim (cases_eq k i) [
    | inl e ↦ rw (e, at_same nodes i a li) pa
    | inr ni ↦ rw (at_other nodes k i a ni) (prefix_same _)
  ])
]

pub two_keep : (nodes : List NodeState) (i j : ℕ) (a b : NodeState) → j < length nodes → b.records ≡ (node_at nodes j).records
    → (k : ℕ) → (k ≡ i → ⊥) → (node_at (set (set nodes i a) j b) k).records ≡ (node_at nodes k).records
two_keep nodes i j a b lj pb k ni = elim (cases_eq k j) [
  | inl e ↦ rw (e, at_same (set nodes i a) j b (rw length-set lj), pb) refl
  | inr nj ↦ rw (at_other (set nodes i a) k j b nj, at_other nodes k i a ni) refl
]

-- a job went to child c, and its reply came: the child is known to hold more
pub record HasSentDown (p c : ℕ) (w v : Network) : Type 0 where
  pub later : Later w v
  pub held : jobs_held (node_at v.nodes p).records ≡ jobs_held (node_at w.nodes p).records
  pub known : known_jobs_at w p c < known_jobs_at v p c
  pub packets : length v.packets ≡ length w.packets + 2

after_two : (packets : List Packet) (a b : Packet) → slice_get ((packets ++ a ∷ []) ++ b ∷ []) (length packets + 1) ≡ Some b
after_two packets a b = let e : length packets + 1 ≡ length (packets ++ a ∷ []) = sym (length_push packets a) in rw e (at_end (packets ++ a ∷ []) b)

-- what the two deliveries of an exchange make, where neither is stray
pub exchange_is : (f : FleetConfig) (from to : ℕ) (message reply : Message) (w : Network) (a b : NodeState) → to < length w.nodes → from < length w.nodes
    → message_result f.tree to from message (node_at w.nodes to) ≡ record { node = a; answer = Reply reply }
    → node_at (set w.nodes to a) from ≡ node_at w.nodes from
    → message_result f.tree from to reply (node_at w.nodes from) ≡ record { node = b; answer = Silent }
    → after_exchange f from to message w ≡ record { nodes = set (set w.nodes to a) from b; packets = (w.packets ++ packet from to message ∷ []) ++ packet to from reply ∷ [] }
exchange_is f from to message reply w a b lt lf first other second =
    let low : from < length (set w.nodes to a) = rw length-set lf in
    rw (at_end w.packets (packet from to message), lt-ltb to (length w.nodes) lt, first, after_two w.packets (packet from to message) (packet to from reply), lt-ltb from (length (set w.nodes to a)) low, other, second) refl

-- so it is where node p has a job that the child is not known to hold
pub job_sent : (f : FleetConfig) (w : Network) (p c : ℕ) → IsTree f.tree → Holds f.tree w → is_parent f.tree p c ≡ true
    → known_jobs_at w p c < jobs_held (node_at w.nodes p).records → HasSentDown p c w (down_step f p c w)
job_sent f w p c fleet h par l =
    let ch : IsChild f.tree p c = child f.tree p c par in
    let lo : 0 < c = ch.some in
    let up : c < length f.tree = ch.within in
    let e : parent_of f.tree c ≡ p = ch.parent in
    let before : p < c = rw e at (parent_before f.tree c fleet lo) in
    let in' : p < length f.tree = omega arith in
    let size = h.size in
    let master : is_minion f.tree p ≡ false = rw e at (fleet.master c lo up) in
    let gp : IsMaster (top_jobs w) (node_at w.nodes p) = (h.each p in').master master in
    let counted = gp.counted in
    let short = prefix_length _ _ gp.prefix in
    let few = h.few in
    let pair : IsPair f.tree p c (node_at w.nodes p) (node_at w.nodes c) = rw e at (h.pairs c lo up) in
    let count : ℕ = known_jobs_at w p c in
    let js : List Job = jobs (node_at w.nodes p).records in
    let found = some_at js count (omega arith) in
    let job : Job = found.0 in
    let at : slice_get js count ≡ Some job = found.1 in
    let ac : NodeState = node_at w.nodes c in
    let ap' : NodeState = node_at w.nodes p in
    let new : Deed = taken_in f.tree c count job ac in
    let a : NodeState = with_next_record (count == jobs_held ac.records) new ac in
    let n : ℕ = jobs_held a.records in
    let b : NodeState = record ap' { known_jobs = raised_counts ap'.known_jobs c n } in
    let one : count_in new ≡ 1 = count_taken f.tree c count job ac in
    let more : (count < n) × (n ≤ jobs_held ap'.records) × IsPrefix ac.records a.records = elim (eqb_tells count (jobs_held ac.records)) [
      | inl y ↦ rw y.0 (let g : jobs_held (ac.records ++ new ∷ []) ≡ jobs_held ac.records + count_in new = held_push ac.records new in
          let z = y.1 in (omega arith, omega arith, (new ∷ [], refl)))
      | inr y ↦ rw y.0 (let z = y.1 in let k = pair.known_jobs in let x = pair.held in (grind arith, x, prefix_same ac.records))
    ] in
    let fits : n ≤ jobs_held ap'.records = more.1 in
    let v : Network = record { nodes = set (set w.nodes c a) p b; packets = (w.packets ++ packet p c (Pub count job) ∷ []) ++ packet c p (Have n) ∷ [] } in
    let is : after_exchange f p c (Pub count job) w ≡ v = exchange_is f p c (Pub count job) (Have n) w a b (omega arith) (omega arith)
    (taken_pub f.tree c p count job ac par (pub_may f.tree w p c count job fleet h par at (omega arith))
    (all_at IsReadableJob (top_jobs w) count job h.readable (prefix_at _ _ count job gp.prefix at)))
    (at_other w.nodes p c a (λ z. omega arith))
    (taken_have f.tree p c n ap' par fits) in
    let atp : node_at v.nodes p ≡ b = at_same (set w.nodes c a) p b (rw length-set (omega arith)) in
    let grown : (k : ℕ) → IsPrefix (node_at w.nodes k).records (node_at v.nodes k).records =
    two_grow w.nodes c p a b (omega arith) (omega arith) (λ z. omega arith) more.2 refl in
    let kept : (node_at v.nodes 0).records ≡ (node_at w.nodes 0).records = two_keep w.nodes c p a b (omega arith) refl 0 (λ z. omega arith) in
    let top : top_jobs v ≡ top_jobs w = ap jobs kept in
    rw (at, is) (record {
      later = record { grows = grown; top = top };
      held = rw atp refl;
      known = rw (atp, known_raised ap'.known_jobs c n) (let x = more.0 in omega arith);
      packets = let x = length_push w.packets (packet p c (Pub count job)) in let y = length_push (w.packets ++ packet p c (Pub count job) ∷ []) (packet c p (Have n)) in omega arith;
    })

-- a node holds all jobs
abbrev pub IsFull : Network → ℕ → Type 0
IsFull w i = jobs_held (node_at w.nodes i).records ≡ length (top_jobs w)

-- no node holds more jobs than the top
pub held_most : (f : Tree) (w : Network) (i : ℕ) → Holds f w → i < length f → jobs_held (node_at w.nodes i).records ≤ length (top_jobs w)
held_most f w i h l = either (is_minion f i) refl where
  either : (t : Bool) → is_minion f i ≡ t → jobs_held (node_at w.nodes i).records ≤ length (top_jobs w)
  either true e = ((h.each i l).minion e).within
  either false e = let g = (h.each i l).master e in let x = g.counted in let y = prefix_length _ _ g.prefix in omega arith

pub full_later : (f : Tree) (w v : Network) (i : ℕ) → Holds f v → i < length f → Later w v → IsFull w i → IsFull v i
full_later f w v i h l late full =
    let x = held_most f v i h l in
    let y = held_prefix _ _ (late.grows i) in
    let z = ap (λ (js : List Job). length js) late.top in
    omega arith

nothing_down : (f : FleetConfig) (w : Network) (p c : ℕ) → length (jobs (node_at w.nodes p).records) ≤ known_jobs_at w p c → down_step f p c w ≡ w
nothing_down f w p c l = rw (slice_get_past (node_jobs w p) (known_jobs_at w p c) l) refl

-- child c is known to hold all jobs of node p, and two packets were sent for each job that it was not known to hold
pub record HasToldChild (p c : ℕ) (w v : Network) : Type 0 where
  pub later : Later w v
  pub held : jobs_held (node_at v.nodes p).records ≡ jobs_held (node_at w.nodes p).records
  pub known : jobs_held (node_at v.nodes p).records ≤ known_jobs_at v p c
  pub packets : length v.packets + 2 * known_jobs_at w p c ≤ length w.packets + 2 * known_jobs_at v p c

pub child_told : (f : FleetConfig) (p c : ℕ) → IsTree f.tree → is_parent f.tree p c ≡ true → (k : ℕ) (w : Network) → Holds f.tree w
    → jobs_held (node_at w.nodes p).records ≤ known_jobs_at w p c + k → HasToldChild p c w (down_steps f p c k w)
unfolding down_steps
child_told f p c fleet par zero w h l = record { later = later_same w; held = refl; known = omega arith; packets = le_refl _ }
child_told f p c fleet par (suc k) w h l =
    let v : Network = down_step f p c w in
    let hv : Holds f.tree v = down_step_holds f w p c fleet h par in
    elim (cases_lt (known_jobs_at w p c) (jobs_held (node_at w.nodes p).records)) [
      | inl y ↦
          let d : HasSentDown p c w v = job_sent f w p c fleet h par y in
          let held = d.held in
          let known = d.known in
          let packets = d.packets in
          let g : HasToldChild p c v (down_steps f p c k v) = child_told f p c fleet par k v hv (omega arith) in
          let more = g.packets in
          rw (lt-ltb (known_jobs_at w p c) (known_jobs_at v p c) known) (record {
            later = later_trans w v (down_steps f p c k v) d.later g.later;
            held = g.held ∙ d.held;
            known = g.known;
            packets = omega arith;
          })
      | inr y ↦
          let ch : IsChild f.tree p c = child f.tree p c par in
          let before : p < c = rw ch.parent at (parent_before f.tree c fleet ch.some) in
          let up = ch.within in
          let master : is_minion f.tree p ≡ false = rw ch.parent at (fleet.master c ch.some up) in
          let counted = ((h.each p (omega arith)).master master).counted in
          let same : v ≡ w = nothing_down f w p c (omega arith) in
          elim (leb_tells (suc (known_jobs_at w p c)) (known_jobs_at v p c)) [
            | inl z ↦ absurd (let e = ap (λ (u : Network). known_jobs_at u p c) same in let x = z.1 in omega arith)
            | inr z ↦ rw z.0 (rw same (record { later = later_same w; held = refl; known = y; packets = le_refl _ }))
          ]
    ]

-- the child of a node that holds all jobs holds all jobs
pub child_full : (f : FleetConfig) (p c : ℕ) (w : Network) → IsTree f.tree → Holds f.tree w → is_parent f.tree p c ≡ true → IsFull w p → Later w (down_child f p c w) × IsFull (down_child f p c w) c
child_full f p c w fleet h par full =
    let k : ℕ = jobs_held (node_at w.nodes p).records - known_jobs_at w p c in
    let v : Network = down_steps f p c k w in
    let hv : Holds f.tree v = down_steps_hold f p c fleet par k w h in
    let d : HasToldChild p c w v = child_told f p c fleet par k w h (omega arith) in
    let ch : IsChild f.tree p c = child f.tree p c par in
    let pair : IsPair f.tree p c (node_at v.nodes p) (node_at v.nodes c) = rw ch.parent at (hv.pairs c ch.some ch.within) in
    let a = pair.known_jobs in
    let b = pair.held in
    let x = d.known in
    let y = d.held in
    let z = ap (λ (js : List Job). length js) d.later.top in
    (d.later, omega arith)

-- and so do all of its children
pub children_full : (f : FleetConfig) (p : ℕ) → IsTree f.tree → p < length f.tree → (cs : List ℕ) → AllByRecursion (λ c. is_parent f.tree p c ≡ true) cs → (w : Network) → Holds f.tree w → IsFull w p
    → Later w (down_children f p cs w) × AllByRecursion (IsFull (down_children f p cs w)) cs
children_full f p fleet l [] all w h full = (later_same w, tt)
children_full f p fleet l (c ∷ cs) all w h full =
    let v : Network = down_child f p c w in
    let hv : Holds f.tree v = down_steps_hold f p c fleet all.0 _ w h in
    let one : Later w v × IsFull v c = child_full f p c w fleet h all.0 full in
    let rest : Later v (down_children f p cs v) × AllByRecursion (IsFull (down_children f p cs v)) cs = children_full f p fleet l cs all.1 v hv (full_later f.tree w v p hv l one.0 full) in
    let hu : Holds f.tree (down_children f p cs v) = down_children_hold f p fleet cs all.1 v hv in
    (later_trans w v (down_children f p cs v) one.0 rest.0, (full_later f.tree v (down_children f p cs v) c hu (child f.tree p c all.0).within rest.0 one.1, rest.1))

-- what holds of each that a test keeps of the numbers below n
pub kept_of : (P : ℕ → Type 0) (test : ℕ → Bool) (n x : ℕ) → x < n → test x ≡ true → AllByRecursion P (filter test (up_to n)) → P x
kept_of P test n x l t all =
    All-contains P (filter test (up_to n)) x (All-from_recursion P (filter test (up_to n)) all) (filter_has test (up_to n) x (up_to_has n x l) t)

-- after the first k nodes each child of one of them holds all jobs
pub down_all : (f : FleetConfig) → IsTree f.tree → (k : ℕ) → k ≤ length f.tree → (w : Network) → Holds f.tree w
    → Later w (down_pass f k w) × ((c : ℕ) → 0 < c → c < length f.tree → parent_of f.tree c < k → IsFull (down_pass f k w) c)
down_all f fleet zero l w h = (later_same w, λ c lo up z. absurd (omega arith))
down_all f fleet (suc p) l w h =
    let u : Network = down_pass f p w in
    let hu : Holds f.tree u = down_pass_holds f fleet p w h in
    let before : Later w u × ((c : ℕ) → 0 < c → c < length f.tree → parent_of f.tree c < p → IsFull u c) = down_all f fleet p (omega arith) w h in
    let here : IsFull u p = elim (cases_lt 0 p) [
      | inl lo ↦ before.1 p lo l (parent_before f.tree p fleet lo)
      | inr z ↦ let e : 0 ≡ p = omega arith in subst (λ (i : ℕ). IsFull u i) e (((hu.each 0 fleet.some).master (top_master f.tree fleet)).counted)
    ] in
    let v : Network = down_children f p (children f.tree p) u in
    let hv : Holds f.tree v = down_children_hold f p fleet (children f.tree p) (children_of f.tree p) u hu in
    let all : Later u v × AllByRecursion (IsFull v) (children f.tree p) = children_full f p fleet l (children f.tree p) (children_of f.tree p) u hu here in (
      later_trans w u v before.0 all.0,
      λ c lo up z. elim (cases_eq (parent_of f.tree c) p) [
        | inl e ↦ kept_of (IsFull v) (λ d. is_parent f.tree p d) (length f.tree) c up (subst (λ (j : ℕ). is_parent f.tree j c ≡ true) e (parent_test f.tree c lo up)) all.1
        | inr ne ↦ full_later f.tree u v c hv up all.0 (before.1 c lo up (omega arith))
      ],
    )
