-- What the way up of a settle makes whole.
use Rattle.std.proofs.Common.{◌≡◌, ℕ, zero, suc, ◌+◌, ◌-◌, ◌*◌, ◌<◌, ◌≤◌, ◌∙◌, sym, ap, refl, subst, inl, inr, Bool, true, false, max, List, [], ◌∷◌, ◌++◌, length, set, arith, append-nil, le_refl}
use Rattle.std.specs.Prelude.{Some, slice_get, ◌==◌, ◌&&◌}
use Rattle.std.specs.List.{AllByRecursion}
use Rattle.std.proofs.lemmas.List.{length_push, length-set}
use Rattle.std.proofs.lemmas.Bool.{cases_eq, cases_lt, eq-eqb, lt-ltb}
use Rattle.std.proofs.lemmas.Bool.Decides.{eqb_tells, leb_tells}
use Rattle.std.proofs.lemmas.Option.{slice_get_past}
use Rattle.salt_wire.specs.declared.message.Entry.{Entry}
use Rattle.salt_wire.specs.declared.message.Message.TheVariants as msg
use Rattle.salt_wire.specs.declared.deed.Deed.{Deed}
use Rattle.salt_wire.specs.declared.deed.Deed.TheVariants.{Up}
use Rattle.fleet_config.specs.Fleet.{FleetConfig}
use Rattle.fleet_config.specs.Tree.{Tree, id_of, place_of, is_parent, is_minion, parent_of, branch, is_within, IsTree, minions}
use Rattle.node_core.specs.Records.{jobs, jobs_held, log}
use Rattle.node_core.specs.Counts.{known_count, raised_counts}
use Rattle.node_core.specs.Node.{NodeState, with_next_record, is_below}
use Rattle.tree_world.specs.Network.{Network, node_at, packet}
use Rattle.tree_world.specs.Settle.{after_exchange, node_log, known_ups_at, up_step, up_steps, up_minion, up_minions, up_pass}
use Rattle.tree_laws.specs.Lists.{IsPrefix}
use Rattle.tree_laws.specs.Invariant.{Names, IsPair, Holds}
use Rattle.tree_laws.proofs.Lists.{prefix_same, prefix_length, all_imply, all_at, some_at}
use Rattle.tree_laws.proofs.Trees.{IsChild, child, branch_in, parent_before, parent_test, IsBelow, below, within_cases, minion_low}
use Rattle.tree_laws.proofs.Places.{IsMinionIn, here_minion, place_at, id_same}
use Rattle.tree_laws.proofs.Records.{log_prefix, log_up_same, jobs_push}
use Rattle.tree_laws.proofs.Steps.{names_more, known_raised}
use Rattle.tree_laws.proofs.Chains.{up_may, and_true}
use Rattle.tree_laws.proofs.Calls.{at_same, at_other, taken_up, taken_up_have}
use Rattle.tree_laws.proofs.Turns.{minions_in}
use Rattle.tree_laws.proofs.Passes.{up_step_holds, up_steps_hold, up_minions_hold}
use Rattle.tree_laws.proofs.Downs.{Later, later_same, later_trans, two_grow, two_keep, exchange_is, kept_of}

-- a later network in which minions with_next_record nothing
pub record LaterUp (f : Tree) (w v : Network) : Type 0 where
  pub later : Later w v
  pub own : (k : ℕ) → is_minion f k ≡ true → (node_at v.nodes k).records ≡ (node_at w.nodes k).records

pub later_up_same : (f : Tree) (w : Network) → LaterUp f w w
later_up_same f w = record { later = later_same w; own = λ k e. refl }

pub later_up_trans : (f : Tree) (u w v : Network) → LaterUp f u w → LaterUp f w v → LaterUp f u v
later_up_trans f u w v a b = record { later = later_trans u w v a.later b.later; own = λ k e. b.own k e ∙ a.own k e }

-- an entry of minion m went up from node c, and its reply came: the parent is known to hold more
pub record HasSentUp (f : Tree) (c m : ℕ) (w v : Network) : Type 0 where
  pub later : LaterUp f w v
  pub from : (node_at v.nodes c).records ≡ (node_at w.nodes c).records
  pub known : known_ups_at w c m < known_ups_at v c m
  pub packets : length v.packets ≡ length w.packets + 2

two_jobs : (nodes : List NodeState) (i j : ℕ) (a b : NodeState) → i < length nodes → j < length nodes → jobs a.records ≡ jobs (node_at nodes i).records → b.records ≡ (node_at nodes j).records
    → (k : ℕ) → jobs (node_at (set (set nodes i a) j b) k).records ≡ jobs (node_at nodes k).records
two_jobs nodes i j a b li lj ja pb k = elim (cases_eq k j) [
  | inl e ↦ rw (e, at_same (set nodes i a) j b (rw length-set lj), pb) refl
  | inr nj ↦ rw (at_other (set nodes i a) k j b nj) (elim (cases_eq k i) [
    | inl e ↦ rw (e, at_same nodes i a li, ja) refl
    | inr ni ↦ rw (at_other nodes k i a ni) refl
  ])
]

recorded_jobs : (t : Bool) (id : List ℕ) (entry : Entry) (node : NodeState) → jobs (with_next_record t (Up id entry) node).records ≡ jobs node.records
recorded_jobs true id entry node = jobs_push node.records (Up id entry) ∙ append-nil (jobs node.records)
recorded_jobs false id entry node = refl

-- the tests on the minion of an entry
through_child : (f : Tree) (p c m : ℕ) → IsTree f → is_parent f p c ≡ true → IsMinionIn f c m → is_below f p c (id_of f m) ≡ true
through_child f p c m fleet par i =
    rw (place_at f m fleet (minion_low f m i.minion), i.minion) (eq-eqb (branch f p m) c (branch_in f fleet p c m par i.within))

-- so it is where node c has an entry that its parent is not known to hold
pub entry_sent : (f : FleetConfig) (w : Network) (c m : ℕ) → IsTree f.tree → Holds f.tree w → 0 < c → c < length f.tree → IsMinionIn f.tree c m
    → known_ups_at w c m < length (node_log f.tree w c m) → HasSentUp f.tree c m w (up_step f c m w)
entry_sent f w c m fleet h lo up i l =
    let p : ℕ = parent_of f.tree c in
    let id : List ℕ = id_of f.tree m in
    let par : is_parent f.tree p c ≡ true = parent_test f.tree c lo up in
    let before : p < c = parent_before f.tree c fleet lo in
    let size = h.size in
    let master : is_minion f.tree p ≡ false = fleet.master c lo up in
    let pair : IsPair f.tree p c (node_at w.nodes p) (node_at w.nodes c) = h.pairs c lo up in
    let through : branch f.tree p m ≡ c = branch_in f.tree fleet p c m par i.within in
    let count : ℕ = known_ups_at w c m in
    let ac : NodeState = node_at w.nodes c in
    let ap' : NodeState = node_at w.nodes p in
    let runs : ap'.minion ≡ false = (h.each p (omega arith)).runs ∙ master in
    let es : List Entry = log id ac.records in
    let found = some_at es count l in
    let entry : Entry = found.0 in
    let at : slice_get es count ≡ Some entry = found.1 in
    let here : Names (jobs_held ac.records) entry = all_at (Names (jobs_held ac.records)) es count entry ((h.each c up).names id) at in
    let named : Names (jobs_held ap'.records) entry = names_more _ _ pair.held entry here in
    let a : NodeState = with_next_record (count == length (log id ap'.records)) (Up id entry) ap' in
    let n : ℕ = length (log id a.records) in
    let b : NodeState = record ac { known_ups = raised_counts ac.known_ups (place_of f.tree id) n } in
    let least = pair.known_ups m through in
    let most = prefix_length _ _ (pair.logs m through) in
    let more : (count < n) × (n ≤ length es) × IsPrefix ap'.records a.records = elim (eqb_tells count (length (log id ap'.records))) [
      | inl y ↦ rw y.0 (let z = y.1 in
          let g : length (log id (ap'.records ++ Up id entry ∷ [])) ≡ length (log id ap'.records) + 1 = rw (log_up_same id ap'.records id entry (id_same id)) (length_push (log id ap'.records) entry) in
          (omega arith, omega arith, (Up id entry ∷ [], refl)))
      | inr y ↦ rw y.0 (let z = y.1 in (grind arith, most, prefix_same ap'.records))
    ] in
    let fits : n ≤ length es = more.1 in
    let v : Network = record { nodes = set (set w.nodes p a) c b; packets = (w.packets ++ packet c p (msg.Up id count entry) ∷ []) ++ packet p c (msg.UpHave id n) ∷ [] } in
    let is : after_exchange f c p (msg.Up id count entry) w ≡ v = exchange_is f c p (msg.Up id count entry) (msg.UpHave id n) w a b (omega arith) (omega arith)
    (taken_up f.tree p c id count entry ap' par runs (through_child f.tree p c m fleet par i) named (up_may f.tree w c p m count entry fleet h par i.minion i.within at))
    (at_other w.nodes c p a (λ z. omega arith))
    (taken_up_have f.tree c p id n ac par (here_minion f.tree c m fleet i) fits) in
    let atc : node_at v.nodes c ≡ b = at_same (set w.nodes p a) c b (rw length-set (omega arith)) in
    let place : place_of f.tree id ≡ m = place_at f.tree m fleet (minion_low f.tree m i.minion) in
    let rises : known_count b.known_ups m ≡ max (known_count ac.known_ups m) n = rw place (known_raised ac.known_ups m n) in
    rw (at, is) (record {
      later = record {
        later = record {
          grows = two_grow w.nodes p c a b (omega arith) (omega arith) (λ z. omega arith) more.2 refl;
          top = two_jobs w.nodes p c a b (omega arith) (omega arith) (recorded_jobs (count == length (log id ap'.records)) id entry ap') refl 0;
        };
        own = λ k e. two_keep w.nodes p c a b (omega arith) refl k (λ z. let x : is_minion f.tree p ≡ true = subst (λ (j : ℕ). is_minion f.tree j ≡ true) z e in let y = sym master ∙ x in cc);
      };
      from = rw atc refl;
      known = rw atc (let x = more.0 in let y = rises in omega arith);
      packets = let x = length_push w.packets (packet c p (msg.Up id count entry)) in let y = length_push (w.packets ++ packet c p (msg.Up id count entry) ∷ []) (packet p c (msg.UpHave id n)) in omega arith;
    })

nothing_up : (f : FleetConfig) (w : Network) (c m : ℕ) → length (node_log f.tree w c m) ≤ known_ups_at w c m → up_step f c m w ≡ w
nothing_up f w c m l = rw (slice_get_past (node_log f.tree w c m) (known_ups_at w c m) l) refl

-- the parent of node c is known to hold all entries of minion m that c has, and two packets were sent for each that it was not known to
-- hold
pub record HasToldParent (f : Tree) (c m : ℕ) (w v : Network) : Type 0 where
  pub later : LaterUp f w v
  pub from : (node_at v.nodes c).records ≡ (node_at w.nodes c).records
  pub known : length (node_log f v c m) ≤ known_ups_at v c m
  pub packets : length v.packets + 2 * known_ups_at w c m ≤ length w.packets + 2 * known_ups_at v c m

pub parent_told : (f : FleetConfig) (c m : ℕ) → IsTree f.tree → 0 < c → c < length f.tree → IsMinionIn f.tree c m → (k : ℕ) (w : Network) → Holds f.tree w
    → length (node_log f.tree w c m) ≤ known_ups_at w c m + k → HasToldParent f.tree c m w (up_steps f c m k w)
unfolding up_steps
parent_told f c m fleet lo up i zero w h l = record { later = later_up_same f.tree w; from = refl; known = omega arith; packets = le_refl _ }
parent_told f c m fleet lo up i (suc k) w h l =
    let v : Network = up_step f c m w in
    let hv : Holds f.tree v = up_step_holds f w c m fleet h lo up i in
    elim (cases_lt (known_ups_at w c m) (length (node_log f.tree w c m))) [
      | inl y ↦
          let d : HasSentUp f.tree c m w v = entry_sent f w c m fleet h lo up i y in
          let same = ap (λ (rs : List Deed). length (log (id_of f.tree m) rs)) d.from in
          let known = d.known in
          let packets = d.packets in
          let g : HasToldParent f.tree c m v (up_steps f c m k v) = parent_told f c m fleet lo up i k v hv (omega arith) in
          let more = g.packets in
          rw (lt-ltb (known_ups_at w c m) (known_ups_at v c m) known) (record {
            later = later_up_trans f.tree w v (up_steps f c m k v) d.later g.later;
            from = g.from ∙ d.from;
            known = g.known;
            packets = omega arith;
          })
      | inr y ↦
          let same : v ≡ w = nothing_up f w c m y in
          elim (leb_tells (suc (known_ups_at w c m)) (known_ups_at v c m)) [
            | inl z ↦ absurd (let e = ap (λ (u : Network). known_ups_at u c m) same in let x = z.1 in omega arith)
            | inr z ↦ rw z.0 (rw same (record { later = later_up_same f.tree w; from = refl; known = y; packets = le_refl _ }))
          ]
    ]

-- a node has a minion's whole log
abbrev pub IsWhole : Tree → Network → ℕ → ℕ → Type 0
IsWhole f w c m = length (node_log f w m m) ≤ length (node_log f w c m)

pub whole_later : (f : Tree) (w v : Network) (c m : ℕ) → is_minion f m ≡ true → LaterUp f w v → IsWhole f w c m → IsWhole f v c m
whole_later f w v c m e late whole =
    let a = ap (λ (rs : List Deed). length (log (id_of f m) rs)) (late.own m e) in
    let b = prefix_length _ _ (log_prefix (id_of f m) _ _ (late.later.grows c)) in
    omega arith

-- the parent of a node that has a minion's whole log has it too
pub minion_whole : (f : FleetConfig) (c m : ℕ) (w : Network) → IsTree f.tree → Holds f.tree w → 0 < c → c < length f.tree → IsMinionIn f.tree c m → IsWhole f.tree w c m
    → LaterUp f.tree w (up_minion f c m w) × IsWhole f.tree (up_minion f c m w) (parent_of f.tree c) m
minion_whole f c m w fleet h lo up i whole =
    let k : ℕ = length (node_log f.tree w c m) - known_ups_at w c m in
    let v : Network = up_steps f c m k w in
    let hv : Holds f.tree v = up_steps_hold f c m fleet lo up i k w h in
    let d : HasToldParent f.tree c m w v = parent_told f c m fleet lo up i k w h (omega arith) in
    let still : IsWhole f.tree v c m = whole_later f.tree w v c m i.minion d.later whole in
    let through : branch f.tree (parent_of f.tree c) m ≡ c = branch_in f.tree fleet (parent_of f.tree c) c m (parent_test f.tree c lo up) i.within in
    let a = (hv.pairs c lo up).known_ups m through in
    let b = d.known in
    (d.later, omega arith)

pub minions_whole : (f : FleetConfig) (c : ℕ) → IsTree f.tree → 0 < c → c < length f.tree → (ms : List ℕ) → AllByRecursion (IsMinionIn f.tree c) ms → (w : Network) → Holds f.tree w
    → AllByRecursion (IsWhole f.tree w c) ms → LaterUp f.tree w (up_minions f c ms w) × AllByRecursion (IsWhole f.tree (up_minions f c ms w) (parent_of f.tree c)) ms
minions_whole f c fleet lo up [] all w h whole = (later_up_same f.tree w, tt)
minions_whole f c fleet lo up (m ∷ ms) all w h whole =
    let v : Network = up_minion f c m w in
    let hv : Holds f.tree v = up_steps_hold f c m fleet lo up all.0 _ w h in
    let one : LaterUp f.tree w v × IsWhole f.tree v (parent_of f.tree c) m = minion_whole f c m w fleet h lo up all.0 whole.0 in
    let u : Network = up_minions f c ms v in
    let rest : LaterUp f.tree v u × AllByRecursion (IsWhole f.tree u (parent_of f.tree c)) ms = minions_whole f c fleet lo up ms all.1 v hv (whole_all ms all.1 v one.0 whole.1) in
    (later_up_trans f.tree w v u one.0 rest.0, (whole_later f.tree v u (parent_of f.tree c) m all.0.minion rest.0 one.1, rest.1)) where
      whole_all : (ms : List ℕ) → AllByRecursion (IsMinionIn f.tree c) ms → (v : Network) → LaterUp f.tree w v → AllByRecursion (IsWhole f.tree w c) ms → AllByRecursion (IsWhole f.tree v c) ms
      whole_all [] all v late h = tt
      whole_all (x ∷ xs) all v late h = (whole_later f.tree w v c x all.0.minion late h.0, whole_all xs all.1 v late h.1)

-- after the nodes from k on each parent of a node has the whole log of each minion at or below that node
pub up_all : (f : FleetConfig) → IsTree f.tree → (k : ℕ) → k ≤ length f.tree → (w : Network) → Holds f.tree w
    → ((d m : ℕ) → k ≤ d → 0 < d → d < length f.tree → IsMinionIn f.tree d m → IsWhole f.tree w (parent_of f.tree d) m)
    → LaterUp f.tree w (up_pass f k w) × ((d m : ℕ) → 0 < d → d < length f.tree → IsMinionIn f.tree d m → IsWhole f.tree (up_pass f k w) (parent_of f.tree d) m)
up_all f fleet zero l w h done = (later_up_same f.tree w, λ d m lo up i. done d m (omega arith) lo up i)
up_all f fleet (suc c) l w h done = elim (leb_tells 1 c) [
  | inr y ↦ rw y.0 (later_up_same f.tree w, λ d m lo up i. done d m (let z = y.1 in omega arith) lo up i)
  | inl y ↦
      let u : Network = up_minions f c (minions f.tree c) w in
      let hu : Holds f.tree u = up_minions_hold f c fleet y.1 l (minions f.tree c) (minions_in f.tree c) w h in
      let have : AllByRecursion (IsWhole f.tree w c) (minions f.tree c) = all_imply (IsMinionIn f.tree c) (IsWhole f.tree w c) (λ m i. elim (within_cases f.tree c m i.within) [
        | inl e ↦ rw e (le_refl _)
        | inr some ↦
            let d : ℕ = branch f.tree c m in
            let b : IsBelow f.tree c m d = below f.tree c m fleet (minion_low f.tree m i.minion) some in
            let ch : IsChild f.tree c d = child f.tree c d b.child in
            let less = parent_before f.tree d fleet ch.some in
            let e = ch.parent in
            rw ch.parent at (done d m (omega arith) ch.some ch.within (record { minion = i.minion; within = b.within }))
      ]) (minions f.tree c) (minions_in f.tree c) in
      let r : LaterUp f.tree w u × AllByRecursion (IsWhole f.tree u (parent_of f.tree c)) (minions f.tree c) = minions_whole f c fleet y.1 l (minions f.tree c) (minions_in f.tree c) w h have in
      let g = up_all f fleet c (omega arith) u hu (λ d m ld lo up i. elim (cases_eq d c) [
        | inl e ↦ rw e (kept_of (IsWhole f.tree u (parent_of f.tree c)) (λ j. is_minion f.tree j && is_within f.tree c j) (length f.tree) m (minion_low f.tree m i.minion) (and_true (is_minion f.tree m) (is_within f.tree c m) i.minion (rw e at i.within)) r.1)
        | inr ne ↦ whole_later f.tree w u (parent_of f.tree d) m i.minion r.0 (done d m (omega arith) lo up i)
      ]) in
      rw y.0 (later_up_trans f.tree w u (up_pass f c u) r.0 g.0, g.1)
]
