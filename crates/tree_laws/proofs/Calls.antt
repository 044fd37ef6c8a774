-- What each message keeps, in the network.
use Rattle.std.proofs.Common.{◌≡◌, ℕ, ◌<◌, ◌≤◌, ◌∙◌, sym, ap, refl, inl, inr, Bool, true, false, List, [], ◌∷◌, ◌++◌, length, set, arith, append-nil, le_refl}
use Rattle.std.specs.Prelude.{Option, None, Some, is_none, slice_get, nat_le, ◌&&◌, ◌||◌, not, bytes_eq}
use Rattle.std.specs.List.{AllByRecursion}
use Rattle.std.proofs.lemmas.List.{get_or-set_same, get_or-set_other, length-set, set-get_or}
use Rattle.std.proofs.lemmas.Bool.{cases_eq, eq-eqb, le-leb}
use Rattle.std.proofs.lemmas.Bool.Decides.{eqb_tells}
use Rattle.std.proofs.lemmas.Option.{slice_get_within}
use Rattle.salt_wire.specs.declared.message.Job.{Job}
use Rattle.salt_wire.specs.declared.message.Entry.{Entry}
use Rattle.salt_wire.specs.declared.deed.Deed.{Deed}
use Rattle.salt_wire.specs.declared.deed.Deed.TheVariants.{Intake, Up}
use Rattle.salt_wire.specs.declared.message.Message.{Message}
use Rattle.salt_wire.specs.declared.message.Message.TheVariants as msg
use Rattle.node_core.specs.declared.faults.Stray.{Stray}
use Rattle.fleet_config.specs.Fleet.{FleetConfig}
use Rattle.fleet_config.specs.Tree.{Tree, id_of, parent_of, is_minion, is_parent, place_of, IsTree, branch}
use Rattle.minion_core.specs.Flat.{is_rising, job_record}
use Rattle.minion_core.proofs.Own.{done_is}
use Rattle.tree_laws.proofs.Done.{count_done}
use Rattle.node_core.specs.Records.{jobs, jobs_held, count_in, log}
use Rattle.node_core.specs.Counts.{raised_counts}
use Rattle.node_core.specs.Node.{NodeState, Answer, with_record, taken_in, after_pub, after_up, after_message, is_neighbour, may_take, is_below, is_here, is_next, runs_next, may_record, names_held, stray_of, unless_stray, message_result}
use Rattle.exec_functions.specs.Limits.{no_holdings}
use Rattle.target_match.specs.Readability.{unread_leaf}
use Rattle.fleet_config.specs.Causes.{first_cause}
use Rattle.node_core.specs.Node.Answer.{IsStray, Silent, Reply}
use Rattle.tree_world.specs.Packets.{Packet}
use Rattle.tree_world.specs.Network.{Network, node_at, with_node_at, with_packets, packet, with_reply, after_receipt}
use Rattle.tree_laws.specs.Lists.{IsPrefix}
use Rattle.tree_laws.specs.Invariant.{Fits, IsSent, Names, IsMaster, IsNode, IsPair, IsReadableJob, Holds}
use Rattle.tree_laws.proofs.Lists.{prefix_same, prefix_next, prefix_at, prefix_length, all_join, all_imply, all_at}
use Rattle.tree_laws.proofs.Trees.{IsChild, child, branch_in, branch_low, parent_before}
use Rattle.tree_laws.proofs.Places.{IsMinionIn, minion_here, id_here, same_id, place_at}
use Rattle.tree_laws.proofs.Chains.{pub_may, up_may, and_true}
use Rattle.tree_laws.proofs.Records.{log_prefix, jobs_prefix, held_prefix, log_intake, log_up_same, log_up_other, jobs_push, held_push}
use Rattle.tree_laws.proofs.Steps.{fits_more, names_more, node_longer, node_known, pair_above_known, pair_below_known, pair_below_more, pair_above_more, raised_within, node_took}

-- the node past the end
abbrev pub blank : NodeState
blank = record { minion = false; records = []; held = no_holdings; known_jobs = []; known_ups = [] }

pub at_same : (nodes : List NodeState) (k : ℕ) (v : NodeState) → k < length nodes → node_at (set nodes k v) k ≡ v
at_same nodes k v l = get_or-set_same nodes k v blank l

pub at_other : (nodes : List NodeState) (j k : ℕ) (v : NodeState) → (j ≡ k → ⊥) → node_at (set nodes k v) j ≡ node_at nodes j
at_other nodes j k v ne = get_or-set_other nodes k j v blank ne

pub at_grows : (nodes : List NodeState) (k : ℕ) (v : NodeState) → k < length nodes → IsPrefix (node_at nodes k).records v.records
    → (i : ℕ) → IsPrefix (node_at nodes i).records (node_at (set nodes k v) i).records
at_grows nodes k v l p i = elim (cases_eq i k) [
  | inl e ↦ rw e (rw (at_same nodes k v l) p)
  | inr ne ↦ rw (at_other nodes i k v ne) (prefix_same (node_at nodes i).records)
]

sent_more : (f : Tree) (nodes : List NodeState) (k : ℕ) (v : NodeState) → k < length nodes → IsPrefix (node_at nodes k).records v.records
    → (p : Packet) → IsSent f nodes p → IsSent f (set nodes k v) p
sent_more f nodes k v l pre p h = record {
  from = h.from;
  to = h.to;
  fits = fits_more f p.from p.to (node_at nodes p.from) (node_at (set nodes k v) p.from) p.message (at_grows nodes k v l pre p.from) h.fits;
}

-- one node changes
pub node_step : (f : Tree) (w : Network) (k : ℕ) (v : NodeState) → IsTree f → Holds f w → k < length f → IsPrefix (node_at w.nodes k).records v.records
    → length (jobs (node_at (set w.nodes k v) 0).records) ≤ 65535
    → is_rising (jobs (node_at (set w.nodes k v) 0).records) ≡ true
    → AllByRecursion IsReadableJob (jobs (node_at (set w.nodes k v) 0).records)
    → IsNode f (jobs (node_at (set w.nodes k v) 0).records) k v
    → (0 < k → IsPair f (parent_of f k) k (node_at w.nodes (parent_of f k)) v)
    → ((c : ℕ) → 0 < c → c < length f → parent_of f c ≡ k → IsPair f k c v (node_at w.nodes c))
    → Holds f (with_node_at w k v)
node_step f w k v fleet h l grows few rising readable node below above =
    let in' : k < length w.nodes = let s = h.size in omega arith in
    record {
      size = rw length-set h.size;
      few = few;
      rising = rising;
      readable = readable;
      each = λ i u. elim (cases_eq i k) [
        | inl e ↦ rw (e, at_same w.nodes k v in') node
        | inr ne ↦ rw (at_other w.nodes i k v ne) (node_longer f (jobs (node_at w.nodes 0).records) _ i (node_at w.nodes i) (jobs_prefix _ _ (at_grows w.nodes k v in' grows 0)) (h.each i u))
      ];
      pairs = λ c lo u. elim (cases_eq c k) [
        | inl e ↦
            let less : parent_of f k < k = parent_before f k fleet (rw e at lo) in
            let ne : parent_of f k ≡ k → ⊥ = λ x. omega arith in
            rw (e, at_same w.nodes k v in', at_other w.nodes (parent_of f k) k v ne) (below (rw e at lo))
        | inr ne ↦ rw (at_other w.nodes c k v ne) (elim (cases_eq (parent_of f c) k) [
          | inl e ↦ rw (e, at_same w.nodes k v in') (above c lo u e)
          | inr nt ↦ rw (at_other w.nodes (parent_of f c) k v nt) (h.pairs c lo u)
        ])
      ];
      sent = all_imply (IsSent f w.nodes) (IsSent f (set w.nodes k v)) (sent_more f w.nodes k v in' grows) w.packets h.sent;
    }

-- the same, where the top's jobs stay
pub node_step_same : (f : Tree) (w : Network) (k : ℕ) (v : NodeState) → IsTree f → Holds f w → k < length f → IsPrefix (node_at w.nodes k).records v.records
    → (k ≡ 0 → jobs v.records ≡ jobs (node_at w.nodes 0).records)
    → IsNode f (jobs (node_at w.nodes 0).records) k v
    → (0 < k → IsPair f (parent_of f k) k (node_at w.nodes (parent_of f k)) v)
    → ((c : ℕ) → 0 < c → c < length f → parent_of f c ≡ k → IsPair f k c v (node_at w.nodes c))
    → Holds f (with_node_at w k v)
node_step_same f w k v fleet h l grows stays node below above =
    let in' : k < length w.nodes = let s = h.size in omega arith in
    let same : jobs (node_at (set w.nodes k v) 0).records ≡ jobs (node_at w.nodes 0).records = elim (cases_eq 0 k) [
      | inl e ↦ rw (← e) (rw (at_same w.nodes 0 v (rw (← e) at in')) (stays (sym e)))
      | inr ne ↦ rw (at_other w.nodes 0 k v ne) refl
    ] in
    node_step f w k v fleet h l grows (rw same h.few) (rw same h.rising) (rw same h.readable) (rw same node) below above

abbrev pub FitsReply : Tree → ℕ → ℕ → NodeState → Answer → Type 0
FitsReply f me to node (IsStray cause) = ⊥
FitsReply f me to node Silent = Unit {0}
FitsReply f me to node (Reply message) = Fits f me to node message

-- node to takes a message of node from
abbrev pub Took : Tree → Network → ℕ → ℕ → Message → Type 0
Took f w from to message =
    let t = message_result f to from message (node_at w.nodes to) in
    Holds f (with_node_at w to t.node) × FitsReply f to from t.node t.answer

pub count_taken : (f : Tree) (i seq : ℕ) (job : Job) (node : NodeState) → count_in (taken_in f i seq job node) ≡ 1
count_taken f i seq job node = either node.minion refl where
  either : (t : Bool) → node.minion ≡ t → count_in (taken_in f i seq job node) ≡ 1
  either true e = rw e (count_done seq (job_record seq job (id_of f i) node.held) (done_is seq job (id_of f i) node.held))
  either false e = rw e refl

unchanged : (f : Tree) (w : Network) (k : ℕ) → Holds f w → Holds f (with_node_at w k (node_at w.nodes k))
unchanged f w k h = rw (set-get_or w.nodes k blank) h

or_true : (a : Bool) → (a || true) ≡ true
or_true true = refl
or_true false = refl

-- parent and child are neighbours
of_child : (f : Tree) (p c : ℕ) → is_parent f p c ≡ true → is_neighbour f p c ≡ true
of_child f p c e = rw e refl

of_parent : (f : Tree) (p c : ℕ) → is_parent f p c ≡ true → is_neighbour f c p ≡ true
of_parent f p c e = rw e (or_true (is_parent f c p))

three_tests : (a b c : Bool) (x y z : Stray) → a ≡ true → b ≡ true → c ≡ true → first_cause ((a, x) ∷ (b, y) ∷ (c, z) ∷ []) ≡ None
three_tests a b c x y z p q r = rw (p, q, r) refl

four_tests : (a b c d : Bool) (x y z u : Stray) → a ≡ true → b ≡ true → c ≡ true → d ≡ true → first_cause ((a, x) ∷ (b, y) ∷ (c, z) ∷ (d, u) ∷ []) ≡ None
four_tests a b c d x y z u p q r s = rw (p, q, r, s) refl

-- a message that passes its tests is taken
by_none : (f : Tree) (me from : ℕ) (message : Message) (node : NodeState) → stray_of f me from message node ≡ None
    → message_result f me from message node ≡ after_message f me from message node
by_none f me from message node e = ap (λ (o : Option Stray). unless_stray o node (after_message f me from message node)) e

pub taken_pub : (f : Tree) (me from seq : ℕ) (job : Job) (node : NodeState) → is_parent f from me ≡ true → may_take seq job node ≡ true → IsReadableJob job
    → message_result f me from (msg.Pub seq job) node ≡ after_pub f me seq job node
taken_pub f me from seq job node p g r =
    by_none f me from (msg.Pub seq job) node (three_tests (is_neighbour f me from) (is_parent f from me && may_take seq job node)
    (not (runs_next seq node) || is_none (unread_leaf job.target)) _ _ _
    (of_parent f from me p) (and_true (is_parent f from me) (may_take seq job node) p g) (rw r (or_true (not (runs_next seq node)))))

took_pub : (f : Tree) (w : Network) (p c seq : ℕ) (job : Job) → IsTree f → Holds f w → Fits f p c (node_at w.nodes p) (msg.Pub seq job) → Took f w p c (msg.Pub seq job)
took_pub f w p c seq job fleet h fits =
    let ch : IsChild f p c = child f p c fits.0 in
    let lo : 0 < c = ch.some in
    let up : c < length f = ch.within in
    let e : parent_of f c ≡ p = ch.parent in
    let before : p < c = rw e at (parent_before f c fleet lo) in
    let master : is_minion f p ≡ false = rw e at (fleet.master c lo up) in
    let gp : IsMaster (jobs (node_at w.nodes 0).records) (node_at w.nodes p) = (h.each p (omega arith)).master master in
    let counted = gp.counted in
    let within : seq < length (jobs (node_at w.nodes p).records) = slice_get_within _ _ _ fits.1 in
    let short = prefix_length _ _ gp.prefix in
    let few = h.few in
    let at : slice_get (jobs (node_at w.nodes 0).records) seq ≡ Some job = prefix_at _ _ seq job gp.prefix fits.1 in
    let a : NodeState = node_at w.nodes c in
    rw (taken_pub f c p seq job a fits.0 (pub_may f w p c seq job fleet h fits.0 fits.1 (omega arith))
    (all_at IsReadableJob (jobs (node_at w.nodes 0).records) seq job h.readable at))
    (elim (eqb_tells seq (jobs_held a.records)) [
      | inr y ↦ rw y.0 (unchanged f w c h, (fits.0, le_refl _))
      | inl y ↦ rw y.0
          (let r : Deed = taken_in f c seq job a in
          let one : count_in r ≡ 1 = count_taken f c seq job a in
          let eq : seq ≡ jobs_held a.records = y.1 in (
            node_step_same f w c (with_record r a) fleet h up (r ∷ [], refl)
                (λ z. absurd (omega arith))
                (node_took f _ c a seq job (h.each c up) eq at)
                (λ z. pair_below_more f (parent_of f c) c (node_at w.nodes (parent_of f c)) a r
                (rw (e, held_push, one) (omega arith)) (h.pairs c lo up))
                (λ d dlo dup de.
                let plain : is_minion f c ≡ false = rw de at (fleet.master d dlo dup) in
                let is : r ≡ Intake job = rw ((h.each c up).runs, plain) refl in
                let pair : IsPair f c d a (node_at w.nodes d) = rw de at (h.pairs d dlo dup) in
                pair_above_more f c d a (node_at w.nodes d) r (λ m. rw is (log_intake m a.records job)) pair),
            (fits.0, le_refl _),
          ))
    ])

pub taken_have : (f : Tree) (me from n : ℕ) (node : NodeState) → is_parent f me from ≡ true → n ≤ jobs_held node.records
    → message_result f me from (msg.Have n) node ≡ record { node = record node { known_jobs = raised_counts node.known_jobs from n }; answer = Silent }
taken_have f me from n node p l =
    by_none f me from (msg.Have n) node (three_tests (is_neighbour f me from) (is_parent f me from) (nat_le n (jobs_held node.records)) _ _ _ (of_child f me from p) p (le-leb n (jobs_held node.records) l))

took_have : (f : Tree) (w : Network) (c p n : ℕ) → IsTree f → Holds f w → Fits f c p (node_at w.nodes c) (msg.Have n) → Took f w c p (msg.Have n)
took_have f w c p n fleet h fits =
    let ch : IsChild f p c = child f p c fits.0 in
    let lo : 0 < c = ch.some in
    let up : c < length f = ch.within in
    let e : parent_of f c ≡ p = ch.parent in
    let before : p < c = rw e at (parent_before f c fleet lo) in
    let in' : p < length f = omega arith in
    let pair : IsPair f p c (node_at w.nodes p) (node_at w.nodes c) = rw e at (h.pairs c lo up) in
    let x = pair.held in
    let y = fits.1 in
    let a : NodeState = node_at w.nodes p in
    rw (taken_have f p c n a fits.0 (omega arith)) (
      node_step_same f w p (record a { known_jobs = raised_counts a.known_jobs c n }) fleet h in' (prefix_same a.records)
          (λ z. rw z refl)
          (node_known f _ p a (record a { known_jobs = raised_counts a.known_jobs c n }) refl refl refl (h.each p in'))
          (λ z. let g = h.pairs p z in' in record { held = g.held; known_jobs = g.known_jobs; logs = g.logs; known_ups = g.known_ups })
          (λ d dlo dup de.
          let g : IsPair f p d a (node_at w.nodes d) = rw de at (h.pairs d dlo dup) in
          pair_above_known f p d a (node_at w.nodes d) (raised_counts a.known_jobs c n) (raised_within a.known_jobs c n d _ g.known_jobs (λ s. rw s fits.1)) g),
      tt,
    )

pub taken_up : (f : Tree) (me from : ℕ) (id : List ℕ) (n : ℕ) (entry : Entry) (node : NodeState) → is_parent f me from ≡ true → node.minion ≡ false → is_below f me from id ≡ true
    → names_held (jobs_held node.records) entry ≡ true → may_record n id entry node ≡ true → message_result f me from (msg.Up id n entry) node ≡ after_up id n entry node
taken_up f me from id n entry node p r b h g =
    by_none f me from (msg.Up id n entry) node (four_tests (is_neighbour f me from)
    (is_parent f me from && not node.minion && (not (is_below f me from id) || may_record n id entry node))
    (is_below f me from id) (not (is_next n id node) || names_held (jobs_held node.records) entry) _ _ _ _
    (of_child f me from p)
    (and_three (is_parent f me from) (not node.minion) (not (is_below f me from id) || may_record n id entry node) p (ap not r) (or_right (not (is_below f me from id)) (may_record n id entry node) g))
    b
    (or_right (not (is_next n id node)) (names_held (jobs_held node.records) entry) h)) where
      or_right : (a b : Bool) → b ≡ true → (a || b) ≡ true
      or_right a b e = rw e (or_true a)

      and_three : (a b c : Bool) → a ≡ true → b ≡ true → c ≡ true → (a && b && c) ≡ true
      and_three a b c p q r = rw (p, q, r) refl

node_up : (f : Tree) (top : List Job) (i : ℕ) (a : NodeState) (id : List ℕ) (entry : Entry) → is_minion f i ≡ false → Names (jobs_held a.records) entry
    → IsNode f top i a → IsNode f top i (with_record (Up id entry) a)
node_up f top i a id entry z named h =
    let js : jobs (a.records ++ Up id entry ∷ []) ≡ jobs a.records = jobs_push a.records (Up id entry) ∙ append-nil (jobs a.records) in
    let hs : jobs_held (a.records ++ Up id entry ∷ []) ≡ jobs_held a.records = held_push a.records (Up id entry) ∙ omega arith in
    record {
      runs = h.runs;
      master = λ y. let g = h.master y in record { counted = rw (js, hs) g.counted; prefix = rw js g.prefix };
      minion = λ y. absurd (let x = sym z ∙ y in cc);
      names = λ j. rw hs (go j (bytes_eq id j) refl);
    } where
      go : (j : List ℕ) (t : Bool) → bytes_eq id j ≡ t → AllByRecursion (Names (jobs_held a.records)) (log j (a.records ++ Up id entry ∷ []))
      go j true y = rw (log_up_same j a.records id entry y) (all_join (Names (jobs_held a.records)) (log j a.records) (entry ∷ []) (h.names j) (named, tt))
      go j false y = rw (log_up_other j a.records id entry y) (h.names j)

pair_up : (f : Tree) (p d : ℕ) (a below : NodeState) (id : List ℕ) (entry : Entry)
    → ((j : ℕ) → id ≡ id_of f j → branch f p j ≡ d → slice_get (log id below.records) (length (log id a.records)) ≡ Some entry)
    → IsPair f p d a below → IsPair f p d (with_record (Up id entry) a) below
pair_up f p d a below id entry next h =
    let grows : IsPrefix a.records (a.records ++ Up id entry ∷ []) = (Up id entry ∷ [], refl) in
    record {
      held = let e = held_prefix _ _ grows in let x = h.held in omega arith;
      known_jobs = h.known_jobs;
      logs = λ j e. go j e (bytes_eq id (id_of f j)) refl;
      known_ups = λ j e. let l = prefix_length _ _ (log_prefix (id_of f j) _ _ grows) in let x = h.known_ups j e in omega arith;
    } where
      go : (j : ℕ) → branch f p j ≡ d → (t : Bool) → bytes_eq id (id_of f j) ≡ t → IsPrefix (log (id_of f j) (a.records ++ Up id entry ∷ [])) (log (id_of f j) below.records)
      go j e true y =
          let s : id ≡ id_of f j = same_id id (id_of f j) y in
          rw (log_up_same (id_of f j) a.records id entry y) (prefix_next _ _ entry (h.logs j e) (rw s at (next j s e)))
      go j e false y = rw (log_up_other (id_of f j) a.records id entry y) (h.logs j e)

took_up : (f : Tree) (w : Network) (c p : ℕ) (id : List ℕ) (n : ℕ) (entry : Entry) → IsTree f → Holds f w → Fits f c p (node_at w.nodes c) (msg.Up id n entry) → Took f w c p (msg.Up id n entry)
took_up f w c p id n entry fleet h fits =
    let ch : IsChild f p c = child f p c fits.0 in
    let lo : 0 < c = ch.some in
    let up : c < length f = ch.within in
    let e : parent_of f c ≡ p = ch.parent in
    let before : p < c = rw e at (parent_before f c fleet lo) in
    let in' : p < length f = omega arith in
    let master : is_minion f p ≡ false = rw e at (fleet.master c lo up) in
    let pair : IsPair f p c (node_at w.nodes p) (node_at w.nodes c) = rw e at (h.pairs c lo up) in
    let m : ℕ = place_of f id in
    let here : IsMinionIn f c m = minion_here f c id fits.1 in
    let is : id_of f m ≡ id = id_here f c id fits.1 in
    let through : branch f p m ≡ c = branch_in f fleet p c m fits.0 here.within in
    let under : is_below f p c id ≡ true = rw here.minion (eq-eqb (branch f p m) c through) in
    let a : NodeState = node_at w.nodes p in
    let first : Names (jobs_held (node_at w.nodes c).records) entry = all_at (Names (jobs_held (node_at w.nodes c).records)) (log id (node_at w.nodes c).records) n entry ((h.each c up).names id) fits.2 in
    let named : Names (jobs_held a.records) entry = names_more _ _ pair.held entry first in
    let at : slice_get (log (id_of f m) (node_at w.nodes c).records) n ≡ Some entry = rw is fits.2 in
    let may : may_record n id entry a ≡ true = rw is at (up_may f w c p m n entry fleet h fits.0 here.minion here.within at) in
    rw (taken_up f p c id n entry a fits.0 ((h.each p in').runs ∙ master) under named may)
    (elim (eqb_tells n (length (log id a.records))) [
      | inr y ↦ rw y.0 (unchanged f w p h, (fits.0, fits.1, le_refl _))
      | inl y ↦ rw y.0 (
        node_step_same f w p (with_record (Up id entry) a) fleet h in' (Up id entry ∷ [], refl)
            (λ z. jobs_push a.records (Up id entry) ∙ append-nil (jobs a.records) ∙ rw z refl)
            (node_up f _ p a id entry master named (h.each p in'))
            (λ z. pair_below_more f (parent_of f p) p (node_at w.nodes (parent_of f p)) a (Up id entry)
            (let g = (h.pairs p z in').held in rw held_push (omega arith)) (h.pairs p z in'))
            (λ d dlo dup de.
            let g : IsPair f p d a (node_at w.nodes d) = rw de at (h.pairs d dlo dup) in
            pair_up f p d a (node_at w.nodes d) id entry
            (λ j i s.
            let jup : j < length f = branch_low f p j fleet (omega arith) (omega arith) in
            let there : m ≡ j = ap (place_of f) i ∙ place_at f j fleet jup in
            let same : d ≡ c = sym s ∙ ap (branch f p) (sym there) ∙ through in
            rw same (rw y.1 at fits.2)) g),
        (fits.0, fits.1, le_refl _),
      )
    ])

pub taken_up_have : (f : Tree) (me from : ℕ) (id : List ℕ) (n : ℕ) (node : NodeState) → is_parent f from me ≡ true → is_here f me id ≡ true
    → n ≤ length (log id node.records)
    → message_result f me from (msg.UpHave id n) node ≡ record { node = record node { known_ups = raised_counts node.known_ups (place_of f id) n }; answer = Silent }
taken_up_have f me from id n node p b l =
    by_none f me from (msg.UpHave id n) node (four_tests (is_neighbour f me from) (is_parent f from me) (is_here f me id) (nat_le n (length (log id node.records))) _ _ _ _
    (of_parent f from me p) p b (le-leb n (length (log id node.records)) l))

took_up_have : (f : Tree) (w : Network) (p c : ℕ) (id : List ℕ) (n : ℕ) → IsTree f → Holds f w → Fits f p c (node_at w.nodes p) (msg.UpHave id n) → Took f w p c (msg.UpHave id n)
took_up_have f w p c id n fleet h fits =
    let ch : IsChild f p c = child f p c fits.0 in
    let lo : 0 < c = ch.some in
    let up : c < length f = ch.within in
    let e : parent_of f c ≡ p = ch.parent in
    let pair : IsPair f p c (node_at w.nodes p) (node_at w.nodes c) = rw e at (h.pairs c lo up) in
    let m : ℕ = place_of f id in
    let here : IsMinionIn f c m = minion_here f c id fits.1 in
    let is : id_of f m ≡ id = id_here f c id fits.1 in
    let through : branch f p m ≡ c = branch_in f fleet p c m fits.0 here.within in
    let longer : length (log id (node_at w.nodes p).records) ≤ length (log id (node_at w.nodes c).records) = rw is at (prefix_length _ _ (pair.logs m through)) in
    let y = fits.2 in
    let a : NodeState = node_at w.nodes c in
    rw (taken_up_have f c p id n a fits.0 fits.1 (omega arith)) (
      node_step_same f w c (record a { known_ups = raised_counts a.known_ups m n }) fleet h up (prefix_same a.records)
          (λ z. rw z refl)
          (node_known f _ c a (record a { known_ups = raised_counts a.known_ups m n }) refl refl refl (h.each c up))
          (λ z. rw e (pair_below_known f p c (node_at w.nodes p) a (raised_counts a.known_ups m n)
          (λ j s. raised_within a.known_ups m n j _ (pair.known_ups j s) (λ t. rw (t, is) fits.2)) pair))
          (λ d dlo dup de.
          let g : IsPair f c d a (node_at w.nodes d) = rw de at (h.pairs d dlo dup) in
          record { held = g.held; known_jobs = g.known_jobs; logs = g.logs; known_ups = g.known_ups }),
      tt,
    )

pub took : (f : Tree) (w : Network) (from to : ℕ) (message : Message) → IsTree f → Holds f w → Fits f from to (node_at w.nodes from) message → Took f w from to message
took f w from to (msg.Pub seq job) fleet h fits = took_pub f w from to seq job fleet h fits
took f w from to (msg.Have n) fleet h fits = took_have f w from to n fleet h fits
took f w from to (msg.Up id n entry) fleet h fits = took_up f w from to id n entry fleet h fits
took f w from to (msg.UpHave id n) fleet h fits = took_up_have f w from to id n fleet h fits
took f w from to other fleet h fits = absurd fits

pub packets_step : (f : Tree) (w : Network) (new : List Packet) → Holds f w → AllByRecursion (IsSent f w.nodes) new → Holds f (with_packets w new)
packets_step f w new h all = record { size = h.size; few = h.few; rising = h.rising; readable = h.readable; each = h.each; pairs = h.pairs; sent = all_join (IsSent f w.nodes) w.packets new h.sent all }

reply_step : (f : Tree) (w : Network) (p : Packet) (answer : Answer) → Holds f w → p.to < length f → p.from < length f
    → FitsReply f p.to p.from (node_at w.nodes p.to) answer → Holds f (record w { packets = with_reply p answer w.packets })
reply_step f w p (IsStray cause) h to from g = absurd g
reply_step f w p Silent h to from g = h
reply_step f w p (Reply message) h to from g = packets_step f w (packet p.to p.from message ∷ []) h (record { from = to; to = from; fits = g }, tt)

pub received_step : (f : FleetConfig) (w : Network) (p : Packet) → IsTree f.tree → Holds f.tree w → IsSent f.tree w.nodes p → Holds f.tree (after_receipt f w p)
received_step f w p fleet h s =
    let t = message_result f.tree p.to p.from p.message (node_at w.nodes p.to) in
    let g : Took f.tree w p.from p.to p.message = took f.tree w p.from p.to p.message fleet h s.fits in
    let in' : p.to < length w.nodes = let z = h.size in let y = s.to in omega arith in
    reply_step f.tree (with_node_at w p.to t.node) p t.answer g.0 s.to s.from (rw (at_same w.nodes p.to t.node in') g.1)
