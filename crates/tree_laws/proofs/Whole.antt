-- After a settle each report is whole, and stays so for the jobs that were there.
use Rattle.std.proofs.Common.{◌≡◌, ℕ, zero, suc, ◌+◌, ◌<◌, ◌∙◌, sym, ap, refl, subst, inl, inr, true, List, [], ◌∷◌, ◌++◌, length, take, arith, le_refl}
use Rattle.std.specs.Prelude.{All, Option, None, Some, filter_map}
use Rattle.std.specs.List.{AllByRecursion, cons_option}
use Rattle.std.proofs.lemmas.List.{take_all}
use Rattle.std.proofs.lemmas.List.Elements.{recursion_from_All, All-from_recursion, All-weaker}
use Rattle.salt_wire.specs.declared.message.Job.{Job}
use Rattle.salt_value.specs.declared.outcome.Outcome.{Outcome}
use Rattle.salt_value.specs.declared.outcome.Row.{Row}
use Rattle.salt_wire.specs.declared.message.Entry.{Entry}
use Rattle.exec_functions.specs.declared.holdings.Holdings.{Holdings}
use Rattle.fleet_config.specs.Fleet.{FleetConfig, IsFleet}
use Rattle.fleet_config.specs.Tree.{Tree, id_of, place_of, held_of, parent_of, is_minion, is_within, IsTree, branch, minions}
use Rattle.minion_core.specs.Flat.{flat_records, flat_up, held_by, return_of, row_of}
use Rattle.minion_core.proofs.Own.{return_late, return_none}
use Rattle.node_core.specs.Records.{jobs_held, log}
use Rattle.fleet_turns.specs.declared.turn.Turn.{Turn}
use Rattle.fleet_turns.specs.Turns.{IsTurn}
use Rattle.tree_world.specs.Network.{Network, node_at, top_jobs}
use Rattle.tree_world.specs.Runs.{after_all}
use Rattle.tree_world.specs.Settle.{node_log, after_settle, down_pass, up_pass}
use Rattle.tree_world.specs.Report.{rows_below, by_id}
use Rattle.tree_laws.specs.Lists.{IsPrefix}
use Rattle.tree_laws.specs.Invariant.{Holds}
use Rattle.tree_laws.specs.Laws.{flat_outcome}
use Rattle.tree_laws.specs.Settles.{HasSettled, report_below, flat_report_below}
use Rattle.tree_laws.proofs.Lists.{prefix_full}
use Rattle.tree_laws.proofs.Trees.{IsChild, child, parent_before, IsBelow, below, within_cases, minion_low}
use Rattle.tree_laws.proofs.Places.{IsMinionIn, place_at}
use Rattle.tree_laws.proofs.Records.{log_prefix}
use Rattle.tree_laws.proofs.Chains.{chain, return_prefix, return_acts}
use Rattle.tree_laws.proofs.Turns.{minions_in, top_master}
use Rattle.tree_laws.proofs.Passes.{down_pass_holds, up_pass_holds, settle_step}
use Rattle.tree_laws.proofs.After.{run_holds}
use Rattle.tree_laws.proofs.Downs.{Later, IsFull, full_later, down_all}
use Rattle.tree_laws.proofs.Ups.{LaterUp, IsWhole, up_all}
use Rattle.tree_laws.proofs.Rows.{by_id_all}
use Rattle.tree_laws.proofs.Laws.{acted_law, outcome_law, flat_join}
use Rattle.tree_laws.proofs.Grows.{run_grows, top_grows}

-- where two give the same of each minion, the rows are the same
same_row : (id : List ℕ) (a b : Option Outcome) (xs ys : List Row) → a ≡ b → xs ≡ ys → cons_option (row_of id a) xs ≡ cons_option (row_of id b) ys
same_row id a b xs ys e g = rw (e, g) refl

-- both give the same of minion m
abbrev IsSame : Tree → (List ℕ → Option Outcome) → (List ℕ → Option Outcome) → ℕ → Type 0
IsSame f some more m = some (id_of f m) ≡ more (id_of f m)

same_rows : (f : Tree) (some more : List ℕ → Option Outcome) (ms : List ℕ) → AllByRecursion (IsSame f some more) ms
    → filter_map (λ m. row_of (id_of f m) (some (id_of f m))) ms ≡ filter_map (λ m. row_of (id_of f m) (more (id_of f m))) ms
same_rows f some more [] h = refl
same_rows f some more (m ∷ ms) h =
    same_row (id_of f m) (some (id_of f m)) (more (id_of f m))
    (filter_map (λ m. row_of (id_of f m) (some (id_of f m))) ms) (filter_map (λ m. row_of (id_of f m) (more (id_of f m))) ms) h.0 (same_rows f some more ms h.1)

below_by_id : (f : Tree) (p : ℕ) → All (IsMinionIn f p) (by_id f (minions f p))
below_by_id f p = by_id_all f (IsMinionIn f p) (minions f p) (All-from_recursion (IsMinionIn f p) (minions f p) (minions_in f p))

rows_same : (f : Tree) (p : ℕ) (some more : List ℕ → Option Outcome) → ((m : ℕ) → IsMinionIn f p m → IsSame f some more m) → rows_below f p some ≡ rows_below f p more
rows_same f p some more same =
    same_rows f some more (by_id f (minions f p))
    (recursion_from_All (IsSame f some more) (by_id f (minions f p)) (All-weaker (IsMinionIn f p) (IsSame f some more) same (by_id f (minions f p)) (below_by_id f p)))

-- the flat report finds a minion by its id
at_place : (f : Tree) (all : List Job) (m seq : ℕ) → IsTree f → is_minion f m ≡ true
    → return_of seq (flat_up 0 (id_of f m) (held_of f (place_of f (id_of f m))) all) ≡ flat_outcome f all m seq
at_place f all m seq fleet z = ap (λ i. return_of seq (flat_up 0 (id_of f m) (held_of f i) all)) (place_at f m fleet (minion_low f m z))

-- the report below a node, where it has the flat outcome of each minion
report_whole : (f : Tree) (w : Network) (all : List Job) (p seq : ℕ) → IsTree f
    → ((m : ℕ) → IsMinionIn f p m → return_of seq (node_log f w p m) ≡ flat_outcome f all m seq) → report_below f w p seq ≡ flat_report_below f all p seq
report_whole f w all p seq fleet same =
    rows_same f p (λ id. return_of seq (log id (node_at w.nodes p).records)) (λ id. return_of seq (flat_up 0 id (held_of f (place_of f id)) all))
    (λ m i. same m i ∙ sym (at_place f all m seq fleet i.minion))

full_of : (f : Tree) (u v : Network) → IsTree f → Holds f v → Later u v → ((c : ℕ) → 0 < c → c < length f → parent_of f c < length f → IsFull u c) → (i : ℕ) → i < length f → IsFull v i
full_of f u v fleet hv late all zero l = ((hv.each 0 l).master (top_master f fleet)).counted
full_of f u v fleet hv late all (suc i) l = full_later f u v (suc i) hv l late (all (suc i) (omega arith) l (let x = parent_before f (suc i) fleet (omega arith) in omega arith))

-- the outcome that a node has, where the minion ran all jobs and the node has its whole log
whole_outcome : (f : Tree) (v : Network) (all : List Job) (p m seq : ℕ) → Holds f v → IsMinionIn f p m → top_jobs v ≡ all → jobs_held (node_at v.nodes m).records ≡ length all
    → node_log f v p m ≡ node_log f v m m → return_of seq (node_log f v p m) ≡ flat_outcome f all m seq
whole_outcome f v all p m seq h i top held same =
    let a = acted_law f v m h (minion_low f m i.minion) i.minion in
    let ran : take (jobs_held (node_at v.nodes m).records) (top_jobs v) ≡ all = rw top (take_all (jobs_held (node_at v.nodes m).records) all (omega arith)) in
    ap (return_of seq) same ∙ sym (return_acts seq (node_log f v m m)) ∙ ap (return_of seq) (a.entries ∙ ap (flat_up 0 (id_of f m) (held_of f m)) ran)

-- a settle leaves nothing to be told
pub settle_law : (f : FleetConfig) (w : Network) → IsTree f.tree → Holds f.tree w → HasSettled f.tree (top_jobs w) (after_settle f w)
settle_law f w fleet h =
    let n : ℕ = length f.tree in
    let u : Network = down_pass f n w in
    let hu : Holds f.tree u = down_pass_holds f fleet n w h in
    let v : Network = up_pass f n u in
    let hv : Holds f.tree v = up_pass_holds f fleet n (le_refl _) u hu in
    let d : Later w u × ((c : ℕ) → 0 < c → c < length f.tree → parent_of f.tree c < n → IsFull u c) = down_all f fleet n (le_refl _) w h in
    let g : LaterUp f.tree u v × ((e m : ℕ) → 0 < e → e < length f.tree → IsMinionIn f.tree e m → IsWhole f.tree v (parent_of f.tree e) m) =
    up_all f fleet n (le_refl _) u hu (λ e m l lo up i. absurd (omega arith)) in
    let top : top_jobs v ≡ top_jobs w = g.0.later.top ∙ d.0.top in
    let size = ap (λ (js : List Job). length js) top in
    let full : (i : ℕ) → i < length f.tree → IsFull v i = λ i l. full_of f.tree u v fleet hv g.0.later d.1 i l in
    let logs : (p m : ℕ) → is_minion f.tree m ≡ true → is_within f.tree p m ≡ true → node_log f.tree v p m ≡ node_log f.tree v m m = λ p m z within.
    let um : m < length f.tree = minion_low f.tree m z in
    elim (within_cases f.tree p m within) [
      | inl e ↦ rw e refl
      | inr some ↦
          let b : IsBelow f.tree p m (branch f.tree p m) = below f.tree p m fleet um some in
          let ch : IsChild f.tree p (branch f.tree p m) = child f.tree p (branch f.tree p m) b.child in
          let whole : IsWhole f.tree v p m = subst (λ (j : ℕ). IsWhole f.tree v j m) ch.parent (g.1 (branch f.tree p m) m ch.some ch.within (record { minion = z; within = b.within })) in
          prefix_full _ _ (chain f.tree v fleet hv m p m um (omega arith) within) whole
    ] in
    record {
      stays = top;
      held = λ i l. let x = full i l in omega arith;
      lists = λ i l z. let a = (hv.each i l).master z in let x = a.counted in let y = full i l in prefix_full _ _ a.prefix (omega arith) ∙ top;
      logs = logs;
      reports = λ p seq. report_whole f.tree v (top_jobs w) p seq fleet
          (λ m i. whole_outcome f.tree v (top_jobs w) p m seq hv i top (let x = full m (minion_low f.tree m i.minion) in omega arith) (logs p m i.minion i.within));
    }

-- later jobs bring no return of an earlier one
none_later : (f : Tree) (old new : List Job) (m seq : ℕ) → IsPrefix old new → seq < length old → flat_outcome f old m seq ≡ None → flat_outcome f new m seq ≡ None
none_later f old new m seq p l none =
    let id : List ℕ = id_of f m in
    let held : Holdings = held_of f m in
    let first : List Entry = flat_up 0 id held old in
    let after : Holdings = held_by held (flat_records 0 id held old) in
    let more : List Entry = flat_up (0 + length old) id after p.0 in
    let e : flat_up 0 id held new ≡ first ++ more = ap (λ (js : List Job). flat_up 0 id held js) (sym p.1) ∙ flat_join id held old p.0 in
    rw e (return_none seq first more none ∙ return_late seq (0 + length old) id after p.0 (omega arith))

-- what was whole, and grew to no more than the flat outcome, is whole
join_outcomes : (a b c d : Option Outcome) → a ≡ c → (c ≡ None → d ≡ None)
    → ((o : Outcome) → a ≡ Some o → b ≡ Some o) → ((o : Outcome) → b ≡ Some o → d ≡ Some o) → b ≡ d
join_outcomes (Some o) b c d p none more sound = let e = more o refl in e ∙ sym (sound o e)
join_outcomes None None c d p none more sound = sym (none (sym p))
join_outcomes None (Some o) c d p none more sound = absurd (let e = sound o refl in let g = none (sym p) in cc)

-- From a settle on, the report of each job that stood in the list then is the flat one, at each node.
pub whole_law : (f : FleetConfig) (w : Network) (later : List Turn) (p seq : ℕ) → IsFleet f → Holds f.tree w → AllByRecursion (IsTurn f) later → seq < length (top_jobs w)
    → report_below f.tree (after_all f later (after_settle f w)) p seq ≡ flat_report_below f.tree (top_jobs (after_all f later (after_settle f w))) p seq
whole_law f w later p seq fleet h all l =
    let s : Network = after_settle f w in
    let hs : Holds f.tree s = settle_step f w fleet.tree h in
    let v : Network = after_all f later s in
    let hv : Holds f.tree v = run_holds f later s fleet all hs in
    let g : HasSettled f.tree (top_jobs w) s = settle_law f w fleet.tree h in
    let longer : IsPrefix (top_jobs w) (top_jobs v) = subst (λ (js : List Job). IsPrefix js (top_jobs v)) g.stays (top_grows f later s) in
    report_whole f.tree v (top_jobs v) p seq fleet.tree
    (λ m i.
    let um : m < length f.tree = minion_low f.tree m i.minion in
    let then' : return_of seq (node_log f.tree s p m) ≡ flat_outcome f.tree (top_jobs w) m seq =
    whole_outcome f.tree s (top_jobs w) p m seq hs i g.stays (g.held m um) (g.logs p m i.minion i.within) in
    join_outcomes (return_of seq (node_log f.tree s p m)) (return_of seq (node_log f.tree v p m)) (flat_outcome f.tree (top_jobs w) m seq) (flat_outcome f.tree (top_jobs v) m seq)
    then' (none_later f.tree (top_jobs w) (top_jobs v) m seq longer l)
    (λ o e. return_prefix seq o _ _ (log_prefix (id_of f.tree m) _ _ (run_grows f later s p)) e)
    (λ o e. outcome_law f.tree v p m seq o fleet.tree hv um i.minion i.within e))
