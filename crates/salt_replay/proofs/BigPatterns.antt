-- A script publishes globs of ids alone, so no pattern of it is too big.
use Rattle.std.proofs.Common.{◌≡◌, ℕ, zero, suc, ◌+◌, ◌<◌, ◌∙◌, refl, ap, sym, subst, true, false, Bool, nat_lt, List, [], ◌∷◌, ◌++◌, length, take, drop, get_or, arith, add-one, drop-cons, take-append-drop, if◌then◌else◌}
use Rattle.std.specs.Prelude.{Option, None, Some, Result, Ok, Err, All, slice_get, IfErr, IsErrAnd}
use Rattle.std.specs.List.{AllByRecursion}
use Rattle.std.proofs.lemmas.List.{take_more}
use Rattle.std.proofs.lemmas.List.Elements.{All-from_recursion, All-contains, recursion_from_All}
use Rattle.salt_value.specs.Readers.{◌>>=◌}
use Rattle.salt_value.specs.declared.value.Value.{Value}
use Rattle.target_tree.specs.Nodegroups.{Group}
use Rattle.target_tree.specs.Limits.{most_text_bytes, most_texts}
use Rattle.target_tree.specs.Machine.{machine_all, machine_begun, machine_end, machine_group, machine_tree, tree_of}
use Rattle.target_tree.specs.Targets.{target_words}
use Rattle.target_tree.specs.declared.fault.TargetFault.TheVariants.{TooLong}
use Rattle.target_tree.specs.declared.kind.Kind.{Kind}
use Rattle.target_tree.specs.declared.kind.Kind.TheVariants.{Glob}
use Rattle.target_tree.specs.declared.target.Target.{Target, fold-roll-Target}
use Rattle.target_tree.specs.declared.target.Target.TheOpen.{Target-F}
use Rattle.target_tree.specs.declared.target.Target.TheVariants.{IdGlob, rolls-IdGlob}
use Rattle.target_match.specs.Holds.{patterns, patterns_layer, IsBigAt, NamesBigPattern}
use Rattle.salt_wire.specs.declared.message.Job.{Job}
use Rattle.salt_wire.specs.declared.message.Message.{Message}
use Rattle.salt_wire.specs.declared.message.Message.TheVariants as msg
use Rattle.fleet_config.specs.Fleet.{FleetConfig, IsFleet}
use Rattle.fleet_config.specs.Tree.{is_minion, IsTree}
use Rattle.node_core.specs.Node.{NodeState, RunsBigPattern}
use Rattle.node_core.specs.Publications.{Order, order, order_tree, tree_or_refusal}
use Rattle.fleet_turns.specs.declared.turn.Turn.{Turn}
use Rattle.fleet_turns.specs.declared.turn.Turn.TheVariants as t
use Rattle.tree_world.specs.Network.{Network, node_at, top_jobs, start}
use Rattle.tree_world.specs.Runs.{after}
use Rattle.tree_world.specs.Halts.{MeetsBigPattern, IsStepFault, NeverTooBig}
use Rattle.tree_world.specs.declared.world.StepFault.{StepFault}
use Rattle.tree_world.specs.declared.world.StepFault.TheVariants as step
use Rattle.tree_laws.specs.Invariant.{Fits, IsSent, IsMaster, Holds}
use Rattle.tree_laws.specs.Laws.{HoldsAfterRuns, IsRun, IsPublishedBy, JobsArePublished, network_after}
use Rattle.tree_laws.proofs.Lists.{all_at, prefix_at}
use Rattle.tree_laws.proofs.Trees.{IsChild, child, parent_before}
use Rattle.tree_laws.proofs.Runs.{after_append, all_front}
use Rattle.script_text.specs.Script.{MayStand, IsBuilt}
use Rattle.salt_replay.specs.Replay.{MeetNoBigPattern}
use Rattle.salt_replay.proofs.Runs.{are_turns}

-- the leaf of a glob has no pattern
glob_patterns : (text : List ℕ) → patterns (IdGlob text) ≡ None ∷ []
glob_patterns text = ap patterns (sym (rolls-IdGlob text)) ∙ fold-roll-Target (List (Option (List ℕ))) patterns_layer (Target-F.IdGlob text)

none_big : (leaf : ℕ) → IsBigAt (None ∷ []) leaf → ⊥
none_big zero h = h.big
none_big (suc leaf) h = absurd (let l = h.within in omega arith)

glob_small : (text : List ℕ) (leaf : ℕ) → NamesBigPattern (IdGlob text) leaf → ⊥
glob_small text leaf h = none_big h.0 (subst (λ leaves. IsBigAt leaves h.0) (glob_patterns text) h.2)

-- the tree of a glob is its leaf
glob_tree : (groups : List Group) (o : Order) (tree : Target) → o.kind ≡ Glob → order_tree groups o ≡ Ok tree → IdGlob o.tgt ≡ tree
glob_tree groups o tree k e = by_text o.tgt (subst (λ kind. tree_or_refusal (machine_tree kind groups o.tgt) ≡ Ok tree) k e) where
  by_length : (b : ℕ) (bytes : List ℕ) (long : Bool)
      → tree_or_refusal ((if long then Err TooLong else machine_all (machine_group most_texts groups []) (target_words Glob (b ∷ bytes)) (machine_begun 0 0 0) >>= machine_end) >>= tree_of) ≡ Ok tree
      → IdGlob (b ∷ bytes) ≡ tree
  by_length b bytes true e = absurd cc
  by_length b bytes false e = cc

  by_text : (text : List ℕ) → tree_or_refusal (machine_tree Glob groups text) ≡ Ok tree → IdGlob text ≡ tree
  by_text [] e = absurd cc
  by_text (b ∷ bytes) e = by_length b bytes (nat_lt most_text_bytes (length (b ∷ bytes))) e

-- no pattern of a glob's tree is too big
order_small : (groups : List Group) (o : Order) (tree : Target) (leaf : ℕ) → o.kind ≡ Glob → order_tree groups o ≡ Ok tree → NamesBigPattern tree leaf → ⊥
order_small groups o tree leaf k e h = glob_small o.tgt leaf (subst (λ t. NamesBigPattern t leaf) (sym (glob_tree groups o tree k e)) h)

-- ---- turns that may stand in a script

built_of : (f : FleetConfig) (turn : Turn) → MayStand f turn → IsBuilt turn
built_of f turn h = h.1

glob_of : (moment : ℕ) (kind : Kind) (tgt fun : List ℕ) (args : List Value) → IsBuilt (t.Publish moment kind tgt fun args) → kind ≡ Glob
glob_of moment kind tgt fun args h = h.1

-- a job that stands in a list of jobs that these turns published
job_small : (f : FleetConfig) (turns : List Turn) (jobs : List Job) (seq : ℕ) (job : Job) (leaf : ℕ) → AllByRecursion (MayStand f) turns
    → All (IsPublishedBy f turns) jobs → slice_get jobs seq ≡ Some job → NamesBigPattern job.target leaf → ⊥
job_small f turns jobs seq job leaf stand told at big =
    let p : IsPublishedBy f turns job = all_at (IsPublishedBy f turns) jobs seq job (recursion_from_All (IsPublishedBy f turns) jobs told) at in
    let turn : Turn = t.Publish p.moment p.order.kind p.order.tgt p.order.fun p.order.args in
    let s : MayStand f turn = All-contains (MayStand f) turns turn (All-from_recursion (MayStand f) turns stand) p.turn in
    order_small f.groups p.order job.target leaf (glob_of p.moment p.order.kind p.order.tgt p.order.fun p.order.args (built_of f turn s)) p.tree big

-- the job of a packet stands in the top's list
packet_small : (f : FleetConfig) (turns : List Turn) (w : Network) → IsTree f.tree → AllByRecursion (MayStand f) turns → Holds f.tree w
    → All (IsPublishedBy f turns) (top_jobs w) → (from to leaf : ℕ) (message : Message) (node : NodeState)
    → Fits f.tree from to (node_at w.nodes from) message → RunsBigPattern message node leaf → ⊥
packet_small f turns w fleet stand h told from to leaf (msg.Pub seq job) node fits big =
    let ch : IsChild f.tree from to = child f.tree from to fits.0 in
    let lo : 0 < to = ch.some in
    let up : to < length f.tree = ch.within in
    let before : from < to = rw ch.parent at (parent_before f.tree to fleet lo) in
    let master : is_minion f.tree from ≡ false = rw ch.parent at (fleet.master to lo up) in
    let sender : IsMaster (top_jobs w) (node_at w.nodes from) = (h.each from (omega arith)).master master in
    job_small f turns (top_jobs w) seq job leaf stand told (prefix_at _ _ seq job sender.prefix fits.1) big.1
packet_small f turns w fleet stand h told from to leaf other node fits big = absurd big

turn_small : (f : FleetConfig) (turns : List Turn) (w : Network) (turn : Turn) (leaf : ℕ) → IsTree f.tree → AllByRecursion (MayStand f) turns → Holds f.tree w
    → All (IsPublishedBy f turns) (top_jobs w) → MayStand f turn → MeetsBigPattern f turn w leaf → ⊥
turn_small f turns w (t.Publish moment kind tgt fun args) leaf fleet stand h told mine big =
    order_small f.groups (order kind tgt fun args) big.0 leaf (glob_of moment kind tgt fun args (built_of f (t.Publish moment kind tgt fun args) mine)) big.1 big.2
turn_small f turns w (t.Send from to count) leaf fleet stand h told mine big = absurd big
turn_small f turns w (t.Deliver i) leaf fleet stand h told mine big =
    let s : IsSent f.tree w.nodes big.0 = all_at (IsSent f.tree w.nodes) w.packets i big.0 h.sent big.1 in
    packet_small f turns w fleet stand h told big.0.from big.0.to leaf big.0.message (node_at w.nodes big.0.to) s.fits big.2
turn_small f turns w (t.Report jid) leaf fleet stand h told mine big = absurd big
turn_small f turns w t.Settle leaf fleet stand h told mine big = absurd mine.1
turn_small f turns w (t.Exit jid) leaf fleet stand h told mine big = absurd big
turn_small f turns w t.Jobs leaf fleet stand h told mine big = absurd big
turn_small f turns w t.Summary leaf fleet stand h told mine big = absurd big
turn_small f turns w (t.Data node) leaf fleet stand h told mine big = absurd big
turn_small f turns w (t.Counts node) leaf fleet stand h told mine big = absurd big
turn_small f turns w (t.Packet i) leaf fleet stand h told mine big = absurd big

all_mid : {X : Type 0} (P : X → Type 0) (xs : List X) (x : X) (ys : List X) → AllByRecursion P (xs ++ x ∷ ys) → P x
all_mid P [] x ys h = h.0
all_mid P (z ∷ xs) x ys h = all_mid P xs x ys h.1

pub none_is_big : HoldsAfterRuns (λ f w. Holds f.tree w) → JobsArePublished → (f : FleetConfig) (turns : List Turn) → IsFleet f → AllByRecursion (MayStand f) turns
    → MeetNoBigPattern f turns
none_is_big invariant published f turns fleet stand before later turn leaf e big =
    let all : AllByRecursion (MayStand f) (before ++ turn ∷ later) = subst (λ (ts : List Turn). AllByRecursion (MayStand f) ts) e stand in
    let front : AllByRecursion (MayStand f) before = all_front (MayStand f) before (turn ∷ later) all in
    let run : IsRun f before = record { fleet = fleet; each = are_turns f before front } in
    turn_small f before (network_after f before) turn leaf fleet.tree front (invariant f before run) (published f before run) (all_mid (MayStand f) before turn later all) big

-- ---- one step of a run

fault_small : (f : FleetConfig) (turn : Turn) (w : Network) (fault : StepFault) → ((leaf : ℕ) → MeetsBigPattern f turn w leaf → ⊥)
    → IsStepFault f turn w fault → NeverTooBig fault
fault_small f turn w step.NoMemory none h = tt
fault_small f turn w (step.TooBig leaf) none h = none leaf h
fault_small f turn w step.WriteFault none h = tt

-- the first turns, one more, and the others
split_at : (turns : List Turn) (i : ℕ) (turn : Turn) → i < length turns → turn ≡ get_or turns i turn → turns ≡ take i turns ++ turn ∷ drop (i + 1) turns
split_at turns i turn l e =
    let next : drop i turns ≡ turn ∷ drop (i + 1) turns = drop-cons turns i turn l ∙ rw (add-one, ← e) refl in
    sym (take-append-drop i turns) ∙ ap (λ ts. take i turns ++ ts) next

pub network_step : (f : FleetConfig) (turns : List Turn) (i : ℕ) (turn : Turn) (w : Network) → i < length turns → turn ≡ get_or turns i turn
    → w ≡ network_after f (take i turns) → after f turn w ≡ network_after f (take (i + 1) turns)
network_step f turns i turn w l e same =
    let more : take (i + 1) turns ≡ take i turns ++ turn ∷ [] = take_more turns i turn l ∙ rw (← e) refl in
    rw (same, more) (sym (after_append f (take i turns) (turn ∷ []) (start f)))

-- what went wrong at a turn
pub handed_small : (f : FleetConfig) (turns : List Turn) (i : ℕ) (turn : Turn) (w : Network) (fault : StepFault) (r : Result Unit StepFault)
    → i < length turns → turn ≡ get_or turns i turn → w ≡ network_after f (take i turns) → MeetNoBigPattern f turns
    → IsStepFault f turn w fault → IsErrAnd r (λ x. x ≡ fault) → IfErr r NeverTooBig
handed_small f turns i turn w fault (Ok x) l e same none h is = absurd is
handed_small f turns i turn w fault (Err x) l e same none h is =
    subst NeverTooBig (sym is) (fault_small f turn w fault
    (λ leaf big. none (take i turns) (drop (i + 1) turns) turn leaf (split_at turns i turn l e) (subst (λ v. MeetsBigPattern f turn v leaf) same big)) h)
