-- Which jobs are held after a message, and how an exchange stops.
use Rattle.std.proofs.Common.{◌≡◌, ℕ, zero, suc, ◌+◌, ◌<◌, ◌∙◌, sym, refl, subst, inl, inr, Bool, true, false, List, [], ◌∷◌, ◌++◌, length, arith, append-nil, set}
use Rattle.std.specs.Prelude.{⊤, Option, None, Some, Result, Ok, Err, IfErr, slice_get, nat_lt, ◌==◌, if◌then◌else◌}
use Rattle.std.proofs.lemmas.List.{get_or-set_same, get_or-set_other, length_push}
use Rattle.std.proofs.lemmas.Bool.{cases_eq, ltb-true}
use Rattle.std.proofs.lemmas.Option.{same_Some, slice_get_past}
use Rattle.std.proofs.lemmas.Grind.{flat_map-append}
use Rattle.salt_wire.specs.declared.message.Job.{Job}
use Rattle.salt_wire.specs.declared.message.Entry.{Entry}
use Rattle.salt_wire.specs.declared.message.Message.{Message}
use Rattle.salt_wire.specs.declared.message.Message.TheVariants as m
use Rattle.salt_wire.specs.declared.deed.Deed.{Deed}
use Rattle.salt_wire.specs.declared.deed.Deed.TheVariants.{Intake, Up, Done}
use Rattle.exec_functions.specs.Limits.{no_holdings}
use Rattle.minion_core.specs.Flat.{job_record}
use Rattle.minion_core.proofs.Own.{done_is}
use Rattle.fleet_config.specs.Fleet.{FleetConfig}
use Rattle.fleet_config.specs.Tree.{Tree, id_of}
use Rattle.node_core.specs.declared.faults.Stray.{Stray}
use Rattle.node_core.specs.Records.{jobs, jobs_in, jobs_held, log}
use Rattle.node_core.specs.Node.{NodeState, Answer, MessageResult, RunsBigPattern, job_deed, with_next_record, after_message, stray_of, unless_stray, message_result}
use Rattle.node_core.specs.Node.Answer.{IsStray, Silent, Reply}
use Rattle.fleet_turns.specs.declared.turn.Turn.TheVariants.{Deliver, Settle}
use Rattle.tree_world.specs.declared.world.Halt.{Halt}
use Rattle.tree_world.specs.declared.world.Halt.TheVariants as halt
use Rattle.tree_world.specs.Packets.{Packet}
use Rattle.tree_world.specs.Network.{Network, node_at, packet, with_packets, with_reply, reception, after_receipt, after_delivery}
use Rattle.tree_world.specs.Settle.{after_exchange, node_jobs}
use Rattle.tree_world.specs.Halts.{IsHalt, IsSettleHalt, IsExchangeHalt, IsWantOfMemory}
use Rattle.tree_world.specs.Steps.{BringsNoJob}

-- ---- the last element

pub at_end : {X : Type 0} (xs : List X) (y : X) → slice_get (xs ++ y ∷ []) (length xs) ≡ Some y
at_end [] y = refl
at_end (x ∷ xs) y = at_end xs y

past_end : {X : Type 0} (xs : List X) (x : X) → slice_get xs (length xs) ≡ Some x → ⊥
past_end xs x e = absurd (let n = slice_get_past xs (length xs) (omega arith) in cc)

-- ---- what holds of each job that a node holds

abbrev pub OnlyJobs : (Job → Type 0) → List Job → Type 0
OnlyJobs P js = (seq : ℕ) (job : Job) → slice_get js seq ≡ Some job → P job

abbrev pub AllJobs : (Job → Type 0) → Network → Type 0
AllJobs P w = (i : ℕ) → OnlyJobs P (node_jobs w i)

-- a message carries no other job
abbrev pub Carries : (Job → Type 0) → Message → Type 0
Carries P (m.Pub seq job) = P job
Carries P other = ⊤

-- a message carries no job
abbrev pub IsNoJob : Message → Type 0
IsNoJob (m.Pub seq job) = ⊥
IsNoJob other = ⊤

-- the node past the end
abbrev blank : NodeState
blank = record { minion = false; records = []; held = no_holdings; known_jobs = []; known_ups = [] }

module _ (P : Job → Type 0) where
  only_more : (js : List Job) (job : Job) → OnlyJobs P js → P job → OnlyJobs P (js ++ job ∷ [])
  only_more [] job h p zero x e = subst P (same_Some job x e) p
  only_more [] job h p (suc k) x e = absurd cc
  only_more (y ∷ js) job h p zero x e = h zero x e
  only_more (y ∷ js) job h p (suc k) x e = only_more js job (λ n z g. h (suc n) z g) p k x e

  same_jobs : (js ks : List Job) → ks ≡ js → OnlyJobs P js → OnlyJobs P ks
  same_jobs js ks e h = subst (OnlyJobs P) (sym e) h

  -- a node with the record of a job more
  ran : (rs : List Deed) (seq : ℕ) (job : Job) (id : List ℕ) (node : NodeState) → OnlyJobs P (jobs rs) → OnlyJobs P (jobs (rs ++ job_record seq job id node.held ∷ []))
  ran rs seq job id node h =
      let done = done_is seq job id node.held in
      subst (λ (d : Deed). OnlyJobs P (jobs (rs ++ d ∷ []))) (sym done.is)
      (same_jobs (jobs rs) (jobs (rs ++ Done seq done.changed done.entries ∷ [])) (flat_map-append jobs_in rs (Done seq done.changed done.entries ∷ []) ∙ append-nil _) h)

  took_in : (rs : List Deed) (job : Job) → OnlyJobs P (jobs rs) → P job → OnlyJobs P (jobs (rs ++ Intake job ∷ []))
  took_in rs job h p = same_jobs (jobs rs ++ job ∷ []) (jobs (rs ++ Intake job ∷ [])) (flat_map-append jobs_in rs (Intake job ∷ [])) (only_more (jobs rs) job h p)

  came_up : (rs : List Deed) (id : List ℕ) (entry : Entry) → OnlyJobs P (jobs rs) → OnlyJobs P (jobs (rs ++ Up id entry ∷ []))
  came_up rs id entry h = same_jobs (jobs rs) (jobs (rs ++ Up id entry ∷ [])) (flat_map-append jobs_in rs (Up id entry ∷ []) ∙ append-nil _) h

  by_minion : (t : Bool) (seq : ℕ) (job : Job) (id : List ℕ) (node : NodeState) → OnlyJobs P (jobs node.records) → P job
      → OnlyJobs P (jobs (node.records ++ (if t then job_record seq job id node.held else Intake job) ∷ []))
  by_minion true seq job id node h p = ran node.records seq job id node h
  by_minion false seq job id node h p = took_in node.records job h p

  job_next : (t : Bool) (seq : ℕ) (job : Job) (id : List ℕ) (node : NodeState) → OnlyJobs P (jobs node.records) → P job
      → OnlyJobs P (jobs (with_next_record t (job_deed seq job id node) node).records)
  job_next true seq job id node h p = by_minion node.minion seq job id node h p
  job_next false seq job id node h p = h

  up_next : (t : Bool) (id : List ℕ) (entry : Entry) (node : NodeState) → OnlyJobs P (jobs node.records)
      → OnlyJobs P (jobs (with_next_record t (Up id entry) node).records)
  up_next true id entry node h = came_up node.records id entry h
  up_next false id entry node h = h

  unless : (o : Option Stray) (node : NodeState) (done : MessageResult) → OnlyJobs P (jobs node.records) → OnlyJobs P (jobs done.node.records)
      → OnlyJobs P (jobs (unless_stray o node done).node.records)
  unless None node done h g = g
  unless (Some cause) node done h g = h

  -- a node after a message
  after_one : (t : Tree) (me from : ℕ) (message : Message) (node : NodeState) → Carries P message → OnlyJobs P (jobs node.records)
      → OnlyJobs P (jobs (after_message t me from message node).node.records)
  after_one t me from (m.Pub seq job) node c h = job_next (seq == jobs_held node.records) seq job (id_of t me) node h c
  after_one t me from (m.Have n) node c h = h
  after_one t me from (m.Up id n entry) node c h = up_next (n == length (log id node.records)) id entry node h
  after_one t me from (m.UpHave id n) node c h = h
  after_one t me from other node c h = h

  result_only : (t : Tree) (me from : ℕ) (message : Message) (node : NodeState) → Carries P message → OnlyJobs P (jobs node.records)
      → OnlyJobs P (jobs (message_result t me from message node).node.records)
  result_only t me from message node c h =
      unless (stray_of t me from message node) node (after_message t me from message node) h (after_one t me from message node c h)

  -- the network after a message
  set_only : (nodes : List NodeState) (k : ℕ) (v : NodeState) → k < length nodes → ((i : ℕ) → OnlyJobs P (jobs (node_at nodes i).records)) → OnlyJobs P (jobs v.records)
      → (i : ℕ) → OnlyJobs P (jobs (node_at (set nodes k v) i).records)
  set_only nodes k v l h g i = elim (cases_eq i k) [
    | inl e ↦ subst (λ (n : ℕ). OnlyJobs P (jobs (node_at (set nodes k v) n).records)) (sym e)
        (subst (λ (a : NodeState). OnlyJobs P (jobs a.records)) (sym (get_or-set_same nodes k v blank l)) g)
    | inr ne ↦ subst (λ (a : NodeState). OnlyJobs P (jobs a.records)) (sym (get_or-set_other nodes k i v blank ne)) (h i)
  ]

  by_place : (f : FleetConfig) (w : Network) (p : Packet) (t : Bool) → nat_lt p.to (length w.nodes) ≡ t → Carries P p.message → AllJobs P w
      → AllJobs P (if t then after_receipt f w p else w)
  by_place f w p true e c h =
      set_only w.nodes p.to (reception f w.nodes p).node (ltb-true p.to (length w.nodes) e) h
      (result_only f.tree p.to p.from p.message (node_at w.nodes p.to) c (h p.to))
  by_place f w p false e c h = h

  delivered_only : (f : FleetConfig) (w : Network) (o : Option Packet) → ((p : Packet) → o ≡ Some p → Carries P p.message) → AllJobs P w → AllJobs P (after_delivery f w o)
  delivered_only f w None c h = h
  delivered_only f w (Some p) c h = by_place f w p (nat_lt p.to (length w.nodes)) refl (c p refl) h

-- ---- a reply carries no job

abbrev IsQuiet : Answer → Type 0
IsQuiet (IsStray cause) = ⊤
IsQuiet Silent = ⊤
IsQuiet (Reply message) = IsNoJob message

quiet_unless : (o : Option Stray) (node : NodeState) (done : MessageResult) → IsQuiet done.answer → IsQuiet (unless_stray o node done).answer
quiet_unless None node done h = h
quiet_unless (Some cause) node done h = tt

quiet_one : (t : Tree) (me from : ℕ) (message : Message) (node : NodeState) → IsQuiet (after_message t me from message node).answer
quiet_one t me from (m.Pub seq job) node = tt
quiet_one t me from (m.Have n) node = tt
quiet_one t me from (m.Up id n entry) node = tt
quiet_one t me from (m.UpHave id n) node = tt
quiet_one t me from other node = tt

quiet_result : (t : Tree) (me from : ℕ) (message : Message) (node : NodeState) → IsQuiet (message_result t me from message node).answer
quiet_result t me from message node = quiet_unless (stray_of t me from message node) node (after_message t me from message node) (quiet_one t me from message node)

quiet_reply : (p : Packet) (answer : Answer) (packets : List Packet) (q : Packet) → IsQuiet answer → slice_get (with_reply p answer packets) (length packets) ≡ Some q → IsNoJob q.message
quiet_reply p (IsStray cause) packets q h e = absurd (past_end packets q e)
quiet_reply p Silent packets q h e = absurd (past_end packets q e)
quiet_reply p (Reply message) packets q h e =
    let is : packet p.to p.from message ≡ q = same_Some _ _ (sym (at_end packets (packet p.to p.from message)) ∙ e) in
    subst (λ (x : Packet). IsNoJob x.message) is h

quiet_place : (f : FleetConfig) (w : Network) (p q : Packet) (t : Bool) → slice_get (if t then after_receipt f w p else w).packets (length w.packets) ≡ Some q → IsNoJob q.message
quiet_place f w p q true e = quiet_reply p (reception f w.nodes p).answer w.packets q (quiet_result f.tree p.to p.from p.message (node_at w.nodes p.to)) e
quiet_place f w p q false e = absurd (past_end w.packets q e)

no_job_carries : (P : Job → Type 0) (message : Message) → IsNoJob message → Carries P message
no_job_carries P (m.Pub seq job) h = absurd h
no_job_carries P other h = tt

-- ---- an exchange

module _ (f : FleetConfig) (from to : ℕ) (message : Message) (w : Network) where
  abbrev sent : Network
  sent = with_packets w (packet from to message ∷ [])

  abbrev first : Option Packet
  first = slice_get sent.packets (length w.packets)

  abbrev taken : Network
  taken = after_delivery f sent first

  -- the second packet is a reply, if there is one
  second_quiet : (q : Packet) → slice_get taken.packets (length w.packets + 1) ≡ Some q → IsNoJob q.message
  second_quiet q e =
      let p : Packet = packet from to message in
      let of_first : slice_get (after_delivery f sent (Some p)).packets (length w.packets + 1) ≡ Some q =
      subst (λ (o : Option Packet). slice_get (after_delivery f sent o).packets (length w.packets + 1) ≡ Some q) (at_end w.packets p) e in
      let at_last : slice_get (after_delivery f sent (Some p)).packets (length sent.packets) ≡ Some q =
      subst (λ (n : ℕ). slice_get (after_delivery f sent (Some p)).packets n ≡ Some q) (sym (length_push w.packets p)) of_first in
      quiet_place f sent p q (nat_lt to (length w.nodes)) at_last

  pub exchanged_only : (P : Job → Type 0) → Carries P message → AllJobs P w → AllJobs P (after_exchange f from to message w)
  exchanged_only P c h =
      let p : Packet = packet from to message in
      let first_carries : (q : Packet) → first ≡ Some q → Carries P q.message = λ q e.
      subst (λ (x : Packet). Carries P x.message) (same_Some p q (sym (at_end w.packets p) ∙ e)) c in
      let once : AllJobs P taken = delivered_only P f sent first first_carries h in
      delivered_only P f taken (slice_get taken.packets (length w.packets + 1)) (λ q e. no_job_carries P q.message (second_quiet q e)) once

-- a job that a node holds, sent to another one, is brought to no node anew
pub sent_brings : (f : FleetConfig) (w v : Network) (p c n seq : ℕ) (job : Job) → slice_get (node_jobs w p) n ≡ Some job
    → v ≡ after_exchange f p c (m.Pub seq job) w → BringsNoJob w v
sent_brings f w v p c n seq job e is =
    subst (BringsNoJob w) (sym is)
    (record { each = exchanged_only f p c (m.Pub seq job) w (λ (j : Job). (k i : ℕ) × (slice_get (node_jobs w k) i ≡ Some j)) (p, n, e) (λ i k j g. (i, k, g)) })

pub brings_none : (w : Network) → BringsNoJob w w
brings_none w = record { each = λ i seq job e. (i, seq, e) }

pub brings_on : (a b c : Network) → BringsNoJob a b → BringsNoJob b c → BringsNoJob a c
brings_on a b c first second = record { each = λ i seq job e. let there = second.each i seq job e in first.each there.0 there.1 job there.2 }

-- ---- how an exchange stops

run_stops : (message : Message) (node : NodeState) (leaf : ℕ) → RunsBigPattern message node leaf → IsExchangeHalt message (halt.TooBig leaf)
run_stops (m.Pub seq job) node leaf h = h.1
run_stops other node leaf h = absurd h

quiet_runs : (message : Message) (node : NodeState) (leaf : ℕ) → IsNoJob message → RunsBigPattern message node leaf → ⊥
quiet_runs (m.Pub seq job) node leaf h g = h
quiet_runs other node leaf h g = g

pub sent_stops : (f : FleetConfig) (w v : Network) (from to i : ℕ) (message : Message) (stop : Halt) → i ≡ length w.packets → v.packets ≡ w.packets ++ packet from to message ∷ []
    → IsHalt f (Deliver i) v stop → IsExchangeHalt message stop
sent_stops f w v from to i message halt.NoMemory at is h = tt
sent_stops f w v from to i message (halt.TooBig leaf) at is h =
    let p : Packet = packet from to message in
    let e : slice_get (w.packets ++ p ∷ []) (length w.packets) ≡ Some h.0 = rw (is, at) at h.1 in
    let same : h.0 ≡ p = same_Some _ _ (sym e ∙ at_end w.packets p) in
    run_stops message (node_at v.nodes h.0.to) leaf (subst (λ (x : Packet). RunsBigPattern x.message (node_at v.nodes h.0.to) leaf) same h.2)

pub reply_stops : {A : Type 0} (f g : FleetConfig) (nodes : List NodeState) (old now : List Packet) (v : Network) (from to i : ℕ) (message : Message) (r : Result A Halt)
    → now ≡ old ++ packet from to message ∷ [] → i ≡ length old → v ≡ after_delivery f (record { nodes = nodes; packets = now }) (slice_get now i)
    → IfErr r (IsHalt g (Deliver (i + 1)) v) → IfErr r (IsExchangeHalt message)
reply_stops f g nodes old now v from to i message (Ok x) is at done h = tt
reply_stops f g nodes old now v from to i message (Err halt.NoMemory) is at done h = tt
reply_stops f g nodes old now v from to i message (Err (halt.TooBig leaf)) is at done h =
    let at_length : v ≡ after_delivery f (record { nodes = nodes; packets = now }) (slice_get now (length old)) =
    subst (λ (n : ℕ). v ≡ after_delivery f (record { nodes = nodes; packets = now }) (slice_get now n)) at done in
    let of_sent : v ≡ taken f from to message (record { nodes = nodes; packets = old }) =
    subst (λ (ps : List Packet). v ≡ after_delivery f (record { nodes = nodes; packets = ps }) (slice_get ps (length old))) is at_length in
    let second : slice_get v.packets (length old + 1) ≡ Some h.0 = subst (λ (n : ℕ). slice_get v.packets (n + 1) ≡ Some h.0) at h.1 in
    let reply : slice_get (taken f from to message (record { nodes = nodes; packets = old })).packets (length old + 1) ≡ Some h.0 =
    subst (λ (x : Network). slice_get x.packets (length old + 1) ≡ Some h.0) of_sent second in
    absurd (quiet_runs h.0.message (node_at v.nodes h.0.to) leaf
    (second_quiet f from to message (record { nodes = nodes; packets = old }) h.0 reply) h.2)

-- the exchange of a job that a node holds, or of an entry
pub job_stops : (w : Network) (p n seq : ℕ) (job : Job) (stop : Halt) → slice_get (node_jobs w p) n ≡ Some job → IsExchangeHalt (m.Pub seq job) stop → IsSettleHalt w stop
job_stops w p n seq job halt.NoMemory e h = tt
job_stops w p n seq job (halt.TooBig leaf) e h = (p, n, job, e, h)

pub entry_stops : (id : List ℕ) (n : ℕ) (entry : Entry) (stop : Halt) → IsExchangeHalt (m.Up id n entry) stop → IsWantOfMemory stop
entry_stops id n entry halt.NoMemory h = tt
entry_stops id n entry (halt.TooBig leaf) h = h

-- a part of a settle that stops later
pub stops_before : (w v : Network) (stop : Halt) → BringsNoJob w v → IsSettleHalt v stop → IsSettleHalt w stop
stops_before w v halt.NoMemory b h = tt
stops_before w v (halt.TooBig leaf) b h =
    let there = b.each h.0 h.1 h.2 h.3 in
    (there.0, there.1, h.2, there.2, h.4)

pub memory_stops : (w : Network) (stop : Halt) → IsWantOfMemory stop → IsSettleHalt w stop
memory_stops w halt.NoMemory h = tt
memory_stops w (halt.TooBig leaf) h = absurd h

pub settle_stops : (f : FleetConfig) (w : Network) (stop : Halt) → IsSettleHalt w stop → IsHalt f Settle w stop
settle_stops f w halt.NoMemory h = tt
settle_stops f w (halt.TooBig leaf) h = h
