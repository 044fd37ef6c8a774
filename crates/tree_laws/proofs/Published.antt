-- What holds of a job that was published, and of every job of the top.
use Rattle.std.proofs.Common.{◌≡◌, ℕ, ◌+◌, ◌<◌, refl, subst, max, Bool, true, false, nat_le, List, [], ◌∷◌, length, arith}
use Rattle.std.specs.Prelude.{Option, None, Some, Result, Ok, Err, is_none, nat_lt, if◌then◌else◌}
use Rattle.std.specs.Option.{ok_or}
use Rattle.std.proofs.lemmas.Bool.{lt-ltb, ltb-true}
use Rattle.salt_value.specs.Readers.{◌>>=◌}
use Rattle.salt_value.specs.Jid.{next_jid, greatest_jid}
use Rattle.target_tree.specs.declared.target.Target.{Target}
use Rattle.target_match.specs.Readability.{unread_leaf}
use Rattle.salt_wire.specs.declared.message.Job.{Job}
use Rattle.salt_wire.specs.declared.deed.Deed.TheVariants.{Publish}
use Rattle.fleet_config.specs.Causes.{first_cause}
use Rattle.fleet_config.specs.Fleet.{FleetConfig}
use Rattle.minion_core.specs.Flat.{last_jid, is_after, is_later}
use Rattle.node_core.specs.declared.faults.PublishRefusal.{PublishRefusal}
use Rattle.node_core.specs.declared.faults.PublishRefusal.TheVariants as refused
use Rattle.node_core.specs.Node.{with_record}
use Rattle.node_core.specs.Publications.{Order, order_tree, order_job, order_fits, order_jid, jid_or_refusal, unless_refused, publication}
use Rattle.tree_world.specs.Network.{Network, node_at, top_jobs, with_node_at, after_publication}

-- the job of an order, which may follow these jobs
pub record IsNewJob (f : FleetConfig) (o : Order) (jobs : List Job) (job : Job) : Type 0 where
  pub tree : order_tree f.groups o ≡ Ok job.target
  pub is : job ≡ order_job o job.target job.jid
  pub readable : unread_leaf job.target ≡ None
  pub few : length jobs < f.max_jobs
  pub later : is_later jobs job ≡ true

-- the jid of a publication is later than the last
within_greatest : (t : Bool) (next jid : ℕ) → (if t then Some next else None) ≡ Some jid → next ≡ jid
within_greatest true next jid e = cc
within_greatest false next jid e = absurd cc

next_later : (last : Option ℕ) (moment jid : ℕ) → next_jid last moment ≡ Some jid → is_after last jid ≡ true
next_later None moment jid e = refl
next_later (Some last) moment jid e =
    let is : max moment (last + 1) ≡ jid = within_greatest (nat_le (max moment (last + 1)) greatest_jid) (max moment (last + 1)) jid e in
    lt-ltb last jid (omega arith)

there_is : (o : Option ℕ) (jid : ℕ) → ok_or o refused.JidEnd ≡ Ok jid → o ≡ Some jid
there_is None jid e = absurd cc
there_is (Some n) jid e = let is : n ≡ jid = cc in subst (λ x. Some n ≡ Some x) is refl

-- what is not refused passed the tests
passed : (u : Option ℕ) (fit few : Bool) (x y z : PublishRefusal) (next : Result ℕ PublishRefusal) (jid : ℕ)
    → unless_refused (first_cause ((is_none u, x) ∷ (fit, y) ∷ (few, z) ∷ [])) next ≡ Ok jid
    → (u ≡ None) × (few ≡ true) × (next ≡ Ok jid)
passed None true true x y z next jid e = (refl, refl, e)
passed None true false x y z next jid e = absurd cc
passed None false few x y z next jid e = absurd cc
passed (Some n) fit few x y z next jid e = absurd cc

pub published_job : (f : FleetConfig) (moment : ℕ) (o : Order) (jobs : List Job) (job : Job) → publication f moment o jobs ≡ Ok job → IsNewJob f o jobs job
published_job f moment o jobs job p = by_tree (order_tree f.groups o) refl p where
  by_jid : (tree : Target) → order_tree f.groups o ≡ Ok tree → (j : Result ℕ PublishRefusal) → order_jid f moment o.args tree jobs ≡ j
      → (j >>= λ jid. Ok (order_job o tree jid)) ≡ Ok job → IsNewJob f o jobs job
  by_jid tree t (Err cause) j e = absurd cc
  by_jid tree t (Ok jid) j e =
      let is : order_job o tree jid ≡ job = cc in
      let g = passed (unread_leaf tree) (order_fits o.args tree) (nat_lt (length jobs) f.max_jobs) _ _ _ (jid_or_refusal moment jobs) jid j in
      subst (IsNewJob f o jobs) is (record {
        tree = t;
        is = refl;
        readable = g.0;
        few = ltb-true (length jobs) f.max_jobs g.1;
        later = next_later (last_jid jobs) moment jid (there_is (next_jid (last_jid jobs) moment) jid g.2);
      })

  by_tree : (t : Result Target PublishRefusal) → order_tree f.groups o ≡ t
      → (t >>= λ tree. order_jid f moment o.args tree jobs >>= λ jid. Ok (order_job o tree jid)) ≡ Ok job → IsNewJob f o jobs job
  by_tree (Err cause) t e = absurd cc
  by_tree (Ok tree) t e = by_jid tree t (order_jid f moment o.args tree jobs) refl e

-- whatever holds of the network as it was, and as it is with the record, holds after a publication
pub published_either : (P : Network → Type 0) (f : FleetConfig) (w : Network) (moment : ℕ) (o : Order) → P w
    → ((job : Job) → IsNewJob f o (top_jobs w) job → P (with_node_at w 0 (with_record (Publish job) (node_at w.nodes 0))))
    → P (after_publication (publication f moment o (top_jobs w)) w)
published_either P f w moment o old more = go (publication f moment o (top_jobs w)) refl where
  go : (r : Result Job PublishRefusal) → publication f moment o (top_jobs w) ≡ r → P (after_publication r w)
  go (Err cause) e = old
  go (Ok job) e = more job (published_job f moment o (top_jobs w) job e)
