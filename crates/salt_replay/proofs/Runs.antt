-- What a run over a script that was read does.
use Rattle.std.proofs.Common.{◌≡◌, ◌⊎◌, ℕ, List, [], ◌∷◌, ◌++◌, subst, ◌∙◌, inl, inr, arith, append-nil}
use Rattle.std.specs.List.{AllByRecursion}
use Rattle.fleet_config.specs.Fleet.{FleetConfig, IsFleet}
use Rattle.fleet_config.proofs.Fleets.{flat_is_tree}
use Rattle.fleet_turns.specs.declared.turn.Turn.{Turn}
use Rattle.fleet_turns.specs.Turns.{IsTurn}
use Rattle.std.specs.Prelude.{◌≢◌, Option, None, Some}
use Rattle.salt_outside.specs.Causes.{Rose}
use Rattle.salt_outside.specs.Streams.{contents_after, left_before, IsPart, IsRest, IsAtEnd, HasAtMost}
use Rattle.script_text.specs.declared.script.Script.{Script}
use Rattle.script_text.specs.Script.{IsScript, Spells, MayStand, fleet_of, most_script_bytes}
use Rattle.salt_replay.specs.declared.replay.Status.{Status}
use Rattle.salt_replay.specs.Replay.{Plays, MaySpell, DoesSpell, IsReplayStatus, text_of_script}

some_same : (a b : List ℕ) → Some a ≡ Some b → a ≡ b
some_same a b e = cc

-- the text that was read is all that was left
all_read : (text bytes : List ℕ) (rest : Option (List ℕ)) → Some bytes ≡ left_before text rest → IsAtEnd rest → bytes ≡ text
all_read text bytes None e end = cc
all_read text bytes (Some l) e end = some_same bytes (text ++ l) e ∙ rw end (append-nil text)

pub may_spell : (s : Script) (text : List ℕ) (left rest : Option (List ℕ)) → left ≡ left_before text rest → IsAtEnd rest → Spells s text → MaySpell s left
may_spell s text None rest e end h = h.0
may_spell s text (Some bytes) rest e end h = rw (all_read text bytes rest e end) h

pub does_spell : (s : Script) (text : List ℕ) (left rest : Option (List ℕ)) → left ≡ left_before text rest → IsAtEnd rest → DoesSpell s left → Spells s text
does_spell s text None rest e end h = absurd h
does_spell s text (Some bytes) rest e end h = let P : List ℕ → Type 0 = λ t. Spells s t in subst P (all_read text bytes rest e end) h

status_of : (code : ℕ) → (code ≡ 0) ⊎ (code ≡ 1) ⊎ (code ≡ 5) → IsReplayStatus code
status_of code h = grind arith

not_status : (code n : ℕ) → (code ≡ 0) ⊎ (code ≡ 1) ⊎ (code ≡ 5) → code ≡ n → n ≢ 0 → n ≢ 1 → n ≢ 5 → ⊥
not_status code n h e a b c = grind arith

pub script_of : (s : Script) (left : Option (List ℕ)) → DoesSpell s left → IsScript s
script_of s None h = absurd h
script_of s (Some bytes) h = h.0

kept_of : (code : ℕ) (P : Type 0) → (code ≡ 0) ⊎ (code ≡ 1) ⊎ (code ≡ 5) → (code ≡ 0) ⊎ (code ≡ 1) ⊎ (code ≡ 4) → ((code ≡ 0) ⊎ (code ≡ 1) → P) → P
kept_of code P cases (inl e) f = f (inl e)
kept_of code P cases (inr (inl e)) f = f (inr e)
kept_of code P cases (inr (inr e)) f = absurd (not_status code 4 cases e (omega arith) (omega arith) (omega arith))

-- what a run over the script that was read does
module _ {S K : Type 0} (left : S → Option (List ℕ)) (read_faults : S → ℕ) (source source_now : S) (held : K → Option (List ℕ)) (write_faults : K → ℕ) (sink sink_now : K) where
  pub replayed : (status : Status) (text : List ℕ) (s : Script)
      → left source ≡ left_before text (left source_now) → IsAtEnd (left source_now) → IsRest (left source) (left source_now) → read_faults source_now ≡ read_faults source
      → Spells s text → ((other : Script) → Spells other text → other ≡ s)
      → IsPart (held sink) (held sink_now) (text_of_script s)
      → (status.code ≡ 0 → held sink_now ≡ contents_after (held sink) (text_of_script s))
      → (status.code ≡ 5 → Rose (write_faults sink) (write_faults sink_now)) → ((status.code ≡ 0) ⊎ (status.code ≡ 1) → write_faults sink_now ≡ write_faults sink)
      → (status.code ≡ 0) ⊎ (status.code ≡ 1) ⊎ (status.code ≡ 5) → HasAtMost most_script_bytes (left source)
      → Plays left read_faults source source_now held write_faults sink sink_now status
  replayed status text s e end rest read spells only part done rose kept cases fits =
      let code : ℕ = status.code in
      let may : MaySpell s (left source) = may_spell s text (left source) (left source_now) e end spells in
      let same : (other : Script) → DoesSpell other (left source) → other ≡ s = λ other h. only other (does_spell other text (left source) (left source_now) e end h) in
      record {
        status_is = status_of code cases;
        left_is = record {
          rest = rest;
          whole = λ z. end;
          too_long = λ z. absurd (not_status code 12 cases z (omega arith) (omega arith) (omega arith));
          fits = λ z. fits;
        };
        reads = record {
          rose = λ z. absurd (not_status code 4 cases z (omega arith) (omega arith) (omega arith));
          kept = λ z. read;
        };
        text = record {
          done = λ z. (s, may, done z);
          text = λ other h z. rw (same other h) (done z);
          part = λ other h z. rw (same other h) part;
          silent = λ z bytes told none. absurd (none s (subst (λ t. MaySpell s t) told may));
          unread = λ z. absurd (not_status code 4 cases z (omega arith) (omega arith) (omega arith));
          write_fault = λ z. (s, may);
          refused = λ z other h. not_status code 3 cases z (omega arith) (omega arith) (omega arith);
        };
        line = record {
          refusal = λ z. absurd (not_status code 3 cases z (omega arith) (omega arith) (omega arith));
          too_long = λ z. absurd (not_status code 12 cases z (omega arith) (omega arith) (omega arith));
          no_command = λ z. absurd (not_status code 2 cases z (omega arith) (omega arith) (omega arith));
        };
        writes = record {
          rose = rose;
          kept = λ z. kept_of code (write_faults sink_now ≡ write_faults sink) cases z kept;
        };
      }

-- the turns of a script are turns of its fleet
pub are_turns : (f : FleetConfig) (turns : List Turn) → AllByRecursion (MayStand f) turns → AllByRecursion (IsTurn f) turns
are_turns f [] h = tt
are_turns f (turn ∷ turns) h = (h.0.0, are_turns f turns h.1)

-- the fleet of a script is one
pub is_fleet : (s : Script) → IsScript s → IsFleet (fleet_of s)
is_fleet s h = record { tree = flat_is_tree s.top s.minions h.ids.distinct h.ids.few; limits = record { some_jobs = omega arith; few_jobs = omega arith; least = omega arith; most = omega arith } }
