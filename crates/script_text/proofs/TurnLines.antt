-- Turns from the parts of their lines.
use Rattle.std.proofs.Common.{◌≡◌, ℕ, true, false, List, ◌++◌, refl, sym, ap, ap₂, subst, ◌∙◌, arith}
use Rattle.std.specs.Prelude.{codes, Option, None, Some, Result, Ok, Err, IfOk}
use Rattle.std.proofs.lemmas.Bool.{both_ways}
use Rattle.std.proofs.lemmas.List.{append_cancel_left, append_cancel_right}
use Rattle.salt_value.specs.Reading.{Decodes}
use Rattle.target_tree.specs.declared.kind.Kind.TheVariants.{Glob}
use Rattle.fleet_turns.specs.declared.turn.Turn.{Turn}
use Rattle.fleet_turns.specs.declared.turn.Turn.TheVariants.{Publish, Send, Deliver, Settle, Report, Exit, Jobs, Summary, Data, Counts, Packet}
use Rattle.fleet_config.specs.Fleet.{FleetConfig}
use Rattle.script_text.specs.Script.{MayStand, IsPattern, turn_line}
use Rattle.script_text.specs.Fleet.{fleet_by, tree_by}
use Rattle.script_text.specs.Turns.{ReadsTurn, ReadsInEachFleet, ReadsSending, target_text, ping, IsPublication, publication_text, IsSending, sending_text, are_neighbours}
use Rattle.script_text.proofs.Ids.{neighbours_are, are_neighbours_of}
use Rattle.script_text.proofs.Peel.{heads}

-- what this line tells of any turn that is written so
abbrev IsSend : List (List ℕ) → List ℕ → Turn → Type 0
IsSend ids rest y = (p : ℕ × (ℕ × ℕ)) × (y ≡ Send p.0 p.1.0 p.1.1) × IsSending (tree_by ids) p × (are_neighbours p.0 p.1.0 ≡ true) × (sending_text (tree_by ids) p ≡ rest)

sent : (ids : List (List ℕ)) (rest : List ℕ) (y : Turn) → MayStand (fleet_by ids) y → turn_line (fleet_by ids) y ≡ codes "send " ++ rest → IsSend ids rest y
sent ids rest (Publish moment kind tgt fun args) v h = let k : 112 ≡ 115 = heads _ _ _ _ h in absurd (omega (arith, k))
sent ids rest (Send a b n) v h = (
  (a, (b, n)),
  refl,
  (v.0.0, (v.0.1, v.0.2)),
  are_neighbours_of ids a b v.0.0 v.0.1 v.0.3,
  append_cancel_left (codes "send ") _ rest h,
)
sent ids rest (Deliver i) v h = let k : 100 ≡ 115 = heads _ _ _ _ h in absurd (omega (arith, k))
sent ids rest (Report jid) v h = let k : 114 ≡ 115 = heads _ _ _ _ h in absurd (omega (arith, k))
sent ids rest Settle v h = absurd v.1
sent ids rest (Exit jid) v h = absurd v.1
sent ids rest Jobs v h = absurd v.1
sent ids rest Summary v h = absurd v.1
sent ids rest (Data node) v h = absurd v.1
sent ids rest (Counts node) v h = absurd v.1
sent ids rest (Packet i) v h = absurd v.1

pub send_found : (ids : List (List ℕ)) (rest : List ℕ) (p : ℕ × (ℕ × ℕ)) → ReadsSending (tree_by ids) rest (Some p) → are_neighbours p.0 p.1.0 ≡ true
    → ReadsTurn (fleet_by ids) (codes "send " ++ rest) (Some (Send p.0 p.1.0 p.1.1))
send_found ids rest p d n = (
  ((d.0.0, d.0.1.0, d.0.1.1, neighbours_are ids p.0 p.1.0 d.0.0 d.0.1.0 n), tt),
  ap (λ t. codes "send " ++ t) d.1,
  λ y v h.
      let s = sent ids rest y v h in
      s.1 ∙ ap (λ (q : ℕ × (ℕ × ℕ)). Send q.0 q.1.0 q.1.1) (d.2 s.0 s.2 s.4),
)

pub send_apart : (ids : List (List ℕ)) (rest : List ℕ) (p : ℕ × (ℕ × ℕ)) → ReadsSending (tree_by ids) rest (Some p) → are_neighbours p.0 p.1.0 ≡ false
    → ReadsTurn (fleet_by ids) (codes "send " ++ rest) None
send_apart ids rest p d n = λ y v h.
    let s = sent ids rest y v h in
    both_ways (are_neighbours p.0 p.1.0) n (ap (λ (q : ℕ × (ℕ × ℕ)). are_neighbours q.0 q.1.0) (sym (d.2 s.0 s.2 s.4)) ∙ s.3)

pub send_none : (ids : List (List ℕ)) (rest : List ℕ) → ReadsSending (tree_by ids) rest None → ReadsTurn (fleet_by ids) (codes "send " ++ rest) None
send_none ids rest d = λ y v h. let s = sent ids rest y v h in d s.0 s.2 s.4

abbrev IsPublish : List ℕ → Turn → Type 0
IsPublish rest y = (p : ℕ × List ℕ) × (y ≡ ping p.0 p.1) × IsPublication p × (publication_text p ≡ rest)

published : (f : FleetConfig) (rest : List ℕ) (y : Turn) → MayStand f y → turn_line f y ≡ codes "publish " ++ rest → IsPublish rest y
published f rest (Publish moment kind tgt fun args) v h = (
  (moment, tgt),
  ap (λ k. Publish moment k tgt fun args) v.1.1 ∙ ap₂ (λ word a. Publish moment Glob tgt word a) v.1.2 v.1.3,
  (v.0, v.1.0),
  append_cancel_left (codes "publish ") _ rest h,
)
published f rest (Send a b n) v h = let k : 115 ≡ 112 = heads _ _ _ _ h in absurd (omega (arith, k))
published f rest (Deliver i) v h = let k : 100 ≡ 112 = heads _ _ _ _ h in absurd (omega (arith, k))
published f rest (Report jid) v h = let k : 114 ≡ 112 = heads _ _ _ _ h in absurd (omega (arith, k))
published f rest Settle v h = absurd v.1
published f rest (Exit jid) v h = absurd v.1
published f rest Jobs v h = absurd v.1
published f rest Summary v h = absurd v.1
published f rest (Data node) v h = absurd v.1
published f rest (Counts node) v h = absurd v.1
published f rest (Packet i) v h = absurd v.1

pub publish_found : (f : FleetConfig) (rest : List ℕ) (p : ℕ × List ℕ) → Decodes IsPublication publication_text rest (Some p) → ReadsTurn f (codes "publish " ++ rest) (Some (ping p.0 p.1))
publish_found f rest p d = (
  (d.0.0, (d.0.1, refl, refl, refl)),
  ap (λ t. codes "publish " ++ t) d.1,
  λ y v h. let s = published f rest y v h in s.1 ∙ ap (λ (q : ℕ × List ℕ). ping q.0 q.1) (d.2 s.0 s.2 s.3),
)

pub publish_none : (f : FleetConfig) (rest : List ℕ) → Decodes IsPublication publication_text rest None → ReadsTurn f (codes "publish " ++ rest) None
publish_none f rest d = λ y v h. let s = published f rest y v h in d s.0 s.2 s.3

-- what is read of this text is read of the line that it is
pub of_line : (f : FleetConfig) (line text : List ℕ) (turn : Option Turn) → line ≡ text → ReadsTurn f text turn → ReadsTurn f line turn
of_line f line text turn e h = subst (λ (l : List ℕ). ReadsTurn f l turn) (sym e) h

pub of_any : {E : Type 0} (f : FleetConfig) (line text : List ℕ) (r : Result (Option Turn) E) → line ≡ text
    → IfOk r (ReadsInEachFleet text) → IfOk r (ReadsTurn f line)
of_any f line text (Ok turn) e h = of_line f line text turn e (h f)
of_any f line text (Err fault) e h = tt

-- a pattern in its quotes
unquoted : (x y : List ℕ) → target_text x ≡ target_text y → x ≡ y
unquoted x y e = append_cancel_right x y (codes "\"]") (append_cancel_left (codes "glob test.ping [\"") _ _ e)

pub target_over : {E : Type 0} (text pattern : List ℕ) (r : Result (Option (List ℕ)) E) → text ≡ target_text pattern
    → IfOk r (Decodes IsPattern (λ tgt. tgt) pattern) → IfOk r (Decodes IsPattern target_text text)
target_over text pattern (Err e) s h = tt
target_over text pattern (Ok None) s h = λ x v k. h x v (unquoted x pattern (k ∙ s))
target_over text pattern (Ok (Some tgt)) s h = (
  h.0,
  ap target_text h.1 ∙ sym s,
  λ y v k. h.2 y v (unquoted y pattern (k ∙ s)),
)
