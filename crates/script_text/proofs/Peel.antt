-- What the lines of a script are after those that were read.
use Rattle.std.proofs.Common.{◌≡◌, ℕ, List, [], ◌∷◌, ◌++◌, map, refl, sym, ap, ◌∙◌, arith}
use Rattle.std.specs.Prelude.{codes, flat_map}
use Rattle.std.specs.List.{AllByRecursion}
use Rattle.std.proofs.lemmas.List.{append_cancel_left}
use Rattle.fleet_config.specs.Fleet.{FleetConfig}
use Rattle.fleet_turns.specs.declared.turn.Turn.{Turn}
use Rattle.fleet_turns.specs.declared.turn.Turn.TheVariants.{Publish, Send, Deliver, Settle, Report, Exit, Jobs, Summary, Data, Counts, Packet}
use Rattle.script_text.specs.Script.{MayStand, turn_line, id_line, minion_lines, top_lines}
use Rattle.script_text.specs.Draft.{IsOnly}

pub heads : {X : Type 0} (x y : X) (xs ys : List X) → x ∷ xs ≡ y ∷ ys → x ≡ y
heads x y xs ys e = cc

pub tails : {X : Type 0} (x y : X) (xs ys : List X) → x ∷ xs ≡ y ∷ ys → xs ≡ ys
tails x y xs ys e = cc

-- two texts whose first bytes differ
pub other_byte : (x y : ℕ) (xs ys : List ℕ) → (x ≡ y → ⊥) → x ∷ xs ≡ y ∷ ys → ⊥
other_byte x y xs ys not e = not (heads x y xs ys e)

pub not_schedule : (id : List ℕ) → id_line id ≡ codes "%schedule" → ⊥
not_schedule id e = let h : 45 ≡ 37 = heads _ _ _ _ e in absurd (omega (arith, h))

-- no turn is written as the end
pub not_end : (f : FleetConfig) (turn : Turn) → turn_line f turn ≡ codes "%end" → ⊥
not_end f (Publish moment kind tgt fun args) e = let h : 112 ≡ 37 = heads _ _ _ _ e in absurd (omega (arith, h))
not_end f (Send from to count) e = let h : 115 ≡ 37 = heads _ _ _ _ e in absurd (omega (arith, h))
not_end f (Deliver i) e = let h : 100 ≡ 37 = heads _ _ _ _ e in absurd (omega (arith, h))
not_end f (Report jid) e = let h : 114 ≡ 37 = heads _ _ _ _ e in absurd (omega (arith, h))
not_end f Settle e = let h : 115 ≡ 37 = heads _ _ _ _ e in absurd (omega (arith, h))
not_end f (Exit jid) e = let h : 101 ≡ 37 = heads _ _ _ _ e in absurd (omega (arith, h))
not_end f Jobs e = let h : 106 ≡ 37 = heads _ _ _ _ e in absurd (omega (arith, h))
not_end f Summary e = let h : 115 ≡ 37 = heads _ _ _ _ e in absurd (omega (arith, h))
not_end f (Data node) e = let h : 100 ≡ 37 = heads _ _ _ _ e in absurd (omega (arith, h))
not_end f (Counts node) e = let h : 99 ≡ 37 = heads _ _ _ _ e in absurd (omega (arith, h))
not_end f (Packet i) e = let h : 112 ≡ 37 = heads _ _ _ _ e in absurd (omega (arith, h))

pub same_id : (a b : List ℕ) → id_line a ≡ id_line b → a ≡ b
same_id a b e = append_cancel_left (codes "- id: ") a b e

-- the lines of the top tell its id
pub record SameTop (top t : List ℕ) (rest : List (List ℕ)) (left : List (List ℕ)) : Type 0 where
  pub top_is : top ≡ t
  pub lines : rest ≡ left

pub peel_top : (top t : List ℕ) (rest left : List (List ℕ)) → top_lines top ++ rest ≡ top_lines t ++ left → SameTop top t rest left
peel_top top t rest left e =
    let e1 = tails _ _ _ _ e in
    let e2 = tails _ _ _ _ e1 in
    let e3 = tails _ _ _ _ e2 in
    record { top_is = same_id top t (heads _ _ _ _ e2); lines = tails _ _ _ _ e3 }

-- the minions after those that were read
pub record More (top : List ℕ) (minions all : List (List ℕ)) (rest tail : List (List ℕ)) : Type 0 where
  pub more : List (List ℕ)
  pub all_are : all ≡ minions ++ more
  pub lines : rest ≡ flat_map (minion_lines top) more ++ codes "%schedule" ∷ tail

pub peel_minions : (top : List ℕ) (minions all rest tail : List (List ℕ))
    → flat_map (minion_lines top) minions ++ rest ≡ flat_map (minion_lines top) all ++ codes "%schedule" ∷ tail → More top minions all rest tail
peel_minions top [] all rest tail e = record { more = all; all_are = refl; lines = e }
peel_minions top (m ∷ ms) [] rest tail e = absurd (not_schedule m (heads _ _ _ _ e))
peel_minions top (m ∷ ms) (a ∷ as_) rest tail e =
    let e1 = tails _ _ _ _ e in
    let e2 = tails _ _ _ _ e1 in
    let r = peel_minions top ms as_ rest tail (tails _ _ _ _ e2) in
    let same : m ≡ a = same_id m a (heads _ _ _ _ e) in
    record { more = r.more; all_are = ap (λ x. x ∷ as_) (sym same) ∙ ap (λ xs. m ∷ xs) r.all_are; lines = r.lines }

-- the turns after those that were read
pub record Later (f : FleetConfig) (turns others : List Turn) (rest : List (List ℕ)) : Type 0 where
  pub later : List Turn
  pub all_are : others ≡ turns ++ later
  pub each : AllByRecursion (MayStand f) later
  pub lines : rest ≡ map (turn_line f) later ++ codes "%end" ∷ []

pub peel_turns : (f : FleetConfig) (turns others : List Turn) (rest : List (List ℕ)) → AllByRecursion (IsOnly f) turns → AllByRecursion (MayStand f) others
    → map (turn_line f) turns ++ rest ≡ map (turn_line f) others ++ codes "%end" ∷ [] → Later f turns others rest
peel_turns f [] others rest only each e = record { later = others; all_are = refl; each = each; lines = e }
peel_turns f (t ∷ ts) [] rest only each e = absurd (not_end f t (heads _ _ _ _ e))
peel_turns f (t ∷ ts) (o ∷ os) rest only each e =
    let r = peel_turns f ts os rest only.1 each.1 (tails _ _ _ _ e) in
    let same : o ≡ t = only.0 o each.0 (sym (heads _ _ _ _ e)) in
    record { later = r.later; all_are = ap (λ x. x ∷ os) same ∙ ap (λ xs. t ∷ xs) r.all_are; each = r.each; lines = r.lines }
