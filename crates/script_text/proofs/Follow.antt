-- Which line may follow, and that some script goes on.
use Rattle.std.proofs.Common.{◌≡◌, ◌⊎◌, ℕ, List, [], ◌∷◌, ◌++◌, map, refl, sym, ap, subst, ◌∙◌, inl, inr, append_assoc, append-nil}
use Rattle.std.specs.Prelude.{codes, flat_map, None, Some}
use Rattle.std.specs.List.{AllByRecursion}
use Rattle.fleet_config.specs.Fleet.{FleetConfig, flat_fleet}
use Rattle.fleet_turns.specs.declared.turn.Turn.{Turn}
use Rattle.script_text.specs.declared.script.Script.{Script}
use Rattle.script_text.specs.declared.draft.Stage.{Stage}
use Rattle.script_text.specs.declared.draft.Stage.TheVariants as stage
use Rattle.script_text.specs.Script.{HasIds, MayStand, IsScript, turn_line, id_line, minion_lines, top_lines, fleet_lines, schedule_lines, script_lines, fleet_of}
use Rattle.script_text.specs.Refusals.{GoesOn}
use Rattle.script_text.specs.Draft.{IsOnly, IsRead, IsScriptOf, lines_until}
use Rattle.script_text.proofs.Ids.{front_ids}
use Rattle.script_text.proofs.Peel.{heads, tails, not_schedule, not_end, peel_top, peel_minions, peel_turns}

-- a script whose first lines are those of this fleet
pub record Follows (top : List ℕ) (minions : List (List ℕ)) (s : Script) (rest : List (List ℕ)) : Type 0 where
  pub top_is : top ≡ s.top
  pub more : List (List ℕ)
  pub minions_are : s.minions ≡ minions ++ more
  pub lines : rest ≡ flat_map (minion_lines top) more ++ schedule_lines (fleet_of s) s.turns

pub follow : (top : List ℕ) (minions : List (List ℕ)) (s : Script) (rest : List (List ℕ)) → fleet_lines top minions ++ rest ≡ script_lines s → Follows top minions s rest
follow top minions s rest e =
    let p = peel_top top s.top (flat_map (minion_lines top) minions ++ rest) (flat_map (minion_lines s.top) s.minions ++ schedule_lines (fleet_of s) s.turns) e in
    let q : flat_map (minion_lines top) minions ++ rest ≡ flat_map (minion_lines top) s.minions ++ schedule_lines (fleet_of s) s.turns =
    p.lines ∙ ap (λ t. flat_map (minion_lines t) s.minions ++ schedule_lines (fleet_of s) s.turns) (sym p.top_is) in
    let r = peel_minions top minions s.minions rest _ q in
    record { top_is = p.top_is; more = r.more; minions_are = r.all_are; lines = r.lines }

-- the next line after whole minions
pub record NextMinion (top : List ℕ) (minions : List (List ℕ)) (line : List ℕ) (rest : List (List ℕ)) : Type 0 where
  pub id : List ℕ
  pub has : HasIds top (minions ++ id ∷ [])
  pub here : line ≡ id_line id
  pub more : List (List ℕ)
  pub then : rest ≡ codes "  role: minion" ∷ (codes "  parent: " ++ top) ∷ more

ids_of : (top : List ℕ) (minions more : List (List ℕ)) (id : List ℕ) (s : Script) → IsScript s → top ≡ s.top → s.minions ≡ minions ++ id ∷ more
    → HasIds top (minions ++ id ∷ [])
ids_of top minions more id s is e f =
    let P : List ℕ → Type 0 = λ t. HasIds t s.minions in
    let Q : List (List ℕ) → Type 0 = HasIds top in
    front_ids top (minions ++ id ∷ []) more (subst Q (f ∙ sym (append_assoc minions (id ∷ []) more)) (subst P (sym e) is.ids))

next_from : (top : List ℕ) (minions : List (List ℕ)) (s : Script) (line : List ℕ) (rest : List (List ℕ)) → IsScript s → top ≡ s.top
    → (more : List (List ℕ)) → s.minions ≡ minions ++ more → line ∷ rest ≡ flat_map (minion_lines top) more ++ schedule_lines (fleet_of s) s.turns
    → (line ≡ codes "%schedule") ⊎ NextMinion top minions line rest
next_from top minions s line rest is e [] f g = inl (heads _ _ _ _ g)
next_from top minions s line rest is e (m ∷ ms) f g =
    inr (record { id = m; has = ids_of top minions ms m s is e f; here = heads _ _ _ _ g; more = _; then = tails _ _ _ _ g })

pub next_minion : (top : List ℕ) (minions : List (List ℕ)) (s : Script) (line : List ℕ) (rest : List (List ℕ)) → IsScript s
    → fleet_lines top minions ++ line ∷ rest ≡ script_lines s → (line ≡ codes "%schedule") ⊎ NextMinion top minions line rest
next_minion top minions s line rest is e =
    let f = follow top minions s (line ∷ rest) e in next_from top minions s line rest is f.top_is f.more f.minions_are f.lines

not_first : (top : List ℕ) (minions : List (List ℕ)) (line : List ℕ) (rest : List (List ℕ)) → (line ≡ codes "%schedule") ⊎ NextMinion top minions line rest
    → (line ≡ codes "%schedule" → ⊥) → ((id : List ℕ) → HasIds top (minions ++ id ∷ []) → id_line id ≡ line → ⊥) → ⊥
not_first top minions line rest (inl h) not none = not h
not_first top minions line rest (inr n) not none = none n.id n.has (sym n.here)

-- after whole minions come the schedule or one more
pub no_minion : (top : List ℕ) (minions : List (List ℕ)) (line : List ℕ) → (line ≡ codes "%schedule" → ⊥)
    → ((id : List ℕ) → HasIds top (minions ++ id ∷ []) → id_line id ≡ line → ⊥) → GoesOn (fleet_lines top minions ++ line ∷ []) → ⊥
no_minion top minions line not none (s, is, (rest, e)) =
    not_first top minions line rest (next_minion top minions s line rest is (sym (append_assoc (fleet_lines top minions) (line ∷ []) rest) ∙ e)) not none

-- what comes after the id of a minion
pub after_id : (top : List ℕ) (minions : List (List ℕ)) (id : List ℕ) (rest : List (List ℕ)) → (id_line id ≡ codes "%schedule") ⊎ NextMinion top minions (id_line id) rest
    → (more : List (List ℕ)) × (rest ≡ codes "  role: minion" ∷ (codes "  parent: " ++ top) ∷ more)
after_id top minions id rest (inl h) = absurd (not_schedule id h)
after_id top minions id rest (inr n) = (n.more, n.then)

pub no_role : (top : List ℕ) (minions : List (List ℕ)) (id line : List ℕ) → (line ≡ codes "  role: minion" → ⊥)
    → GoesOn ((fleet_lines top minions ++ id_line id ∷ []) ++ line ∷ []) → ⊥
no_role top minions id line not (s, is, (rest, e)) =
    let whole = sym (append_assoc (fleet_lines top minions) (id_line id ∷ line ∷ []) rest) ∙ ap (λ l. l ++ rest) (sym (append_assoc (fleet_lines top minions) (id_line id ∷ []) (line ∷ []))) ∙ e in
    let a = after_id top minions id (line ∷ rest) (next_minion top minions s (id_line id) (line ∷ rest) is whole) in
    not (heads _ _ _ _ a.1)

pub no_parent : (top : List ℕ) (minions : List (List ℕ)) (id line : List ℕ) → (line ≡ codes "  parent: " ++ top → ⊥)
    → GoesOn ((fleet_lines top minions ++ id_line id ∷ codes "  role: minion" ∷ []) ++ line ∷ []) → ⊥
no_parent top minions id line not (s, is, (rest, e)) =
    let role = codes "  role: minion" in
    let whole = sym (append_assoc (fleet_lines top minions) (id_line id ∷ role ∷ line ∷ []) rest)
    ∙ ap (λ l. l ++ rest) (sym (append_assoc (fleet_lines top minions) (id_line id ∷ role ∷ []) (line ∷ []))) ∙ e in
    let a = after_id top minions id (role ∷ line ∷ rest) (next_minion top minions s (id_line id) (role ∷ line ∷ rest) is whole) in
    not (heads _ _ _ _ (tails _ _ _ _ a.1))

-- a script whose first lines are those of this fleet and of some turns
pub record SameFleet (top : List ℕ) (minions : List (List ℕ)) (turns : List Turn) (s : Script) (rest : List (List ℕ)) : Type 0 where
  pub top_is : top ≡ s.top
  pub minions_are : s.minions ≡ minions
  pub later : List Turn
  pub turns_are : s.turns ≡ turns ++ later
  pub each : AllByRecursion (MayStand (flat_fleet top minions)) later
  pub lines : rest ≡ map (turn_line (flat_fleet top minions)) later ++ codes "%end" ∷ []

no_more : (top : List ℕ) (minions : List (List ℕ)) (s : Script) (rest : List (List ℕ)) (more : List (List ℕ)) → s.minions ≡ minions ++ more
    → codes "%schedule" ∷ rest ≡ flat_map (minion_lines top) more ++ schedule_lines (fleet_of s) s.turns
    → (s.minions ≡ minions) × (rest ≡ map (turn_line (fleet_of s)) s.turns ++ codes "%end" ∷ [])
no_more top minions s rest [] f g = (f ∙ append-nil minions, tails _ _ _ _ g)
no_more top minions s rest (m ∷ ms) f g = absurd (not_schedule m (sym (heads _ _ _ _ g)))

pub same_fleet : (top : List ℕ) (minions : List (List ℕ)) (turns : List Turn) (s : Script) (rest : List (List ℕ)) → IsScript s
    → AllByRecursion (IsOnly (flat_fleet top minions)) turns
    → fleet_lines top minions ++ codes "%schedule" ∷ (map (turn_line (flat_fleet top minions)) turns ++ rest) ≡ script_lines s
    → SameFleet top minions turns s rest
same_fleet top minions turns s rest is only e =
    let f = follow top minions s (codes "%schedule" ∷ (map (turn_line (flat_fleet top minions)) turns ++ rest)) e in
    let n = no_more top minions s _ f.more f.minions_are f.lines in
    let fleet : fleet_of s ≡ flat_fleet top minions = ap (λ t. flat_fleet t s.minions) (sym f.top_is) ∙ ap (λ ms. flat_fleet top ms) n.0 in
    let P : FleetConfig → Type 0 = λ m. AllByRecursion (MayStand m) s.turns in
    let Q : FleetConfig → Type 0 = λ m. map (turn_line (flat_fleet top minions)) turns ++ rest ≡ map (turn_line m) s.turns ++ codes "%end" ∷ [] in
    let l = peel_turns (flat_fleet top minions) turns s.turns rest only (subst P fleet is.turns) (subst Q fleet n.1) in
    record { top_is = f.top_is; minions_are = n.0; later = l.later; turns_are = l.all_are; each = l.each; lines = l.lines }

not_turn : (f : FleetConfig) (line : List ℕ) (rest : List (List ℕ)) (later : List Turn) → AllByRecursion (MayStand f) later
    → line ∷ rest ≡ map (turn_line f) later ++ codes "%end" ∷ [] → (line ≡ codes "%end" → ⊥)
    → ((turn : Turn) → MayStand f turn → turn_line f turn ≡ line → ⊥) → ⊥
not_turn f line rest [] each e not none = not (heads _ _ _ _ e)
not_turn f line rest (t ∷ ts) each e not none = none t each.0 (sym (heads _ _ _ _ e))

pub no_turn : (top : List ℕ) (minions : List (List ℕ)) (turns : List Turn) (line : List ℕ) → AllByRecursion (IsOnly (flat_fleet top minions)) turns
    → (line ≡ codes "%end" → ⊥) → ((turn : Turn) → MayStand (flat_fleet top minions) turn → turn_line (flat_fleet top minions) turn ≡ line → ⊥)
    → GoesOn ((fleet_lines top minions ++ codes "%schedule" ∷ map (turn_line (flat_fleet top minions)) turns) ++ line ∷ []) → ⊥
no_turn top minions turns line only not none (s, is, (rest, e)) =
    let f = flat_fleet top minions in
    let whole : fleet_lines top minions ++ codes "%schedule" ∷ (map (turn_line f) turns ++ line ∷ rest) ≡ script_lines s =
    ap (λ l. fleet_lines top minions ++ codes "%schedule" ∷ l) (sym (append_assoc (map (turn_line f) turns) (line ∷ []) rest))
    ∙ sym (append_assoc (fleet_lines top minions) (codes "%schedule" ∷ (map (turn_line f) turns ++ line ∷ [])) rest)
    ∙ ap (λ l. l ++ rest) (sym (append_assoc (fleet_lines top minions) (codes "%schedule" ∷ map (turn_line f) turns) (line ∷ []))) ∙ e in
    let r = same_fleet top minions turns s (line ∷ rest) is only whole in
    not_turn f line rest r.later r.each r.lines not none

nothing_after : (f : FleetConfig) (line : List ℕ) (rest : List (List ℕ)) (later : List Turn)
    → codes "%end" ∷ line ∷ rest ≡ map (turn_line f) later ++ codes "%end" ∷ [] → ⊥
nothing_after f line rest [] e = let h : line ∷ rest ≡ [] = tails _ _ _ _ e in cc
nothing_after f line rest (t ∷ ts) e = not_end f t (sym (heads _ _ _ _ e))

-- nothing comes after the end
pub no_after : (top : List ℕ) (minions : List (List ℕ)) (turns : List Turn) (line : List ℕ) → AllByRecursion (IsOnly (flat_fleet top minions)) turns
    → GoesOn ((fleet_lines top minions ++ schedule_lines (flat_fleet top minions) turns) ++ line ∷ []) → ⊥
no_after top minions turns line only (s, is, (rest, e)) =
    let f = flat_fleet top minions in
    let whole : fleet_lines top minions ++ codes "%schedule" ∷ (map (turn_line f) turns ++ codes "%end" ∷ line ∷ rest) ≡ script_lines s =
    ap (λ l. fleet_lines top minions ++ codes "%schedule" ∷ l)
    (sym (append_assoc (map (turn_line f) turns) (codes "%end" ∷ []) (line ∷ rest)) ∙ sym (append_assoc (map (turn_line f) turns ++ codes "%end" ∷ []) (line ∷ []) rest))
    ∙ sym (append_assoc (fleet_lines top minions) (schedule_lines f turns ++ line ∷ []) rest)
    ∙ ap (λ l. l ++ rest) (sym (append_assoc (fleet_lines top minions) (schedule_lines f turns) (line ∷ []))) ∙ e in
    let r = same_fleet top minions turns s (codes "%end" ∷ line ∷ rest) is only whole in
    nothing_after f line rest r.later r.lines

abbrev bare : List ℕ → List (List ℕ) → Script
bare top minions = record { top = top; minions = minions; turns = [] }

bare_is : (top : List ℕ) (minions : List (List ℕ)) → HasIds top minions → IsScript (bare top minions)
bare_is top minions has = record { ids = has; turns = tt }

-- what was read of a script goes on, by an empty schedule at least
pub fleet_goes : (top : List ℕ) (minions : List (List ℕ)) → HasIds top minions → GoesOn (fleet_lines top minions)
fleet_goes top minions has = (bare top minions, bare_is top minions has, (codes "%schedule" ∷ codes "%end" ∷ [], refl))

pub last_lines : (top : List ℕ) (minions : List (List ℕ)) (id : List ℕ) → flat_map (minion_lines top) (minions ++ id ∷ []) ≡ flat_map (minion_lines top) minions ++ minion_lines top id
last_lines top [] id = refl
last_lines top (m ∷ ms) id = ap (λ l. minion_lines top m ++ l) (last_lines top ms id)

last_of : (top : List ℕ) (minions : List (List ℕ)) (id : List ℕ) (begun left : List (List ℕ)) → begun ++ left ≡ minion_lines top id
    → (fleet_lines top minions ++ begun) ++ (left ++ codes "%schedule" ∷ codes "%end" ∷ []) ≡ script_lines (bare top (minions ++ id ∷ []))
last_of top minions id begun left e =
    let end = codes "%schedule" ∷ codes "%end" ∷ [] in
    append_assoc (fleet_lines top minions) begun (left ++ end)
    ∙ ap (λ l. fleet_lines top minions ++ l) (sym (append_assoc begun left end) ∙ ap (λ l. l ++ end) e)
    ∙ sym (append_assoc (fleet_lines top minions) (minion_lines top id) end)
    ∙ ap (λ l. (top_lines top ++ l) ++ end) (sym (last_lines top minions id))

minion_goes : (top : List ℕ) (minions : List (List ℕ)) (id : List ℕ) (begun left : List (List ℕ)) → HasIds top (minions ++ id ∷ []) → begun ++ left ≡ minion_lines top id
    → GoesOn (fleet_lines top minions ++ begun)
minion_goes top minions id begun left has e =
    (bare top (minions ++ id ∷ []), bare_is top (minions ++ id ∷ []) has, (left ++ codes "%schedule" ∷ codes "%end" ∷ [], last_of top minions id begun left e))

turns_go : (top : List ℕ) (minions : List (List ℕ)) (turns : List Turn) → HasIds top minions → AllByRecursion (MayStand (flat_fleet top minions)) turns
    → GoesOn (fleet_lines top minions ++ codes "%schedule" ∷ map (turn_line (flat_fleet top minions)) turns)
turns_go top minions turns has each = (
  record { top = top; minions = minions; turns = turns },
  record { ids = has; turns = each },
  (codes "%end" ∷ [], append_assoc (fleet_lines top minions) (codes "%schedule" ∷ map (turn_line (flat_fleet top minions)) turns) (codes "%end" ∷ [])),
)

pub goes_on : (top : List ℕ) (minions : List (List ℕ)) (last : List ℕ) (turns : List Turn) (s : Stage) → IsRead top minions last turns s
    → GoesOn (lines_until top minions last turns s)
goes_on top minions last turns stage.Minion h = fleet_goes top minions h.ids
goes_on top minions last turns stage.Role h = minion_goes top minions last (id_line last ∷ []) (codes "  role: minion" ∷ (codes "  parent: " ++ top) ∷ []) h.at.1 refl
goes_on top minions last turns stage.Parent h = minion_goes top minions last (id_line last ∷ codes "  role: minion" ∷ []) ((codes "  parent: " ++ top) ∷ []) h.at.1 refl
goes_on top minions last turns stage.Turn h = turns_go top minions turns h.ids h.each
goes_on top minions last turns stage.End h =
    (record { top = top; minions = minions; turns = turns }, record { ids = h.ids; turns = h.each }, ([], append-nil _))

-- which scripts these lines are
not_yet : (top : List ℕ) (minions : List (List ℕ)) (s : Script) (begun : List (List ℕ)) → script_lines s ≡ fleet_lines top minions ++ begun
    → Follows top minions s begun
not_yet top minions s begun e = follow top minions s begun (sym e)

short : (top : List ℕ) (s : Script) (more : List (List ℕ)) → [] ≡ flat_map (minion_lines top) more ++ schedule_lines (fleet_of s) s.turns → ⊥
short top s [] e = cc
short top s (m ∷ ms) e = cc

short_id : (top id : List ℕ) (s : Script) (more : List (List ℕ)) → id_line id ∷ [] ≡ flat_map (minion_lines top) more ++ schedule_lines (fleet_of s) s.turns → ⊥
short_id top id s [] e = not_schedule id (heads _ _ _ _ e)
short_id top id s (m ∷ ms) e = let h = tails _ _ _ _ e in cc

short_role : (top id : List ℕ) (s : Script) (more : List (List ℕ)) → id_line id ∷ codes "  role: minion" ∷ [] ≡ flat_map (minion_lines top) more ++ schedule_lines (fleet_of s) s.turns → ⊥
short_role top id s [] e = not_schedule id (heads _ _ _ _ e)
short_role top id s (m ∷ ms) e = let h = tails _ _ _ _ (tails _ _ _ _ e) in cc

no_end_yet : (f : FleetConfig) (later : List Turn) → [] ≡ map (turn_line f) later ++ codes "%end" ∷ [] → ⊥
no_end_yet f [] e = cc
no_end_yet f (t ∷ ts) e = cc

whole_turns : (top : List ℕ) (minions : List (List ℕ)) (turns : List Turn) (s : Script) (rest : List (List ℕ)) → IsScript s
    → AllByRecursion (IsOnly (flat_fleet top minions)) turns
    → script_lines s ≡ fleet_lines top minions ++ codes "%schedule" ∷ (map (turn_line (flat_fleet top minions)) turns ++ rest) → SameFleet top minions turns s rest
whole_turns top minions turns s rest is only e = same_fleet top minions turns s rest is only (sym e)

no_end_turns : (top : List ℕ) (minions : List (List ℕ)) (turns : List Turn) (s : Script) → IsScript s → AllByRecursion (IsOnly (flat_fleet top minions)) turns
    → script_lines s ≡ fleet_lines top minions ++ codes "%schedule" ∷ map (turn_line (flat_fleet top minions)) turns → ⊥
no_end_turns top minions turns s is only e =
    let f = flat_fleet top minions in
    let r = whole_turns top minions turns s [] is only (e ∙ ap (λ l. fleet_lines top minions ++ codes "%schedule" ∷ l) (sym (append-nil (map (turn_line f) turns)))) in
    no_end_yet f r.later r.lines

none_later : (f : FleetConfig) (turns all later : List Turn) → all ≡ turns ++ later → codes "%end" ∷ [] ≡ map (turn_line f) later ++ codes "%end" ∷ [] → all ≡ turns
none_later f turns all [] e h = e ∙ append-nil turns
none_later f turns all (t ∷ ts) e h = absurd (not_end f t (sym (heads _ _ _ _ h)))

same_script : (s : Script) (top : List ℕ) (minions : List (List ℕ)) (turns : List Turn) → s.top ≡ top → s.minions ≡ minions → s.turns ≡ turns
    → s ≡ record { top = top; minions = minions; turns = turns }
same_script s top minions turns e f g = rw (← e, ← f, ← g) refl

-- the one script of whole lines
pub whole : (top : List ℕ) (minions : List (List ℕ)) (last : List ℕ) (turns : List Turn) → IsRead top minions last turns stage.End
    → IsScriptOf (lines_until top minions last turns stage.End) (Some (record { top = top; minions = minions; turns = turns }))
whole top minions last turns h = (
  record { ids = h.ids; turns = h.each },
  refl,
  λ other is e.
      let r = whole_turns top minions turns other (codes "%end" ∷ []) is h.only e in
      same_script other top minions turns (sym r.top_is) r.minions_are (none_later (flat_fleet top minions) turns other.turns r.later r.turns_are r.lines),
)

-- lines that end too early are no script
pub not_whole : (top : List ℕ) (minions : List (List ℕ)) (last : List ℕ) (turns : List Turn) (s : Stage) → IsRead top minions last turns s → (s ≡ stage.End → ⊥)
    → IsScriptOf (lines_until top minions last turns s) None
not_whole top minions last turns stage.Minion h not = λ s is e.
    let f = follow top minions s [] (append-nil (fleet_lines top minions) ∙ sym e) in short top s f.more f.lines
not_whole top minions last turns stage.Role h not = λ s is e. let f = not_yet top minions s (id_line last ∷ []) e in short_id top last s f.more f.lines
not_whole top minions last turns stage.Parent h not = λ s is e.
    let f = not_yet top minions s (id_line last ∷ codes "  role: minion" ∷ []) e in short_role top last s f.more f.lines
not_whole top minions last turns stage.Turn h not = λ s is e. no_end_turns top minions turns s is h.only e
not_whole top minions last turns stage.End h not = absurd (not refl)
