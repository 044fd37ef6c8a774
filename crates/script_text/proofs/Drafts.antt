-- One line more of a draft.
use Rattle.std.proofs.Common.{◌≡◌, ℕ, ◌<◌, ◌≤◌, true, false, List, [], ◌∷◌, ◌++◌, map, length, drop, refl, sym, ap, subst, ◌∙◌, append_assoc, arith}
use Rattle.std.specs.Prelude.{codes, bytes_eq, None, Some}
use Rattle.std.specs.List.{AllByRecursion, list_any}
use Rattle.std.proofs.lemmas.Bool.{both_ways}
use Rattle.salt_value.specs.Reading.{Decodes}
use Rattle.fleet_config.specs.Fleet.{FleetConfig, flat_fleet}
use Rattle.fleet_turns.specs.declared.turn.Turn.{Turn}
use Rattle.script_text.specs.declared.draft.Draft.{Draft}
use Rattle.script_text.specs.declared.draft.Stage.{Stage}
use Rattle.script_text.specs.declared.draft.Stage.TheVariants as stage
use Rattle.script_text.specs.Script.{IsName, MayStand, turn_line, id_line, top_lines, fleet_lines}
use Rattle.indexmap.specs.IndexSet.{insert_key}
use Rattle.script_text.specs.Fleet.{fleet_by, AreFleetIds}
use Rattle.script_text.specs.Refusals.{GoesOn}
use Rattle.script_text.specs.Draft.{IsOnly, IsRead, IsDraft, IsScriptOf, IsLineTaken, lines_until, draft_lines, minions_of, MayFollow}
use Rattle.script_text.proofs.Ids.{one_more, new_id, name_of_last, room_for}
use Rattle.script_text.proofs.Peel.{same_id}
use Rattle.script_text.proofs.Follow.{no_minion, no_role, no_parent, no_turn, no_after, goes_on, whole, not_whole, last_lines}

-- what is known at a stage
abbrev At : Draft → Stage → Type 0
At d s = IsRead d.top (minions_of d) d.last d.turns s

read_at : (d : Draft) (s : Stage) → IsDraft d → d.stage ≡ s → At d s
read_at d s h e = let P : Stage → Type 0 = At d in subst P e h.read

abbrev lines_at : Draft → Stage → List (List ℕ)
lines_at d s = lines_until d.top (minions_of d) d.last d.turns s

at_stage : (d : Draft) (s : Stage) → d.stage ≡ s → draft_lines d ≡ lines_at d s
at_stage d s e = ap (λ t. lines_at d t) e

-- no line follows at a stage that doesn't follow the lines there
stops : (d : Draft) (s : Stage) (line : List ℕ) → d.stage ≡ s → (GoesOn (lines_at d s ++ line ∷ []) → ⊥) → GoesOn (draft_lines d ++ line ∷ []) → ⊥
stops d s line e not g = let P : List (List ℕ) → Type 0 = λ l. GoesOn (l ++ line ∷ []) in not (subst P (at_stage d s e) g)

more_lines : (d : Draft) (s : Stage) (line : List ℕ) (now : List (List ℕ)) → d.stage ≡ s → now ≡ lines_at d s ++ line ∷ [] → now ≡ draft_lines d ++ line ∷ []
more_lines d s line now e h = h ∙ ap (λ l. l ++ line ∷ []) (sym (at_stage d s e))

pub draft_goes_on : (d : Draft) → IsDraft d → GoesOn (draft_lines d)
draft_goes_on d h = goes_on d.top (minions_of d) d.last d.turns d.stage h.read

-- the ids of a draft
pub ids_of : (d : Draft) → IsDraft d → AreFleetIds d.ids.keys
ids_of d h = let P : List (List ℕ) → Type 0 = AreFleetIds in subst P (sym h.first) h.read.ids

len_ids : (d : Draft) → IsDraft d → length d.ids.keys ≡ length (d.top ∷ minions_of d)
len_ids d h = ap (λ l. length l) h.first

pub next_found : (d : Draft) (line id : List ℕ) → IsDraft d → Decodes IsName id_line line (Some id) → list_any (bytes_eq id) d.ids.keys ≡ false → length d.ids.keys ≤ 4096
    → Decodes (MayFollow d) id_line line (Some id)
next_found d line id h n new few = (
  one_more d.top (minions_of d) id h.read.ids n.0 (ap (λ l. list_any (bytes_eq id) l) (sym h.first) ∙ new) (omega (arith, len_ids d h)),
  n.1,
  λ y v e. n.2 y (name_of_last d.top (minions_of d) y v) e,
)

pub next_full : (d : Draft) (x : List ℕ) → IsDraft d → 4096 < length d.ids.keys → MayFollow d x → ⊥
next_full d x h many has = let room = room_for d.top (minions_of d) x has in absurd (omega (arith, len_ids d h))

pub next_old : (d : Draft) (line id x : List ℕ) → IsDraft d → Decodes IsName id_line line (Some id) → list_any (bytes_eq id) d.ids.keys ≡ true
    → MayFollow d x → id_line x ≡ line → ⊥
next_old d line id x h n old has e =
    let same : x ≡ id = same_id x id (e ∙ sym n.1) in
    both_ways (list_any (bytes_eq x) d.ids.keys) (ap (λ l. list_any (bytes_eq x) l) h.first ∙ new_id d.top (minions_of d) x has)
    (ap (λ y. list_any (bytes_eq y) d.ids.keys) same ∙ old)

pub next_none : (d : Draft) (line x : List ℕ) → Decodes IsName id_line line None → MayFollow d x → id_line x ≡ line → ⊥
next_none d line x none has e = none x (name_of_last d.top (minions_of d) x has) e

pub minion_stops : (d : Draft) (line : List ℕ) → d.stage ≡ stage.Minion → (line ≡ codes "%schedule" → ⊥)
    → Decodes (MayFollow d) id_line line None → GoesOn (draft_lines d ++ line ∷ []) → ⊥
minion_stops d line e not none = stops d stage.Minion line e (no_minion d.top (minions_of d) line not none)

pub role_taken : (d : Draft) (line : List ℕ) → IsDraft d → d.stage ≡ stage.Role → line ≡ codes "  role: minion" → IsLineTaken d line (record d { stage = stage.Parent }) true
role_taken d line h e l =
    let r = read_at d stage.Role h e in
    let fl = fleet_lines d.top (minions_of d) in (
      record { first = h.first; read = record { ids = r.ids; each = r.each; only = r.only; at = r.at } },
      more_lines d stage.Role line _ e
          (sym (append_assoc fl (id_line d.last ∷ []) (codes "  role: minion" ∷ [])) ∙ ap (λ x. (fl ++ id_line d.last ∷ []) ++ x ∷ []) (sym l)),
    )

pub role_stops : (d : Draft) (line : List ℕ) → d.stage ≡ stage.Role → (line ≡ codes "  role: minion" → ⊥) → GoesOn (draft_lines d ++ line ∷ []) → ⊥
role_stops d line e not = stops d stage.Role line e (no_role d.top (minions_of d) d.last line not)

-- the draft after the lines of a minion
parent_read : (top : List ℕ) (minions : List (List ℕ)) (last : List ℕ) (turns : List Turn) → IsRead top minions last turns stage.Parent
    → IsRead top (minions ++ last ∷ []) last turns stage.Minion
parent_read top minions last turns r =
    let P : List Turn → Type 0 = λ ts. AllByRecursion (MayStand (flat_fleet top (minions ++ last ∷ []))) ts in
    let Q : List Turn → Type 0 = λ ts. AllByRecursion (IsOnly (flat_fleet top (minions ++ last ∷ []))) ts in
    record { ids = r.at.1; each = subst P (sym r.at.0) tt; only = subst Q (sym r.at.0) tt; at = r.at.0 }

parent_lines : (top : List ℕ) (minions : List (List ℕ)) (last : List ℕ) → fleet_lines top (minions ++ last ∷ [])
    ≡ (fleet_lines top minions ++ id_line last ∷ codes "  role: minion" ∷ []) ++ (codes "  parent: " ++ top) ∷ []
parent_lines top minions last =
    ap (λ l. top_lines top ++ l) (last_lines top minions last)
    ∙ sym (append_assoc (fleet_lines top minions) (id_line last ∷ codes "  role: minion" ∷ []) ((codes "  parent: " ++ top) ∷ []))

-- what `insert` makes of the ids
pub record Joined (d n : Draft) : Type 0 where
  pub top : n.top ≡ d.top
  pub keys : n.ids.keys ≡ d.ids.keys ++ d.last ∷ []
  pub last : n.last ≡ d.last
  pub turns : n.turns ≡ d.turns
  pub stage : n.stage ≡ stage.Minion

new_minions : (keys : List (List ℕ)) (top : List ℕ) (minions : List (List ℕ)) (last : List ℕ) → keys ≡ (top ∷ minions) ++ last ∷ [] → drop 1 keys ≡ minions ++ last ∷ []
new_minions keys top minions last e = ap (λ l. drop 1 l) e

pub parent_taken : (d n : Draft) (line : List ℕ) → IsDraft d → d.stage ≡ stage.Parent → line ≡ codes "  parent: " ++ d.top → Joined d n → IsLineTaken d line n true
parent_taken d n line h e l j =
    let r = read_at d stage.Parent h e in
    let keys : n.ids.keys ≡ (d.top ∷ minions_of d) ++ d.last ∷ [] = j.keys ∙ ap (λ k. k ++ d.last ∷ []) h.first in
    let ms : minions_of n ≡ minions_of d ++ d.last ∷ [] = new_minions n.ids.keys d.top (minions_of d) d.last keys in
    let read = parent_read d.top (minions_of d) d.last d.turns r in (
      record {
        first = keys ∙ ap (λ t. t ∷ (minions_of d ++ d.last ∷ [])) (sym j.top) ∙ ap (λ k. n.top ∷ k) (sym ms);
        read = rw (j.top, ms, j.last, j.turns, j.stage) read;
      },
      rw (j.stage, j.top, ms) (more_lines d stage.Parent line _ e
          (parent_lines d.top (minions_of d) d.last
          ∙ ap (λ x. (fleet_lines d.top (minions_of d) ++ id_line d.last ∷ codes "  role: minion" ∷ []) ++ x ∷ []) (sym l))),
    )

pub parent_stops : (d : Draft) (line : List ℕ) → d.stage ≡ stage.Parent → (line ≡ codes "  parent: " ++ d.top → ⊥) → GoesOn (draft_lines d ++ line ∷ []) → ⊥
parent_stops d line e not = stops d stage.Parent line e (no_parent d.top (minions_of d) d.last line not)

pub end_taken : (d : Draft) (line : List ℕ) → IsDraft d → d.stage ≡ stage.Turn → line ≡ codes "%end" → IsLineTaken d line (record d { stage = stage.End }) true
end_taken d line h e l =
    let r = read_at d stage.Turn h e in
    let fl = fleet_lines d.top (minions_of d) in
    let ts = map (turn_line (flat_fleet d.top (minions_of d))) d.turns in (
      record { first = h.first; read = record { ids = r.ids; each = r.each; only = r.only; at = tt } },
      more_lines d stage.Turn line _ e
          (sym (append_assoc fl (codes "%schedule" ∷ ts) (codes "%end" ∷ [])) ∙ ap (λ x. (fl ++ codes "%schedule" ∷ ts) ++ x ∷ []) (sym l)),
    )

fleet_is : (d : Draft) → IsDraft d → fleet_by d.ids.keys ≡ flat_fleet d.top (minions_of d)
fleet_is d h = ap fleet_by h.first

pub turn_stops : (d : Draft) (line : List ℕ) → IsDraft d → d.stage ≡ stage.Turn → (line ≡ codes "%end" → ⊥)
    → Decodes (MayStand (fleet_by d.ids.keys)) (turn_line (fleet_by d.ids.keys)) line None → GoesOn (draft_lines d ++ line ∷ []) → ⊥
turn_stops d line h e not none =
    let P : FleetConfig → Type 0 = λ f. Decodes (MayStand f) (turn_line f) line None in
    stops d stage.Turn line e (no_turn d.top (minions_of d) d.turns line h.read.only not (subst P (fleet_is d h) none))

pub end_stops : (d : Draft) (line : List ℕ) → IsDraft d → d.stage ≡ stage.End → GoesOn (draft_lines d ++ line ∷ []) → ⊥
end_stops d line h e = stops d stage.End line e (no_after d.top (minions_of d) d.turns line h.read.only)

-- the script at the end
pub finished : (d : Draft) (minions : List (List ℕ)) → IsDraft d → d.stage ≡ stage.End → minions ≡ minions_of d
    → IsScriptOf (draft_lines d) (Some (record { top = d.top; minions = minions; turns = d.turns }))
finished d minions h e m =
    let r = read_at d stage.End h e in
    rw (m, at_stage d stage.End e) (whole d.top (minions_of d) d.last d.turns r)

pub unfinished : (d : Draft) → IsDraft d → (d.stage ≡ stage.End → ⊥) → IsScriptOf (draft_lines d) None
unfinished d h not = not_whole d.top (minions_of d) d.last d.turns d.stage h.read not

-- the ids after one more
pub keys_more : (d : Draft) → IsDraft d → d.stage ≡ stage.Parent → list_any (bytes_eq d.last) d.ids.keys ≡ false
keys_more d h e =
    let r = read_at d stage.Parent h e in
    ap (λ l. list_any (bytes_eq d.last) l) h.first ∙ new_id d.top (minions_of d) d.last r.at.1

pub keys_joined : (d : Draft) → IsDraft d → d.stage ≡ stage.Parent → insert_key bytes_eq d.ids.keys d.last ≡ d.ids.keys ++ d.last ∷ []
keys_joined d h e = rw (keys_more d h e) refl
