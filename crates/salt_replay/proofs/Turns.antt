-- One turn of a run.
use Rattle.std.proofs.Common.{◌≡◌, ℕ, ◌+◌, ◌<◌, ◌≤◌, List, [], ◌∷◌, ◌++◌, drop, length, get_or, refl, ap, ◌∙◌, add-one, drop-cons}
use Rattle.std.specs.Prelude.{Option}
use Rattle.salt_outside.specs.Streams.{contents_after, IsPart}
use Rattle.salt_outside.proofs.Parts.{part_after, part_front}
use Rattle.salt_outside.proofs.Reading.{appended-appended}
use Rattle.std.proofs.Common.{subst}
use Rattle.std.proofs.Math.ListN.{drop_of_length-le}
use Rattle.fleet_config.specs.Fleet.{FleetConfig}
use Rattle.fleet_turns.specs.declared.turn.Turn.{Turn}
use Rattle.tree_world.specs.Network.{Network}
use Rattle.tree_world.specs.Runs.{after}
use Rattle.tree_world.specs.Text.{text_from, printed_text}

drop_past : {X : Type 0} (xs : List X) (i : ℕ) → length xs ≤ i → drop i xs ≡ []
drop_past xs i h = drop_of_length-le xs h

-- the text from a turn on
pub text_step : (f : FleetConfig) (turns : List Turn) (i : ℕ) (turn : Turn) (w : Network) → i < length turns → turn ≡ get_or turns i turn
    → text_from f (drop i turns) w ≡ printed_text f turn w ++ text_from f (drop (i + 1) turns) (after f turn w)
text_step f turns i turn w h e =
    let next : drop i turns ≡ turn ∷ drop (i + 1) turns = drop-cons turns i turn h ∙ rw (add-one, ← e) refl in
    ap (λ ts. text_from f ts w) next

pub text_end : (f : FleetConfig) (turns : List Turn) (i : ℕ) (w : Network) → length turns ≤ i → text_from f (drop i turns) w ≡ text_from f [] w
text_end f turns i w h = ap (λ ts. text_from f ts w) (drop_past turns i h)

-- what a turn printed in part, of the text of all
pub part_within : (init mid new : Option (List ℕ)) (front now rest whole : List ℕ) → mid ≡ contents_after init front → front ++ (now ++ rest) ≡ whole
    → IsPart mid new now → IsPart init new whole
part_within init mid new front now rest whole told e p =
    let P : List ℕ → Type 0 = λ t. IsPart init new t in
    subst P e (part_after init mid new front (now ++ rest) told (part_front mid new now rest p))

-- the same at the end
pub part_last : (init mid new : Option (List ℕ)) (front now whole : List ℕ) → mid ≡ contents_after init front → front ++ now ≡ whole
    → IsPart mid new now → IsPart init new whole
part_last init mid new front now whole told e p =
    let P : List ℕ → Type 0 = λ t. IsPart init new t in subst P e (part_after init mid new front now told p)

pub told_more : (init mid new : Option (List ℕ)) (front now : List ℕ) → mid ≡ contents_after init front → new ≡ contents_after mid now → new ≡ contents_after init (front ++ now)
told_more init mid new front now told e = e ∙ ap (λ h. contents_after h now) told ∙ appended-appended init front now
