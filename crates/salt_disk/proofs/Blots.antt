-- What is left of the bytes of a part after a crash, range by range.
use Rattle.std.proofs.Common.{◌≡◌, ◌⊎◌, inl, inr, ⊎_elim, ℕ, ◌+◌, ◌-◌, ◌<◌, ◌≤◌, min, List, [], ◌∷◌, ◌++◌, length, get_or, take, refl, ◌∙◌, ap, arith, get_or-take}
use Rattle.std.proofs.lemmas.List.{length-take-le}
use Rattle.std.proofs.lemmas.Bool.{cases_lt}
use Rattle.salt_disk.specs.declared.disk.Range.{Range}
use Rattle.salt_disk.specs.Disk.{PartState}
use Rattle.salt_disk.specs.Crash.{IsWithin}
use Rattle.salt_disk.specs.Memory.{IsPicked}

-- the bytes in these ranges are all `pick`, and the others stay
pub record Blotted (pick : ℕ) (bytes : List ℕ) (ranges : List Range) (image : List ℕ) : Type 0 where
  pub long : length image ≡ length bytes
  pub kept : (place : ℕ) → (IsWithin ranges place → ⊥) → get_or image place 0 ≡ get_or bytes place 0
  pub picked : (place : ℕ) → place < length image → IsWithin ranges place → get_or image place 0 ≡ pick

within_left : (before : List Range) (range : Range) (place : ℕ) → IsWithin before place → IsWithin (before ++ range ∷ []) place
within_left [] range place none = absurd none
within_left (r ∷ before) range place (inl here) = inl here
within_left (r ∷ before) range place (inr there) = inr (within_left before range place there)

within_last : (before : List Range) (range : Range) (place : ℕ) → range.start ≤ place → place < range.end → IsWithin (before ++ range ∷ []) place
within_last [] range place above below = inl (above, below)
within_last (r ∷ before) range place above below = inr (within_last before range place above below)

within_either : (before : List Range) (range : Range) (place : ℕ) → IsWithin (before ++ range ∷ []) place → IsWithin before place ⊎ ((range.start ≤ place) × (place < range.end))
within_either [] range place (inl here) = inr here
within_either [] range place (inr none) = absurd none
within_either (r ∷ before) range place (inl here) = inl (inl here)
within_either (r ∷ before) range place (inr there) = ⊎_elim (λ one. inl (inr one)) (λ last. inr last) (within_either before range place there)

range_cases : (range : Range) (place : ℕ) → ((range.start ≤ place) × (place < range.end)) ⊎ ((place < range.start) ⊎ (range.end ≤ place))
range_cases range place =
    ⊎_elim (λ (low : place < range.start). inr (inl low))
    (λ (above : range.start ≤ place). ⊎_elim (λ (below : place < range.end). inl (above, below)) (λ (high : range.end ≤ place). inr (inr high)) (cases_lt place range.end))
    (cases_lt place range.start)

-- before the first range
pub blotted_none : (pick : ℕ) (bytes : List ℕ) → Blotted pick bytes [] bytes
blotted_none pick bytes = record { long = refl; kept = λ place outside. refl; picked = λ place inside one. absurd one }

-- one range more
pub blotted_more : (pick : ℕ) (bytes : List ℕ) (before : List Range) (range : Range) (old new : List ℕ) → Blotted pick bytes before old → length new ≡ length old
    → ((place : ℕ) → (place < range.start) ⊎ (range.end ≤ place) → get_or new place 0 ≡ get_or old place 0)
    → ((place : ℕ) → place < length old → range.start ≤ place → place < range.end → get_or new place 0 ≡ pick)
    → Blotted pick bytes (before ++ range ∷ []) new
blotted_more pick bytes before range old new so_far long kept picked = record {
  long = long ∙ so_far.long;
  kept = λ place outside. ⊎_elim
      (λ inside. absurd (outside (within_last before range place inside.0 inside.1)))
      (λ away. kept place away ∙ so_far.kept place (λ one. outside (within_left before range place one)))
      (range_cases range place);
  picked = λ place within one. ⊎_elim
      (λ inside. picked place (omega (arith, within, long)) inside.0 inside.1)
      (λ away. kept place away ∙ so_far.picked place (omega (arith, within, long)) (⊎_elim (λ left. left) (λ last. absurd (not_both range place last away)) (within_either before range place one)))
      (range_cases range place);
}
  where
    not_both : (range : Range) (place : ℕ) → ((range.start ≤ place) × (place < range.end)) → ((place < range.start) ⊎ (range.end ≤ place)) → ⊥
    not_both range place inside away = ⊎_elim (λ (low : place < range.start). absurd (omega (arith, low, inside.0))) (λ (high : range.end ≤ place). absurd (omega (arith, high, inside.1))) away

-- the image of a part: its front as it was blotted, and then `pick`
pub image_picked : (pick cut count len : ℕ) (part : PartState) (start blotted file : List ℕ) → len ≡ part.least → part.least ≤ length part.bytes → start ≡ take part.least part.bytes → length blotted ≡ length start
    → ((place : ℕ) → (IsWithin part.unsure place → ⊥) → get_or blotted place 0 ≡ get_or start place 0)
    → ((place : ℕ) → place < length start → IsWithin part.unsure place → get_or blotted place 0 ≡ pick)
    → count ≡ part.least + min cut (part.greatest - part.least) → length file ≡ count
    → ((place : ℕ) → place < count → place < len → get_or file place 0 ≡ get_or blotted place 0)
    → ((place : ℕ) → len ≤ place → place < count → get_or file place 0 ≡ pick)
    → IsPicked pick cut part file
image_picked pick cut count len part start blotted file counts inside is long kept picked total length_is front back = record {
  long = length_is ∙ total;
  kept = λ place below outside.
      front place (omega (arith, below, total)) (omega (arith, below, counts)) ∙ kept place outside ∙ ap (λ (l : List ℕ). get_or l place 0) is ∙ get_or-take part.least part.bytes place 0 below;
  picked = λ place within unsure. ⊎_elim
      (λ (below : place < part.least). front place (omega (arith, below, total)) (omega (arith, below, counts)) ∙ picked place (omega (arith, below, start_long)) (⊎_elim (λ (past : part.least ≤ place). absurd (omega (arith, past, below))) (λ one. one) unsure))
      (λ (past : part.least ≤ place). back place (omega (arith, past, counts)) (omega (arith, within, length_is)))
      (cases_lt place part.least);
}
  where
    start_long : length start ≡ part.least
    start_long = ap length is ∙ length-take-le part.least part.bytes inside
