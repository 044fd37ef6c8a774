-- Where a call changes what a crash may leave.
use Rattle.std.proofs.Common.{◌≡◌, ◌≢◌, inl, ⊎_elim, ℕ, ◌+◌, ◌<◌, ◌≤◌, false, List, [], ◌∷◌, ◌++◌, length, get_or, set, take, refl, sym, ◌∙◌, ap, subst, arith, length-append, length-take, get_or-take, slice_get}
use Rattle.std.proofs.lemmas.List.{get_or_append_left, length-set, get_or-set_same, get_or-set_other}
use Rattle.std.proofs.lemmas.Bool.{cases_lt}
use Rattle.std.proofs.lemmas.Bool.Decides.{nat_tests}
use Rattle.salt_disk.specs.declared.disk.Part.{Part}
use Rattle.salt_disk.specs.declared.disk.Part.TheVariants.{Root, Even, Odd}
use Rattle.salt_disk.specs.declared.disk.Range.{Range}
use Rattle.salt_disk.specs.Disk.{PartState, DiskState, part_of, settled_part, IsHonest}
use Rattle.salt_disk.specs.Crash.{Image, IsWithin, IsPartImage, MayLeave, LeavesTheSame}
use Rattle.salt_disk.specs.Memory.{HasPlace}
use Rattle.salt_disk.specs.History.{with_part, after_cut, is_calm}
use Rattle.salt_disk.proofs.Torn.{settled_image}
use Rattle.salt_disk.proofs.Record.{with_same}

-- a disk as it reads is one of its images
as_it_reads : (disk : DiskState) → IsHonest disk → MayLeave disk (λ part. (part_of disk part).bytes)
as_it_reads disk honest part = record { no_shorter = (honest part).0; no_longer = (honest part).1; kept = λ place below outside. refl }

-- the image with another file of one part
abbrev file_image : Part → List ℕ → Image → Part → List ℕ
file_image Root file image Root = file
file_image Root file image Even = image Even
file_image Root file image Odd = image Odd
file_image Even file image Root = image Root
file_image Even file image Even = file
file_image Even file image Odd = image Odd
file_image Odd file image Root = image Root
file_image Odd file image Even = image Even
file_image Odd file image Odd = file

file_here : (part : Part) (file : List ℕ) (image : Image) → file_image part file image part ≡ file
file_here Root file image = refl
file_here Even file image = refl
file_here Odd file image = refl

may_with : (part : Part) (disk : DiskState) (value : PartState) (file : List ℕ) (image : Image) → MayLeave disk image → IsPartImage value file → (other : Part) → IsPartImage (part_of (with_part disk part value) other) (file_image part file image other)
may_with Root disk value file image may here Root = here
may_with Root disk value file image may here Even = may Even
may_with Root disk value file image may here Odd = may Odd
may_with Even disk value file image may here Root = may Root
may_with Even disk value file image may here Even = here
may_with Even disk value file image may here Odd = may Odd
may_with Odd disk value file image may here Root = may Root
may_with Odd disk value file image may here Even = may Even
may_with Odd disk value file image may here Odd = here

part_with : (part : Part) (disk : DiskState) (value : PartState) → part_of (with_part disk part value) part ≡ value
part_with Root disk value = refl
part_with Even disk value = refl
part_with Odd disk value = refl

-- a cut of a part that could not be empty
pub cut_changes : (part : Part) (old new : DiskState) → IsHonest old → 0 < (part_of old part).least → new ≡ with_part old part (after_cut (part_of old part)) → LeavesTheSame old new → ⊥
cut_changes part old new honest some is same =
    let image : Image = λ p. (part_of old p).bytes in
    let left : MayLeave new (file_image part [] image) =
    subst (λ (d : DiskState). MayLeave d (file_image part [] image)) (sym is)
    (may_with part old (after_cut (part_of old part)) [] image (as_it_reads old honest) (record { no_shorter = omega arith; no_longer = omega arith; kept = λ place below outside. absurd (omega (arith, below)) })) in
    let here : IsPartImage (part_of old part) [] = subst (λ (l : List ℕ). IsPartImage (part_of old part) l) (file_here part [] image) (same.earlier (file_image part [] image) left part) in
    omega (arith, here.no_shorter, some)

-- a part with something pending has an image that is not what a read gives
pub record OtherImage (part : PartState) : Type 0 where
  pub file : List ℕ
  pub left : IsPartImage part file
  pub other : file ≢ part.bytes

module _ (part : PartState) (no_more : part.least ≤ length part.bytes) (no_less : length part.bytes ≤ part.greatest) (place : HasPlace part) (pending : is_calm part ≡ false) where
  shorter : part.least < length part.bytes → OtherImage part
  shorter less = record {
    file = take part.least part.bytes;
    left = record {
      no_shorter = omega (arith, length-take part.least part.bytes, less);
      no_longer = omega (arith, length-take part.least part.bytes, less);
      kept = λ k below outside. get_or-take part.least part.bytes k 0 below;
    };
    other = λ same. absurd (omega (arith, ap length same, length-take part.least part.bytes, less));
  }

  longer : length part.bytes < part.greatest → OtherImage part
  longer more = record {
    file = part.bytes ++ 0 ∷ [];
    left = record {
      no_shorter = omega (arith, length-append part.bytes (0 ∷ []), no_more);
      no_longer = omega (arith, length-append part.bytes (0 ∷ []), more);
      kept = λ k below outside. get_or_append_left part.bytes (0 ∷ []) 0 k (omega (arith, below, no_more));
    };
    other = λ same. absurd (omega (arith, ap length same, length-append part.bytes (0 ∷ [])));
  }

  written : part.least ≡ length part.bytes → part.greatest ≡ length part.bytes → (unsure : List Range) → part.unsure ≡ unsure → OtherImage part
  written least greatest [] none = absurd (still none)
    where
      still : part.unsure ≡ [] → ⊥
      still none = let count : length part.unsure ≡ 0 = ap length none in grind (arith, nat_tests)
  written least greatest (range ∷ unsure) is =
      let inside = place range (ap (λ (l : List Range). slice_get l 0) is) in
      let start : range.start < length part.bytes = omega (arith, inside.0, inside.1, greatest) in
      record {
        file = set part.bytes range.start (1 + get_or part.bytes range.start 0);
        left = record {
          no_shorter = omega (arith, length-set part.bytes range.start (1 + get_or part.bytes range.start 0), least);
          no_longer = omega (arith, length-set part.bytes range.start (1 + get_or part.bytes range.start 0), greatest);
          kept = λ k below outside. get_or-set_other part.bytes range.start k (1 + get_or part.bytes range.start 0) 0
              (λ same. outside (subst (λ (l : List Range). IsWithin l k) (sym is) (inl (omega (arith, same), omega (arith, same, inside.0)))));
        };
        other = λ same. absurd (omega (arith, ap (λ (l : List ℕ). get_or l range.start 0) same, get_or-set_same part.bytes range.start (1 + get_or part.bytes range.start 0) 0 start));
      }

  pub other_image : OtherImage part
  other_image =
      ⊎_elim shorter
      (λ (least : length part.bytes ≤ part.least). ⊎_elim longer
      (λ (most : part.greatest ≤ length part.bytes). written (omega (arith, least, no_more)) (omega (arith, most, no_less)) part.unsure refl)
      (cases_lt (length part.bytes) part.greatest))
      (cases_lt part.least (length part.bytes))

-- a sync of a part with something pending
pub sync_changes : (part : Part) (old new : DiskState) → IsHonest old → HasPlace (part_of old part) → is_calm (part_of old part) ≡ false → new ≡ with_part old part (settled_part (part_of old part).bytes) → LeavesTheSame old new → ⊥
sync_changes part old new honest place pending is same =
    let image : Image = λ p. (part_of old p).bytes in
    let bytes = (part_of old part).bytes in
    let one = other_image (part_of old part) (honest part).0 (honest part).1 place pending in
    let before : MayLeave old (file_image part one.file image) =
    subst (λ (d : DiskState). MayLeave d (file_image part one.file image)) (with_same old part) (may_with part old (part_of old part) one.file image (as_it_reads old honest) one.left) in
    let after : IsPartImage (settled_part bytes) one.file =
    subst (λ (p : PartState). IsPartImage p one.file) (ap (λ (d : DiskState). part_of d part) is ∙ part_with part old (settled_part bytes))
    (subst (λ (l : List ℕ). IsPartImage (part_of new part) l) (file_here part one.file image) (same.later (file_image part one.file image) before part)) in
    one.other (settled_image bytes one.file after)
