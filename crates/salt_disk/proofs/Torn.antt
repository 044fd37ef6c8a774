-- What a crash leaves of a write that began on a settled part.
use Rattle.std.proofs.Common.{append_assoc, ◌≡◌, ◌≢◌, ◌⊎◌, inl, inr, ⊎_elim, ℕ, ◌+◌, ◌<◌, ◌≤◌, max, List, [], ◌∷◌, ◌++◌, length, get_or, take, drop, refl, sym, ◌∙◌, ap, subst, arith, length-append, length-take, length-drop, get_or-take, get_or-drop, Result, Ok, Err, OnOk, OnErr, IsErrOf}
use Rattle.std.proofs.lemmas.List.{ext_get_or, take_at, drop_at}
use Rattle.salt_disk.specs.declared.disk.Part.{Part}
use Rattle.salt_disk.specs.declared.disk.Part.TheVariants.{Root, Even, Odd}
use Rattle.salt_disk.specs.declared.disk.DiskFault.{DiskFault}
use Rattle.salt_disk.specs.declared.disk.DiskFault.TheVariants.{NoMemory, Failed}
use Rattle.salt_disk.specs.declared.disk.Range.{Range}
use Rattle.salt_disk.specs.Disk.{PartState, DiskState, part_of, settled_part, IsSettled, put, ranges_of, IsWritten, Changes, IsUnchanged, IsHonest, UnlessNoMemory}
use Rattle.salt_disk.specs.Crash.{Image, IsWithin, IsPartImage, MayLeave, IsTorn, OthersMayLeave, WritesOnly, OthersStay}

pub unless_either : {T : Type 0} (r : Result T DiskFault) (A B : Type 0) → UnlessNoMemory r A B → A ⊎ B
unless_either (Ok value) A B is = inr is
unless_either (Err NoMemory) A B is = inl is
unless_either (Err Failed) A B is = inr is

pub changes_unless : {T : Type 0} (r : Result T DiskFault) (A B : Type 0) → (IsErrOf r NoMemory → ⊥) → B → UnlessNoMemory r A B
changes_unless (Ok value) A B memory changes = changes
changes_unless (Err NoMemory) A B memory changes = absurd (memory refl)
changes_unless (Err Failed) A B memory changes = changes

pub ok_or_err : {T E : Type 0} (r : Result T E) (A B : Type 0) → OnOk r A → OnErr r B → A ⊎ B
ok_or_err (Ok value) A B a b = inl a
ok_or_err (Err e) A B a b = inr b

pub on_ok : {T E : Type 0} (r : Result T E) (A B : Type 0) → (A → B) → OnOk r A → OnOk r B
on_ok (Ok value) A B f a = f a
on_ok (Err e) A B f a = a

-- a settled part leaves its bytes alone
pub settled_image : (bytes file : List ℕ) → IsPartImage (settled_part bytes) file → file ≡ bytes
settled_image bytes file image =
    ext_get_or 0 file bytes (omega (arith, image.no_shorter, image.no_longer)) (λ i within. image.kept i (omega (arith, image.no_longer, within)) (λ none. none))

pub torn_same : (at count : ℕ) (old : List ℕ) → IsTorn at count old old
torn_same at count old = record { before = refl; after = refl; no_shorter = omega arith; no_longer = omega arith }

pub length-put : (at : ℕ) (bytes old : List ℕ) → at ≤ length old → length (put at bytes old) ≡ max (length old) (at + length bytes)
length-put at bytes old within =
    omega (arith, length-append (take at old ++ bytes) (drop (at + length bytes) old), length-append (take at old) bytes, length-take at old, length-drop (at + length bytes) old)

pub torn_put : (at : ℕ) (bytes old : List ℕ) → at ≤ length old → IsTorn at (length bytes) old (put at bytes old)
torn_put at bytes old within =
    let front : length (take at old) ≡ at = omega (arith, length-take at old) in
    let both : length (take at old ++ bytes) ≡ at + length bytes = omega (arith, front, length-append (take at old) bytes) in
    record {
      before = ap (λ (l : List ℕ). take at l) (append_assoc (take at old) bytes (drop (at + length bytes) old)) ∙ take_at (take at old) (bytes ++ drop (at + length bytes) old) at front;
      after = drop_at (take at old ++ bytes) (drop (at + length bytes) old) (at + length bytes) both;
      no_shorter = omega (arith, length-put at bytes old within);
      no_longer = omega (arith, length-put at bytes old within);
    }

within_range : (at : ℕ) (bytes : List ℕ) (place : ℕ) → IsWithin (ranges_of at bytes) place → (at ≤ place) × (place < at + length bytes)
within_range at [] place none = absurd none
within_range at (byte ∷ bytes) place (inl here) = here
within_range at (byte ∷ bytes) place (inr none) = absurd none

first_within : (at : ℕ) (bytes : List ℕ) → 0 < length bytes → IsWithin (ranges_of at bytes) at
first_within at [] some = absurd (omega (arith, some))
first_within at (byte ∷ bytes) some = inl (omega arith, omega arith)

-- the first place of a write is pending
pub written_within : (at : ℕ) (bytes : List ℕ) (old new : PartState) → 0 < length bytes → IsSettled old → IsWritten at bytes old new → IsWithin new.unsure at
written_within at bytes old new some is_settled written =
    subst (λ (l : List Range). IsWithin l at)
    (sym (written.unsure ∙ ap (λ (l : List Range). l ++ ranges_of at bytes) (ap (λ (p : PartState). p.unsure) is_settled)))
    (first_within at bytes some)

-- the bytes in a range that was written, or past the old end, may be any
pub torn_written : (at : ℕ) (bytes : List ℕ) (old new : PartState) (file : List ℕ) → IsSettled old → at ≤ length old.bytes → IsWritten at bytes old new → IsPartImage new file → IsTorn at (length bytes) old.bytes file
torn_written at bytes old new file is_settled within written image = record {
  before = ext_get_or 0 (take at file) (take at old.bytes) (omega (arith, length-take at file, length-take at old.bytes, long))
      (λ i inside. let lt : i < at = omega (arith, inside, length-take at file) in
      get_or-take at file i 0 lt ∙ same i (omega (arith, lt, within)) (inl lt) ∙ sym (get_or-take at old.bytes i 0 lt));
  after = ext_get_or 0 (drop (at + length bytes) file) (drop (at + length bytes) old.bytes) (omega (arith, length-drop (at + length bytes) file, length-drop (at + length bytes) old.bytes, long, short))
      (λ i inside. get_or-drop (at + length bytes) file i 0 ∙ same (at + length bytes + i) (omega (arith, inside, length-drop (at + length bytes) file, long, short)) (inr (omega arith)) ∙ sym (get_or-drop (at + length bytes) old.bytes i 0));
  no_shorter = long;
  no_longer = short;
}
  where
    least_is : old.least ≡ length old.bytes
    least_is = ap (λ (p : PartState). p.least) is_settled

    greatest_is : old.greatest ≡ length old.bytes
    greatest_is = ap (λ (p : PartState). p.greatest) is_settled

    unsure_is : old.unsure ≡ []
    unsure_is = ap (λ (p : PartState). p.unsure) is_settled

    long : length old.bytes ≤ length file
    long = omega (arith, image.no_shorter, written.least, least_is)

    short : length file ≤ max (length old.bytes) (at + length bytes)
    short = omega (arith, image.no_longer, written.greatest, greatest_is)

    outside : (place : ℕ) → (place < at) ⊎ (at + length bytes ≤ place) → IsWithin new.unsure place → ⊥
    outside place away one =
        let inside = within_range at bytes place (subst (λ (l : List Range). IsWithin l place) (written.unsure ∙ ap (λ (l : List Range). l ++ ranges_of at bytes) unsure_is) one) in
        ⊎_elim (λ (low : place < at). absurd (omega (arith, low, inside.0))) (λ (high : at + length bytes ≤ place). absurd (omega (arith, high, inside.1))) away

    same : (place : ℕ) → place < length old.bytes → (place < at) ⊎ (at + length bytes ≤ place) → get_or file place 0 ≡ get_or old.bytes place 0
    same place inside away = image.kept place (omega (arith, inside, written.least, least_is)) (outside place away) ∙ written.elsewhere place away

module _ (part : Part) (at : ℕ) (bytes : List ℕ) (old : DiskState) (is_settled : IsSettled (part_of old part)) (within : at ≤ length (part_of old part).bytes) where
  -- what stays of the other parts
  others_from : (new : DiskState) (image : Image) → OthersStay part old new → MayLeave new image → OthersMayLeave part old image
  others_from new image stay may other ne = subst (λ (p : PartState). IsPartImage p (image other)) (stay other ne) (may other)

  pub before_write : (image : Image) → MayLeave old image → WritesOnly part at (length bytes) old image
  before_write image may = record {
    here = subst (λ (l : List ℕ). IsTorn at (length bytes) (part_of old part).bytes l) (sym (settled_image (part_of old part).bytes (image part) (subst (λ (p : PartState). IsPartImage p (image part)) is_settled (may part)))) (torn_same at (length bytes) (part_of old part).bytes);
    others = λ other ne. may other;
  }

  pub during_write : (new : DiskState) (image : Image) → Changes part (IsWritten at bytes) old new → MayLeave new image → WritesOnly part at (length bytes) old image
  during_write new image changes may = record {
    here = torn_written at bytes (part_of old part) (part_of new part) (image part) is_settled within changes.here (may part);
    others = others_from new image changes.others may;
  }

  pub after_write : (new : DiskState) (image : Image) → part_of new part ≡ settled_part (put at bytes (part_of old part).bytes) → OthersStay part old new → MayLeave new image → WritesOnly part at (length bytes) old image
  after_write new image here stay may = record {
    here = subst (λ (l : List ℕ). IsTorn at (length bytes) (part_of old part).bytes l) (sym (settled_image (put at bytes (part_of old part).bytes) (image part) (subst (λ (p : PartState). IsPartImage p (image part)) here (may part)))) (torn_put at bytes (part_of old part).bytes within);
    others = others_from new image stay may;
  }

  -- after the write, however it answered
  pub first_call : {T : Type 0} (r : Result T DiskFault) (new : DiskState) (past since : List DiskState) → UnlessNoMemory r (IsUnchanged old new past since) (Changes part (IsWritten at bytes) old new) → (image : Image) → MayLeave new image → WritesOnly part at (length bytes) old image
  first_call r new past since crash image may =
      ⊎_elim (λ (stays : IsUnchanged old new past since). before_write image (subst (λ (d : DiskState). MayLeave d image) stays.state may))
      (λ (changes : Changes part (IsWritten at bytes) old new). during_write new image changes may)
      (unless_either r (IsUnchanged old new past since) (Changes part (IsWritten at bytes) old new) crash)

  -- and after the sync, however it answered
  pub second_call : {T E : Type 0} (r : Result T E) (mid new : DiskState) (past since : List DiskState) → Changes part (IsWritten at bytes) old mid → (part_of mid part).bytes ≡ put at bytes (part_of old part).bytes
      → OnOk r (Changes part (λ o n. n ≡ settled_part o.bytes) mid new) → OnErr r (IsUnchanged mid new past since) → (image : Image) → MayLeave new image → WritesOnly part at (length bytes) old image
  second_call r mid new past since changes is_put synced failed image may =
      ⊎_elim (λ (done : Changes part (λ o n. n ≡ settled_part o.bytes) mid new). after_write new image (done.here ∙ ap settled_part is_put) (λ other ne. done.others other ne ∙ changes.others other ne) may)
      (λ (stays : IsUnchanged mid new past since). during_write mid image changes (subst (λ (d : DiskState). MayLeave d image) stays.state may))
      (ok_or_err r (Changes part (λ o n. n ≡ settled_part o.bytes) mid new) (IsUnchanged mid new past since) synced failed)

part_cases : (p q : Part) → (p ≡ q) ⊎ (p ≢ q)
part_cases Root Root = inl refl
part_cases Root Even = inr (λ e. absurd (cc))
part_cases Root Odd = inr (λ e. absurd (cc))
part_cases Even Root = inr (λ e. absurd (cc))
part_cases Even Even = inl refl
part_cases Even Odd = inr (λ e. absurd (cc))
part_cases Odd Root = inr (λ e. absurd (cc))
part_cases Odd Even = inr (λ e. absurd (cc))
part_cases Odd Odd = inl refl

-- what a synced disk leaves, it could leave before
pub synced_image : (part : Part) (old new : DiskState) (image : Image) → IsHonest old → Changes part (λ o n. n ≡ settled_part o.bytes) old new → MayLeave new image → MayLeave old image
synced_image part old new image honest synced may = λ p. ⊎_elim
    (λ (same : p ≡ part). subst (λ (q : Part). IsPartImage (part_of old q) (image q)) (sym same) here)
    (λ (other : p ≢ part). subst (λ (s : PartState). IsPartImage s (image p)) (synced.others p other) (may p))
    (part_cases p part)
  where
    is : image part ≡ (part_of old part).bytes
    is = settled_image (part_of old part).bytes (image part) (subst (λ (s : PartState). IsPartImage s (image part)) synced.here (may part))

    here : IsPartImage (part_of old part) (image part)
    here = subst (λ (l : List ℕ). IsPartImage (part_of old part) l) (sym is) (record { no_shorter = (honest part).0; no_longer = (honest part).1; kept = λ place below outside. refl })

-- Where each other part stays, each other part's image is one from before.
pub others_image : (part : Part) (old new : DiskState) → OthersStay part old new → (image : Image) → MayLeave new image → OthersMayLeave part old image
others_image part old new stay image may = λ other ne. subst (λ (p : PartState). IsPartImage p (image other)) (stay other ne) (may other)
