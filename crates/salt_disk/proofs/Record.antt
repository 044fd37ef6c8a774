-- One more call in the record of a memory disk.
use Rattle.std.proofs.Common.{◌≡◌, ◌≢◌, ◌⊎◌, inl, inr, ⊎_elim, ℕ, ◌+◌, ◌-◌, ◌<◌, ◌≤◌, max, true, false, List, Vec, [], ◌∷◌, ◌++◌, length, get_or, take, drop, refl, sym, ◌∙◌, ap, subst, arith, length-append, length-take, get_or-take, get_or-drop, count_by, cond}
use Rattle.std.proofs.lemmas.List.{get_or_append_left, get_or-append_right, nil_from_length, take_all, ext_get_or}
use Rattle.std.proofs.lemmas.List.Sums.{sum_by-append}
use Rattle.std.specs.declared.alloc.Global.{Global}
use Rattle.std.proofs.lemmas.Bool.{cases_lt}
use Rattle.std.proofs.lemmas.Bool.Decides.{nat_tests}
use Rattle.salt_disk.specs.declared.disk.Part.{Part}
use Rattle.salt_disk.specs.declared.disk.Part.TheVariants.{Root, Even, Odd}
use Rattle.salt_disk.specs.declared.call.Call.{Call}
use Rattle.salt_disk.specs.declared.call.Call.TheVariants.{Write, Cut, Sync}
use Rattle.salt_disk.specs.declared.disk.Range.{Range}
use Rattle.salt_disk.specs.Disk.{PartState, DiskState, part_of, settled_part, put, ranges_of, IsWritten, Changes, IsHonest}
use Rattle.salt_disk.specs.Crash.{Image, IsWithin, IsPartImage, MayLeave, LeavesTheSame}
use Rattle.salt_disk.specs.Memory.{IsPicked}
use Rattle.salt_disk.specs.History.{with_part, wrote, after_cut, step, states, replay, LeadsTo, Replays, is_calm, entries_owed, owed_by, is_write, IsBounded, IsRecorded}
use Rattle.salt_disk.proofs.Moments.{leaves_itself}
use Rattle.salt_disk.proofs.Torn.{length-put}

after-push : (first : DiskState) (calls : List Call) (call : Call) → replay first (calls ++ call ∷ []) ≡ step (replay first calls) call
after-push first [] call = refl
after-push first (c ∷ calls) call = after-push (step first c) calls call

states-push : (first : DiskState) (calls : List Call) (call : Call) → states first (calls ++ call ∷ []) ≡ states first calls ++ replay first calls ∷ []
states-push first [] call = refl
states-push first (c ∷ calls) call = ap (λ (l : List DiskState). first ∷ l) (states-push (step first c) calls call)

-- a byte of a part that the record leads to
led_byte : (replayed part : PartState) (place : ℕ) → LeadsTo replayed part → place < length part.bytes → get_or part.bytes place 0 ≡ get_or replayed.bytes place 0
led_byte replayed part place leads inside = ap (λ (l : List ℕ). get_or l place 0) leads.bytes ∙ get_or-take (length part.bytes) replayed.bytes place 0 inside

-- a part that the record leads to has the images of the replayed one
led_image : (replayed part : PartState) (file : List ℕ) → LeadsTo replayed part → part.least ≤ length part.bytes → IsPartImage replayed file → IsPartImage part file
led_image replayed part file leads honest image = record {
  no_shorter = omega (arith, image.no_shorter, leads.least);
  no_longer = omega (arith, image.no_longer, leads.greatest);
  kept = λ place below outside.
      image.kept place (omega (arith, below, leads.least)) (λ one. outside (subst (λ (l : List Range). IsWithin l place) (sym leads.unsure) one))
      ∙ sym (led_byte replayed part place leads (omega (arith, below, honest)));
}

image_led : (replayed part : PartState) (file : List ℕ) → LeadsTo replayed part → part.least ≤ length part.bytes → IsPartImage part file → IsPartImage replayed file
image_led replayed part file leads honest image = record {
  no_shorter = omega (arith, image.no_shorter, leads.least);
  no_longer = omega (arith, image.no_longer, leads.greatest);
  kept = λ place below outside.
      image.kept place (omega (arith, below, leads.least)) (λ one. outside (subst (λ (l : List Range). IsWithin l place) leads.unsure one))
      ∙ led_byte replayed part place leads (omega (arith, below, leads.least, honest));
}

led_same : (replayed disk : DiskState) → Replays replayed disk → IsHonest disk → LeavesTheSame replayed disk
led_same replayed disk leads honest = record {
  later = λ image may part. led_image (part_of replayed part) (part_of disk part) (image part) (leads part) (honest part).0 (may part);
  earlier = λ image may part. image_led (part_of replayed part) (part_of disk part) (image part) (leads part) (honest part).0 (may part);
}

-- a call that has an entry
pub recorded : (old new : DiskState) (calls since : List Call) (call : Call) → IsHonest old → since ≡ calls ++ call ∷ []
    → ((replayed : DiskState) → Replays replayed old → Replays (step replayed call) new)
    → ((first : DiskState) → IsBounded first calls old → IsBounded first (calls ++ call ∷ []) new)
    → IsRecorded old new calls since
recorded old new calls since call honest is stepped bounded = record {
  kept = λ first leads. subst (λ (d : DiskState). Replays d new) (sym (ap (λ (l : List Call). replay first l) is ∙ after-push first calls call)) (stepped (replay first calls) leads);
  time = λ first leads. inl (record {
    moment = replay first calls;
    time = ap (λ (l : List Call). states first l) is ∙ states-push first calls call;
    same = led_same (replay first calls) old leads honest;
  });
  bounded = λ first within. subst (λ (l : List Call). IsBounded first l new) (sym is) (bounded first within);
}

-- a call that has none
pub not_recorded : (old new : DiskState) (calls : List Call)
    → ((replayed : DiskState) → Replays replayed old → Replays replayed new)
    → LeavesTheSame old new → owed_by new ≤ owed_by old → IsRecorded old new calls calls
not_recorded old new calls kept same less = record {
  kept = λ first leads. kept (replay first calls) leads;
  time = λ first leads. inr (record { time = refl; same = same });
  bounded = λ first within. omega (arith, within, less);
}

-- what holds of the old states of each part, and of the new ones of one part, holds of all where that part has the new ones
with_both : (part : Part) (one two : DiskState) (x y : PartState) (P : Part → PartState → PartState → Type 0) → ((other : Part) → P other (part_of one other) (part_of two other)) → P part x y
    → (other : Part) → P other (part_of (with_part one part x) other) (part_of (with_part two part y) other)
with_both Root one two x y P each here Root = here
with_both Root one two x y P each here Even = each Even
with_both Root one two x y P each here Odd = each Odd
with_both Even one two x y P each here Root = each Root
with_both Even one two x y P each here Even = here
with_both Even one two x y P each here Odd = each Odd
with_both Odd one two x y P each here Root = each Root
with_both Odd one two x y P each here Even = each Even
with_both Odd one two x y P each here Odd = here

-- the images where one part has another state
with_image : (part : Part) (disk : DiskState) (value : PartState) (image : Image) → MayLeave disk image → IsPartImage value (image part) → MayLeave (with_part disk part value) image
with_image part disk value image may here = with_both part disk disk value value (λ other state same. IsPartImage state (image other)) may here

with_here : (part : Part) (disk : DiskState) (value : PartState) (image : Image) → MayLeave (with_part disk part value) image → IsPartImage value (image part)
with_here Root disk value image may = may Root
with_here Even disk value image may = may Even
with_here Odd disk value image may = may Odd

without_image : (part : Part) (disk : DiskState) (value : PartState) (image : Image) → MayLeave (with_part disk part value) image → IsPartImage (part_of disk part) (image part) → MayLeave disk image
without_image Root disk value image may here Root = here
without_image Root disk value image may here Even = may Even
without_image Root disk value image may here Odd = may Odd
without_image Even disk value image may here Root = may Root
without_image Even disk value image may here Even = here
without_image Even disk value image may here Odd = may Odd
without_image Odd disk value image may here Root = may Root
without_image Odd disk value image may here Even = may Even
without_image Odd disk value image may here Odd = here

-- one part goes on, and the record with it
leads_with : (part : Part) (replayed disk : DiskState) (replayed_value value : PartState) → Replays replayed disk → LeadsTo replayed_value value
    → Replays (with_part replayed part replayed_value) (with_part disk part value)
leads_with part replayed disk x y leads goes = with_both part replayed disk x y (λ other one two. LeadsTo one two) leads goes

pub with_same : (disk : DiskState) (part : Part) → with_part disk part (part_of disk part) ≡ disk
with_same disk Root = refl
with_same disk Even = refl
with_same disk Odd = refl

put_elsewhere : (at : ℕ) (bytes old : List ℕ) (place : ℕ) → at ≤ length old → (place < at) ⊎ (at + length bytes ≤ place) → get_or (put at bytes old) place 0 ≡ get_or old place 0
put_elsewhere at bytes old place within away = ⊎_elim (λ (low : place < at). low_is low) (λ (high : at + length bytes ≤ place). high_is high) away
  where
    front : length (take at old) ≡ at
    front = omega (arith, length-take at old)

    both : length (take at old ++ bytes) ≡ at + length bytes
    both = omega (arith, front, length-append (take at old) bytes)

    low_is : place < at → get_or (put at bytes old) place 0 ≡ get_or old place 0
    low_is low =
        get_or_append_left (take at old ++ bytes) (drop (at + length bytes) old) 0 place (omega (arith, both))
        ∙ get_or_append_left (take at old) bytes 0 place (omega (arith, front))
        ∙ get_or-take at old place 0 low

    high_is : at + length bytes ≤ place → get_or (put at bytes old) place 0 ≡ get_or old place 0
    high_is high =
        get_or-append_right (take at old ++ bytes) (drop (at + length bytes) old) (at + length bytes) place 0 both high
        ∙ get_or-drop (at + length bytes) old (place - (at + length bytes)) 0
        ∙ (let same : at + length bytes + (place - (at + length bytes)) ≡ place = omega arith in ap (λ (n : ℕ). get_or old n 0) same)

put_inside : (at : ℕ) (bytes old : List ℕ) (place : ℕ) → at ≤ length old → at ≤ place → place < at + length bytes → get_or (put at bytes old) place 0 ≡ get_or bytes (place - at) 0
put_inside at bytes old place within above below =
    let front : length (take at old) ≡ at = omega (arith, length-take at old) in
    get_or_append_left (take at old ++ bytes) (drop (at + length bytes) old) 0 place (omega (arith, front, below, length-append (take at old) bytes))
    ∙ get_or-append_right (take at old) bytes at place 0 front above

-- a write on the front of a list is the front of the write on the whole
put_taken : (at : ℕ) (bytes old replayed : List ℕ) → at ≤ length old → old ≡ take (length old) replayed → put at bytes old ≡ take (length (put at bytes old)) (put at bytes replayed)
put_taken at bytes old replayed within is =
    ext_get_or 0 (put at bytes old) (take (length (put at bytes old)) (put at bytes replayed))
    (omega (arith, length-take (length (put at bytes old)) (put at bytes replayed), long, length-put at bytes old within, length-put at bytes replayed (omega (arith, within, long))))
    (λ place inside. same place inside ∙ sym (get_or-take (length (put at bytes old)) (put at bytes replayed) place 0 inside))
  where
    long : length old ≤ length replayed
    long = omega (arith, ap length is, length-take (length old) replayed)

    away : (place : ℕ) → place < length old → (place < at) ⊎ (at + length bytes ≤ place) → get_or (put at bytes old) place 0 ≡ get_or (put at bytes replayed) place 0
    away place below out =
        put_elsewhere at bytes old place within out
        ∙ ap (λ (l : List ℕ). get_or l place 0) is
        ∙ get_or-take (length old) replayed place 0 below
        ∙ sym (put_elsewhere at bytes replayed place (omega (arith, within, long)) out)

    same : (place : ℕ) → place < length (put at bytes old) → get_or (put at bytes old) place 0 ≡ get_or (put at bytes replayed) place 0
    same place inside =
        ⊎_elim (λ (low : place < at). away place (omega (arith, low, within)) (inl low))
        (λ (high : at ≤ place).
        ⊎_elim (λ (in_range : place < at + length bytes). put_inside at bytes old place within high in_range ∙ sym (put_inside at bytes replayed place (omega (arith, within, long)) high in_range))
        (λ (past : at + length bytes ≤ place). away place (omega (arith, past, inside, length-put at bytes old within)) (inr past))
        (cases_lt place (at + length bytes)))
        (cases_lt place at)

leads_write : (at : ℕ) (bytes : List ℕ) (replayed part : PartState) → at ≤ length part.bytes → LeadsTo replayed part → LeadsTo (wrote replayed at bytes) (wrote part at bytes)
leads_write at bytes replayed part within leads = record {
  bytes = put_taken at bytes part.bytes replayed.bytes within leads.bytes;
  unsure = ap (λ (l : List Range). l ++ ranges_of at bytes) leads.unsure;
  least = leads.least;
  greatest = ap (λ (n : ℕ). max n (at + length bytes)) leads.greatest;
}

leads_settled : (bytes replayed : List ℕ) → bytes ≡ take (length bytes) replayed → LeadsTo (settled_part (take (length bytes) replayed)) (settled_part bytes)
leads_settled bytes replayed is =
    subst (λ (l : List ℕ). LeadsTo (settled_part l) (settled_part bytes)) is (record { bytes = sym (take_all (length bytes) bytes (omega arith)); unsure = refl; least = refl; greatest = refl })

pub changes_with : (part : Part) (go : PartState → PartState → Type 0) (old new : DiskState) (value : PartState) → new ≡ with_part old part value → go (part_of old part) value → Changes part go old new
changes_with Root go old new value is gone = record {
  here = subst (λ (d : DiskState). go old.root d.root) (sym is) gone;
  others = λ other ne. elim other as (λ o. (o ≢ Root) → part_of new o ≡ part_of old o) [ Root ↦ λ n. absurd (n refl) | Even ↦ λ n. ap (λ (d : DiskState). d.even) is | Odd ↦ λ n. ap (λ (d : DiskState). d.odd) is ] ne;
}
changes_with Even go old new value is gone = record {
  here = subst (λ (d : DiskState). go old.even d.even) (sym is) gone;
  others = λ other ne. elim other as (λ o. (o ≢ Even) → part_of new o ≡ part_of old o) [ Root ↦ λ n. ap (λ (d : DiskState). d.root) is | Even ↦ λ n. absurd (n refl) | Odd ↦ λ n. ap (λ (d : DiskState). d.odd) is ] ne;
}
changes_with Odd go old new value is gone = record {
  here = subst (λ (d : DiskState). go old.odd d.odd) (sym is) gone;
  others = λ other ne. elim other as (λ o. (o ≢ Odd) → part_of new o ≡ part_of old o) [ Root ↦ λ n. ap (λ (d : DiskState). d.root) is | Even ↦ λ n. ap (λ (d : DiskState). d.even) is | Odd ↦ λ n. absurd (n refl) ] ne;
}

pub is_written : (at : ℕ) (bytes : List ℕ) (part : PartState) → at ≤ length part.bytes → IsWritten at bytes part (wrote part at bytes)
is_written at bytes part within = record { unsure = refl; least = refl; greatest = refl; elsewhere = λ place away. put_elsewhere at bytes part.bytes place within away }

owed_most : (part : PartState) → entries_owed part ≤ 3
owed_most part = grind (arith, nat_tests)

pub owed_by_most : (disk : DiskState) → owed_by disk ≤ 9
owed_by_most disk = omega (arith, owed_most disk.root, owed_most disk.even, owed_most disk.odd)

owed_emptied : (part : PartState) → 0 < length part.bytes → entries_owed (after_cut part) + 1 ≤ entries_owed part
owed_emptied part some = grind (arith, nat_tests)

owed_unseen : (part : PartState) → part.least ≡ 0 → entries_owed (after_cut part) ≤ entries_owed part
owed_unseen part none = grind (arith, nat_tests)

owed_settled : (part : PartState) → is_calm part ≡ false → entries_owed (settled_part part.bytes) + 1 ≤ entries_owed part
owed_settled part pending = grind (arith, nat_tests)

pub owed_cut : (disk : DiskState) (part : Part) → 0 < length (part_of disk part).bytes → owed_by (with_part disk part (after_cut (part_of disk part))) + 1 ≤ owed_by disk
owed_cut disk Root some = omega (arith, owed_emptied disk.root some)
owed_cut disk Even some = omega (arith, owed_emptied disk.even some)
owed_cut disk Odd some = omega (arith, owed_emptied disk.odd some)

pub owed_cut_unseen : (disk : DiskState) (part : Part) → (part_of disk part).least ≡ 0 → owed_by (with_part disk part (after_cut (part_of disk part))) ≤ owed_by disk
owed_cut_unseen disk Root none = omega (arith, owed_unseen disk.root none)
owed_cut_unseen disk Even none = omega (arith, owed_unseen disk.even none)
owed_cut_unseen disk Odd none = omega (arith, owed_unseen disk.odd none)

pub owed_sync : (disk : DiskState) (part : Part) → is_calm (part_of disk part) ≡ false → owed_by (with_part disk part (settled_part (part_of disk part).bytes)) + 1 ≤ owed_by disk
owed_sync disk Root pending = omega (arith, owed_settled disk.root pending)
owed_sync disk Even pending = omega (arith, owed_settled disk.even pending)
owed_sync disk Odd pending = omega (arith, owed_settled disk.odd pending)

pub calm_settled : (part : PartState) → part.least ≤ length part.bytes → length part.bytes ≤ part.greatest → is_calm part ≡ true → part ≡ settled_part part.bytes
calm_settled part no_more no_less calm =
    let unsure : part.unsure ≡ [] = nil_from_length part.unsure (grind (arith, nat_tests)) in
    let same : part.least ≡ part.greatest = grind (arith, nat_tests) in
    let least : part.least ≡ length part.bytes = omega arith in
    let greatest : part.greatest ≡ length part.bytes = omega arith in
    λ i. record { bytes = part.bytes; unsure = unsure i; least = least i; greatest = greatest i }

pub calm_sync : (disk : DiskState) (part : Part) → IsHonest disk → is_calm (part_of disk part) ≡ true → disk ≡ with_part disk part (settled_part (part_of disk part).bytes)
calm_sync disk part honest calm = sym (with_same disk part) ∙ ap (λ (p : PartState). with_part disk part p) (calm_settled (part_of disk part) (honest part).0 (honest part).1 calm)

pub picked_image : (pick cut : ℕ) (part : PartState) (file : List ℕ) → part.least ≤ part.greatest → IsPicked pick cut part file → IsPartImage part file
picked_image pick cut part file le picked = record {
  no_shorter = omega (arith, picked.long);
  no_longer = omega (arith, picked.long, le);
  kept = picked.kept;
}

pub picked_disk : (pick cut : ℕ) (disk new : DiskState) → IsHonest disk → ((part : Part) → IsPicked pick cut (part_of disk part) (part_of new part).bytes) → MayLeave disk (λ part. (part_of new part).bytes)
picked_disk pick cut disk new honest picked = λ part. picked_image pick cut (part_of disk part) (part_of new part).bytes (omega (arith, (honest part).0, (honest part).1)) (picked part)

writes-push : (calls : List Call) (call : Call) → count_by is_write (calls ++ call ∷ []) ≡ count_by is_write calls + count_by is_write (call ∷ [])
writes-push calls call = sum_by-append (λ (c : Call). cond (is_write c) 1 0) calls (call ∷ [])

owed_with : (disk : DiskState) (part : Part) (value : PartState) → owed_by (with_part disk part value) ≤ owed_by disk + 3
owed_with disk Root value = omega (arith, owed_most value)
owed_with disk Even value = omega (arith, owed_most value)
owed_with disk Odd value = omega (arith, owed_most value)

-- a write and its entry
pub write_goes : (part : Part) (at : ℕ) (bytes : Vec ℕ Global) (old new : DiskState) → at ≤ length (part_of old part).bytes → new ≡ with_part old part (wrote (part_of old part) at bytes.items)
    → (replayed : DiskState) → Replays replayed old → Replays (step replayed (Write part at bytes)) new
write_goes part at bytes old new within is replayed leads =
    subst (λ (d : DiskState). Replays (step replayed (Write part at bytes)) d) (sym is)
    (leads_with part replayed old (wrote (part_of replayed part) at bytes.items) (wrote (part_of old part) at bytes.items) leads (leads_write at bytes.items (part_of replayed part) (part_of old part) within (leads part)))

pub write_bounded : (part : Part) (at : ℕ) (bytes : Vec ℕ Global) (old new : DiskState) (value : PartState) (calls : List Call) → new ≡ with_part old part value
    → (first : DiskState) → IsBounded first calls old → IsBounded first (calls ++ Write part at bytes ∷ []) new
write_bounded part at bytes old new value calls is first within =
    omega (arith, within, ap owed_by is, owed_with old part value, length-append calls (Write part at bytes ∷ []), writes-push calls (Write part at bytes))

-- a cut and its entry
pub cut_goes : (part : Part) (old new : DiskState) → new ≡ with_part old part (after_cut (part_of old part)) → (replayed : DiskState) → Replays replayed old → Replays (step replayed (Cut part)) new
cut_goes part old new is replayed leads =
    subst (λ (d : DiskState). Replays (step replayed (Cut part)) d) (sym is)
    (leads_with part replayed old (after_cut (part_of replayed part)) (after_cut (part_of old part)) leads (record { bytes = refl; unsure = (leads part).unsure; least = refl; greatest = (leads part).greatest }))

pub cut_bounded : (part : Part) (old new : DiskState) (calls : List Call) → owed_by new + 1 ≤ owed_by old → (first : DiskState) → IsBounded first calls old → IsBounded first (calls ++ Cut part ∷ []) new
cut_bounded part old new calls less first within = omega (arith, within, less, length-append calls (Cut part ∷ []), writes-push calls (Cut part))

-- a cut of a part whose least length is 0 already changes no image
pub cut_unseen : (part : Part) (old new : DiskState) → (part_of old part).least ≡ 0 → new ≡ with_part old part (after_cut (part_of old part)) → (replayed : DiskState) → Replays replayed old → Replays replayed new
cut_unseen part old new none is replayed leads =
    subst (λ (d : DiskState). Replays d new) (with_same replayed part)
    (subst (λ (d : DiskState). Replays (with_part replayed part (part_of replayed part)) d) (sym is)
    (leads_with part replayed old (part_of replayed part) (after_cut (part_of old part)) leads
    (record { bytes = refl; unsure = (leads part).unsure; least = sym none ∙ (leads part).least; greatest = (leads part).greatest })))

-- a sync and its entry
pub sync_goes : (part : Part) (count : ℕ) (old new : DiskState) → count ≡ length (part_of old part).bytes → new ≡ with_part old part (settled_part (part_of old part).bytes) → (replayed : DiskState) → Replays replayed old → Replays (step replayed (Sync part count)) new
sync_goes part count old new counts is replayed leads =
    subst (λ (d : DiskState). Replays (step replayed (Sync part count)) d) (sym is)
    (subst (λ (n : ℕ). Replays (step replayed (Sync part n)) (with_part old part (settled_part (part_of old part).bytes))) (sym counts)
    (leads_with part replayed old (settled_part (take (length (part_of old part).bytes) (part_of replayed part).bytes)) (settled_part (part_of old part).bytes) leads (leads_settled (part_of old part).bytes (part_of replayed part).bytes (leads part).bytes)))

pub sync_bounded : (part : Part) (count : ℕ) (old new : DiskState) (calls : List Call) → owed_by new + 1 ≤ owed_by old → (first : DiskState) → IsBounded first calls old → IsBounded first (calls ++ Sync part count ∷ []) new
sync_bounded part count old new calls less first within = omega (arith, within, less, length-append calls (Sync part count ∷ []), writes-push calls (Sync part count))

-- a sync of a part at rest leaves the disk as it is
pub same_recorded : (old new : DiskState) (calls : List Call) → new ≡ old → IsRecorded old new calls calls
same_recorded old new calls is = subst (λ (d : DiskState). IsRecorded old d calls calls) (sym is)
    (not_recorded old old calls (λ replayed leads. leads) (leaves_itself old) (omega arith))

-- a cut of such a part leaves what a crash could leave before
pub cut_same : (part : Part) (old new : DiskState) → (part_of old part).least ≡ 0 → new ≡ with_part old part (after_cut (part_of old part)) → LeavesTheSame old new
cut_same part old new none is = subst (λ (d : DiskState). LeavesTheSame old d) (sym is) (record {
  later = λ image may. with_image part old (after_cut (part_of old part)) image may (record { no_shorter = omega arith; no_longer = (may part).no_longer; kept = λ place below outside. absurd (omega (arith, below)) });
  earlier = λ image may. let here = with_here part old (after_cut (part_of old part)) image may in
      without_image part old (after_cut (part_of old part)) image may (record { no_shorter = omega (arith, none); no_longer = here.no_longer; kept = λ place below outside. absurd (omega (arith, below, none)) });
})

pub length_synced : (part : Part) (old new : DiskState) → new ≡ with_part old part (settled_part (part_of old part).bytes) → length (part_of new part).bytes ≡ length (part_of old part).bytes
length_synced part old new is = ap (λ (d : DiskState). length (part_of d part).bytes) is ∙ length_here part old (settled_part (part_of old part).bytes)
  where
    length_here : (part : Part) (disk : DiskState) (value : PartState) → length (part_of (with_part disk part value) part).bytes ≡ length value.bytes
    length_here Root disk value = refl
    length_here Even disk value = refl
    length_here Odd disk value = refl
