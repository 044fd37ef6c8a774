-- How a run of disk calls goes on.
use Rattle.std.proofs.Common.{◌⊎◌, inl, inr, ⊎_elim, ℕ, ◌≤◌, List, [], ◌∷◌, ◌++◌, length, drop, refl, sym, ◌∙◌, ap, subst, arith, append_assoc, length-append}
use Rattle.std.proofs.lemmas.List.{append-nil, drop_at, drop-append-le}
use Rattle.salt_disk.specs.Disk.{DiskState, IsUnchanged}
use Rattle.salt_disk.specs.Crash.{Image, MayLeave, LeavesTheSame, PassesTime, OneMayLeave, LeavesOnly}

one_of : (xs ys : List DiskState) (image : Image) → OneMayLeave (xs ++ ys) image → OneMayLeave xs image ⊎ OneMayLeave ys image
one_of [] ys image one = inr one
one_of (x ∷ xs) ys image (inl here) = inl (inl here)
one_of (x ∷ xs) ys image (inr there) = ⊎_elim (λ left. inl (inr left)) (λ right. inr right) (one_of xs ys image there)

none_since : (past : List DiskState) (image : Image) → OneMayLeave (drop (length past) past) image → ⊥
none_since [] image one = one
none_since (x ∷ past) image one = none_since past image one

-- what a longer past might have left, since a time within the shorter one
since_longer : (past more : List DiskState) (time : ℕ) (image : Image) → time ≤ length past → OneMayLeave (drop time (past ++ more)) image → OneMayLeave (drop time past) image ⊎ OneMayLeave more image
since_longer past more time image within one =
    one_of (drop time past) more image (subst (λ (l : List DiskState). OneMayLeave l image) (drop-append-le time past more within) one)

pub leaves_itself : (disk : DiskState) → LeavesTheSame disk disk
leaves_itself disk = record { later = λ image may. may; earlier = λ image may. may }

-- a disk that stays as it was goes on
pub stays_on : (old new : DiskState) (past since : List DiskState) → IsUnchanged old new past since → PassesTime old new past since
stays_on old new past since stays = inr (record { time = stays.time; same = subst (λ (d : DiskState). LeavesTheSame old d) (sym stays.state) (leaves_itself old) })

module _ {D : Type 0} (past : D → List DiskState) (state : D → DiskState) where
  -- before the first call
  pub started : (old : D) (P : Image → Type 0) → ((image : Image) → MayLeave (state old) image → P image) → LeavesOnly past state old old P
  started old P here = record {
    since = [];
    later = sym (append-nil (past old));
    each = λ image might. ⊎_elim (here image) (λ one. absurd (none_since (past old) image one)) might;
  }

  pub weakens : (old new : D) (P Q : Image → Type 0) → LeavesOnly past state old new P → ((image : Image) → P image → Q image) → LeavesOnly past state old new Q
  weakens old new P Q run p = record { since = run.since; later = run.later; each = λ image might. p image (run.each image might) }

  -- two runs, one after the other
  pub joins : (old mid new : D) (P Q R : Image → Type 0) → LeavesOnly past state old mid P → LeavesOnly past state mid new Q
      → ((image : Image) → P image → R image) → ((image : Image) → Q image → R image) → LeavesOnly past state old new R
  joins old mid new P Q R first second p q = record {
    since = first.since ++ second.since;
    later = second.later ∙ ap (λ (l : List DiskState). l ++ second.since) first.later ∙ append_assoc (past old) first.since second.since;
    each = λ image might. ⊎_elim (λ now. q image (second.each image (inl now))) (λ one. was image (since_longer (past mid) second.since (length (past old)) image
        (omega (arith, ap length first.later, length-append (past old) first.since)) (subst (λ (l : List DiskState). OneMayLeave (drop (length (past old)) l) image) second.later one))) might;
  }
    where
      was : (image : Image) → OneMayLeave (drop (length (past old)) (past mid)) image ⊎ OneMayLeave second.since image → R image
      was image (inl one) = p image (first.each image (inr one))
      was image (inr one) = q image (second.each image (inr (subst (λ (l : List DiskState). OneMayLeave l image)
          (sym (drop_at (past mid) second.since (length (past mid)) refl) ∙ ap (λ (l : List DiskState). drop (length (past mid)) l) (sym second.later)) one)))

  -- one call
  pub one_call : (old new : D) (P : Image → Type 0) → PassesTime (state old) (state new) (past old) (past new)
      → ((image : Image) → MayLeave (state old) image → P image) → ((image : Image) → MayLeave (state new) image → P image) → LeavesOnly past state old new P
  one_call old new P (inl adds) before after = record {
    since = adds.moment ∷ [];
    later = adds.time;
    each = λ image might. ⊎_elim (after image) (λ one. was image (subst (λ (l : List DiskState). OneMayLeave l image)
        (ap (λ (l : List DiskState). drop (length (past old)) l) adds.time ∙ drop_at (past old) (adds.moment ∷ []) (length (past old)) refl) one)) might;
  }
    where
      was : (image : Image) → OneMayLeave (adds.moment ∷ []) image → P image
      was image (inl here) = before image (adds.same.later image here)
      was image (inr none) = absurd none
  one_call old new P (inr still) before after = record {
    since = [];
    later = still.time ∙ sym (append-nil (past old));
    each = λ image might. ⊎_elim (after image) (λ one. absurd (none_since (past old) image (subst (λ (l : List DiskState). OneMayLeave (drop (length (past old)) l) image) still.time one))) might;
  }

  -- one call more
  pub goes_on : (old mid new : D) (P : Image → Type 0) → LeavesOnly past state old mid P → PassesTime (state mid) (state new) (past mid) (past new)
      → ((image : Image) → MayLeave (state new) image → P image) → LeavesOnly past state old new P
  goes_on old mid new P so_far time here =
      joins old mid new P P P so_far (one_call mid new P time (λ image now. so_far.each image (inl now)) here) (λ image p. p) (λ image p. p)
