use Rattle.std.proofs.Common.{◌≡◌, ◌+◌, ◌<◌, length, arith, Bool, true, false, refl}
use Rattle.salt_glob.specs.Globs.{piece_at, is_star}
use Rattle.salt_glob.proofs.Pieces.{not_star_at}
use Rattle.salt_glob.proofs.Searches.{search_star, search_one, search_none, search_skip, search_stop, search_all, all_later, none_holds}
use Rattle.salt_glob.proofs.matching.after_star.Goals as goal

never : (b : Bool) → b ≡ false → b ≡ true → ⊥
never b e f = cc

pub returns-then-after-len : goal.returns-then-after-len
returns-then-after-len c = (λ e. all_later c.args.pattern.now c.args.text.now c.args.after c.args.from (omega arith) c.requires.from, λ g. refl)

pub returns-then-p-len : goal.returns-then-p-len
returns-then-p-len c =
    let l = c.loop-t in
    let front = c.is_star.ensures.0 c.if-is_star.true in
    (λ e. search_all c.args.pattern.now c.args.text.now c.args.after c.args.from l.after_star l.from_star l.p l.t front.0 front.1 (omega arith) l.invariant, λ g. refl)

pub returns-in_default-next_start : goal.returns-in_default-next_start
returns-in_default-next_start c =
    let l = c.loop-t in
    let front = c.is_star.ensures.0 c.if-is_star.true in
    let low = front.0 in
    let s = search_star c.args.pattern.now c.args.text.now c.args.after c.args.from l.after_star l.from_star l.p l.t (omega arith) front.1 l.invariant in
    (λ e. absurd cc, λ g. absurd (search_stop c.args.pattern.now c.args.text.now c.args.after c.args.from (l.p + 1) l.t c.in_default-next_start.ensures.none s g))

pub loop-t-preserved-then-is_star : goal.loop-t-preserved-then-is_star
loop-t-preserved-then-is_star c =
    let l = c.loop-t in
    let front = c.is_star.ensures.0 c.if-is_star.true in
    let low = front.0 in
    let some = c.in-Some-next_start.ensures.some in
    search_skip c.args.pattern.now c.args.text.now c.args.after c.args.from (l.p + 1) l.t c.in-Some-next_start.start some.0 some.1 some.2
    (search_star c.args.pattern.now c.args.text.now c.args.after c.args.from l.after_star l.from_star l.p l.t (omega arith) front.1 l.invariant)

pub loop-t-preserved-in-Some-taken_or_end : goal.loop-t-preserved-in-Some-taken_or_end
loop-t-preserved-in-Some-taken_or_end c =
    let l = c.loop-t in
    let some = c.in-Some-taken_or_end.ensures.some in
    let low : l.t < length c.args.text.now = omega arith in
    search_one c.args.pattern.now c.args.text.now c.args.after c.args.from l.after_star l.from_star l.p l.t c.in-Some-taken_or_end.n some.0 low (rw (← c.at.ensures.value) some.1) some.2 l.invariant

pub returns-in_default-next_start-2 : goal.returns-in_default-next_start-2
returns-in_default-next_start-2 c =
    let l = c.loop-t in
    let low : l.t < length c.args.text.now = omega arith in
    let single : l.p < length c.args.pattern.now → is_star (piece_at c.args.pattern.now l.p) ≡ false =
    λ h. not_star_at c.args.pattern.now l.p (λ e. never c.is_star.result c.if-is_star.false (c.is_star.ensures.1 (h, e))) in
    let s = search_none c.args.pattern.now c.args.text.now c.args.after c.args.from l.after_star l.from_star l.p l.t low
    (none_holds c.args.pattern.now c.args.text.now l.p l.t low single (λ h. rw (← c.at.ensures.value) (c.in-None.ensures.none h))) l.invariant in
    (λ e. absurd cc, λ g. absurd (search_stop c.args.pattern.now c.args.text.now c.args.after c.args.from l.after_star (l.from_star + 1) c.in_default-next_start-2.ensures.none s g))

pub loop-t-preserved : goal.loop-t-preserved
loop-t-preserved c =
    let l = c.loop-t in
    let low : l.t < length c.args.text.now = omega arith in
    let single : l.p < length c.args.pattern.now → is_star (piece_at c.args.pattern.now l.p) ≡ false =
    λ h. not_star_at c.args.pattern.now l.p (λ e. never c.is_star.result c.if-is_star.false (c.is_star.ensures.1 (h, e))) in
    let some = c.in-Some-next_start-2.ensures.some in
    search_skip c.args.pattern.now c.args.text.now c.args.after c.args.from l.after_star (l.from_star + 1) c.in-Some-next_start-2.start some.0 some.1 some.2
    (search_none c.args.pattern.now c.args.text.now c.args.after c.args.from l.after_star l.from_star l.p l.t low
    (none_holds c.args.pattern.now c.args.text.now l.p l.t low single (λ h. rw (← c.at.ensures.value) (c.in-None.ensures.none h))) l.invariant)
