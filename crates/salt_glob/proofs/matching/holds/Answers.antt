use Rattle.std.proofs.Common.{◌≡◌, ◌<◌, length, arith, Bool, true, false, sym, ap, ◌∙◌}
use Rattle.salt_glob.specs.Globs.{piece_at, is_star, bytes_taken}
use Rattle.salt_glob.proofs.Pieces.{not_star_at}
use Rattle.salt_glob.proofs.Leads.{lead_one, lead_star, lead_none, lead_end, taken_more}
use Rattle.salt_glob.proofs.matching.holds.Goals as goal

never : (b : Bool) → b ≡ false → b ≡ true → ⊥
never b e f = cc

pub returns-then-is_star : goal.returns-then-is_star
returns-then-is_star c =
    let front = c.is_star.ensures.0 c.if-is_star.true in
    lead_star c.args.pattern.now c.args.text.now c.loop-p.p c.loop-p.t c.after_star.result front.0 front.1 c.loop-p.invariant c.after_star.ensures

pub loop-p-smaller : goal.loop-p-smaller
loop-p-smaller c =
    let some = taken_more c.args.pattern.now c.loop-p.p _ c.in-Some.n (ap (bytes_taken (piece_at c.args.pattern.now c.loop-p.p)) (sym c.at.ensures.value) ∙ sym c.taken.ensures.value ∙ c.in-Some.is) in
    omega arith

pub loop-p-preserved : goal.loop-p-preserved
loop-p-preserved c =
    let low-p : c.loop-p.p < length c.args.pattern.now = omega arith in
    let low : c.loop-p.t < length c.args.text.now = omega (arith, c.loop-p.invariant.within) in
    lead_one c.args.pattern.now c.args.text.now c.loop-p.p c.loop-p.t c.in-Some.n low-p low (ap (bytes_taken (piece_at c.args.pattern.now c.loop-p.p)) (sym c.at.ensures.value) ∙ sym c.taken.ensures.value ∙ c.in-Some.is) c.in-Some.ensures.within c.loop-p.invariant

pub returns-in-None : goal.returns-in-None
returns-in-None c =
    let low-p : c.loop-p.p < length c.args.pattern.now = omega arith in
    let low : c.loop-p.t < length c.args.text.now = omega (arith, c.loop-p.invariant.within) in
    let single : is_star (piece_at c.args.pattern.now c.loop-p.p) ≡ false =
    not_star_at c.args.pattern.now c.loop-p.p (λ e. never c.is_star.result c.if-is_star.false (c.is_star.ensures.1 (low-p, e))) in
    (λ e. absurd cc, λ g. absurd (lead_none c.args.pattern.now c.args.text.now c.loop-p.p c.loop-p.t low-p low single (ap (bytes_taken (piece_at c.args.pattern.now c.loop-p.p)) (sym c.at.ensures.value) ∙ sym c.taken.ensures.value ∙ c.in-None.is) c.loop-p.invariant g))

pub returns : goal.returns
returns c =
    let both = lead_end c.args.pattern.now c.args.text.now c.loop-p.p c.loop-p.t (omega arith) c.loop-p.invariant in
    rw c.len-2.ensures.value both
