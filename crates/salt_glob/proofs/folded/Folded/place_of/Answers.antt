use Rattle.std.proofs.Common.{◌≡◌, ◌≢◌, ◌-◌, ◌<◌, ◌≤◌, ℕ, length, take, drop, get_or, arith, sym, ap, subst, ◌∙◌, length-drop}
use Rattle.std.specs.Prelude.{Option, IfNone}
use Rattle.salt_glob.proofs.Folds.{folded-length, seen, none_up_to}
use Rattle.salt_glob.proofs.folded.Folded.place_of.Goals as goal

pub returns-in_err-n-clause-none : goal.returns-in_err-n-clause-none
returns-in_err-n-clause-none c =
    let s = c.self.inside in
    let size : length s.bytes.now ≡ length c.args.self.now = sym (folded-length s.is_caseless s.bytes.now) ∙ ap length c.self.view_is in
    let part : length (take (length s.bytes.now - c.args.from) (drop c.args.from s.bytes.now)) ≡ length c.args.self.now - c.args.from
    = ap length (seen c.args.from s.bytes.now) ∙ length-drop c.args.from s.bytes.now ∙ ap (λ n. n - c.args.from) size in
    let none = none_up_to s.is_caseless s.bytes.now c.args.self.now c.args.from (length (take (length s.bytes.now - c.args.from) (drop c.args.from s.bytes.now))) c.args.byte c.self.view_is c.in_err-n.ensures.none in
    subst (λ (r : Option ℕ). IfNone r ((k : ℕ) → c.args.from ≤ k → k < length c.args.self.now → get_or c.args.self.now k 0 ≢ c.args.byte)) (sym c.from_residual.ensures)
    (λ k le lt. none k le (omega (arith, part)))

pub returns-clause-some : goal.returns-clause-some
returns-clause-some c =
    let s = c.self.inside in
    let size : length s.bytes.now ≡ length c.args.self.now = sym (folded-length s.is_caseless s.bytes.now) ∙ ap length c.self.view_is in
    let part : length (take (length s.bytes.now - c.args.from) (drop c.args.from s.bytes.now)) ≡ length c.args.self.now - c.args.from
    = ap length (seen c.args.from s.bytes.now) ∙ length-drop c.args.from s.bytes.now ∙ ap (λ n. n - c.args.from) size in
    let some = c.in_ok-n.ensures.some in
    let low = some.0 in
    (omega arith, omega (arith, part, low), none_up_to s.is_caseless s.bytes.now c.args.self.now c.args.from c.in_ok-n.n c.args.byte c.self.view_is some.1)
