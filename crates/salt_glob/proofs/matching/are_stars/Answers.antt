use Rattle.std.proofs.Common.{drop, ◌∙◌, sym}
use Rattle.salt_glob.proofs.Pieces.{stars_hold, hold_stars}
use Rattle.salt_glob.proofs.matching.are_stars.Goals as goal

pub returns : goal.returns
returns c = (
  λ e. stars_hold (drop c.args.from c.args.pattern.now) (sym c.are_stars.ensures ∙ e),
  λ h. c.are_stars.ensures ∙ hold_stars (drop c.args.from c.args.pattern.now) h,
)
