use Rattle.std.proofs.Common.{[], ◌∷◌, refl, codes, bytes_eq}
use Rattle.std.specs.List.{IsDistinct}
use Rattle.tests_stores.proofs.masters.master.Goals as goal

two : IsDistinct bytes_eq (codes "m2" ∷ codes "m1" ∷ [])
unfolding IsDistinct
two = ((refl, tt), (tt, tt))

pub new-requires-clause-distinct : goal.new-requires-clause-distinct
new-requires-clause-distinct c = rw (c.in_ok-push-2.ensures.ok, c.in_ok-push.ensures.ok, c.new-minions.ensures, c.in-Ok.ensures.ok.0, c.in-Ok-read.ensures.ok.0) two
