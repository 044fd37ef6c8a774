use Rattle.std.proofs.Common.{[], ◌∷◌, refl, codes, bytes_eq}
use Rattle.std.specs.List.{IsDistinct}
use Rattle.tests_nodes.proofs.fleets.flat.Goals as goal

three : IsDistinct bytes_eq (codes "top" ∷ codes "m2" ∷ codes "m1" ∷ [])
unfolding IsDistinct
three = ((refl, (refl, tt)), ((refl, tt), (tt, tt)))

pub flat-requires-clause-distinct : goal.flat-requires-clause-distinct
flat-requires-clause-distinct c = rw (c.in_ok-push-2.ensures.ok, c.in_ok-push.ensures.ok, c.new-minions.ensures, c.in-Ok.ensures.ok.0, c.in-Ok-read.ensures.ok.0, c.in-Ok-read-2.ensures.ok.0) three
