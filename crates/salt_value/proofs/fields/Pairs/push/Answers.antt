use Rattle.salt_value.proofs.KeyLemmas.{ascends-push}
use Rattle.salt_value.proofs.fields.Pairs.push.Goals as goal

pub invariant_of-self-2 : goal.invariant_of-self-2
invariant_of-self-2 g c = rw c.in_ok-push.ensures.items (ascends-push c.self.inside.pairs.items (c.args.key, c.args.value) c.self.invariant (rw c.self.view_is c.requires))
