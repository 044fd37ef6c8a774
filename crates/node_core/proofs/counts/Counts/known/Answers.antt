use Rattle.std.proofs.Common.{◌≡◌, subst, List, ℕ}
use Rattle.node_core.specs.Counts.{known_count}
use Rattle.node_core.proofs.Known.{known_some, known_none}
use Rattle.node_core.proofs.counts.Counts.known.Goals as goal

pub returns-in-Some : goal.returns-in-Some
returns-in-Some c = record {
  value = subst (λ (es : List (ℕ × ℕ)). c.in-Some.count.now ≡ known_count es c.args.node) c.self.view_is (known_some c.self.inside.map.entries c.args.node c.in-Some.count.now c.in-Some.ensures.value);
}

pub returns-in-None : goal.returns-in-None
returns-in-None c = record {
  value = subst (λ (es : List (ℕ × ℕ)). 0 ≡ known_count es c.args.node) c.self.view_is (known_none c.self.inside.map.entries c.args.node c.in-None.ensures.value);
}
