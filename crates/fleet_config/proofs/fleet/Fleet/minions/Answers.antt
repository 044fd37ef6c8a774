use Rattle.std.proofs.Common.{All, ◌<◌, ◌≤◌, length, subst, sym, List, ℕ}
use Rattle.fleet_config.proofs.Owns.{filter_within}
use Rattle.fleet_config.proofs.fleet.Fleet.minions.Goals as goal

pub returns-clause-within : goal.returns-clause-within
returns-clause-within c =
    subst (λ (xs : List ℕ). All (λ m. m < length c.args.self.now.tree) xs) (sym c.loop-other.invariant)
    (filter_within c.args.self.now.tree c.args.node c.loop-other.other (subst (λ n. c.loop-other.other ≤ n) c.count-other-end.ensures.value c.loop-other.auto.other-end))
