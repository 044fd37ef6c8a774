use Rattle.std.proofs.Common.{◌≡◌, ◌+◌, ◌*◌, drop, map}
use Rattle.std.specs.List.{list_any}
use denote.Param.Weighed.{most}
use Rattle.salt_value.specs.declared.value.Value.{size-Value}
use Rattle.salt_value.specs.Keys.{under}
use Rattle.target_match.specs.Paths.{parts}
use Rattle.target_match.specs.Data.{meets, child_passes, told_pairs}
use Rattle.target_match.proofs.data.+meets.Given as goal

abbrev pub decreases-meets : goal.decreases-meets
decreases-meets l = 3 * size-Value l.value.now

abbrev pub decreases-any_meets : goal.decreases-any_meets
decreases-any_meets l = 3 * most size-Value l.items.now + 1

abbrev pub decreases-pairs_meet : goal.decreases-pairs_meet
decreases-pairs_meet l = 3 * most size-Value (map (λ p. p.1) l.pairs.now) + 2

abbrev pub decreases-child_meets : goal.decreases-child_meets
decreases-child_meets l = 3 * most size-Value (map (λ p. p.1) l.pairs.now) + 1

abbrev pub invariant-any_meets-loop-item : goal.invariant-any_meets-loop-item
invariant-any_meets-loop-item l = list_any (λ v. meets v (parts l.text)) l.items ≡ list_any (λ v. meets v (parts l.text)) (drop l.item-index l.items)

abbrev pub invariant-child_meets-loop-name : goal.invariant-child_meets-loop-name
invariant-child_meets-loop-name l = child_passes (under l.key (told_pairs l.pairs)) (parts l.text) ≡ child_passes (under l.key (told_pairs (drop l.name-index l.pairs))) (parts l.text)
