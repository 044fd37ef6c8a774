use Rattle.std.proofs.Common.{◌≡◌, ◌+◌, ◌*◌, drop, map}
use Rattle.std.specs.List.{list_any}
use Rattle.regex.specs.Strings.{regex_source, matcher_pattern}
use denote.Param.Weighed.{most}
use Rattle.salt_value.specs.declared.value.Value.{size-Value}
use Rattle.salt_value.specs.Keys.{under}
use Rattle.target_match.specs.Patterns.{starts}
use Rattle.target_match.specs.Data.{reaches, child_passes, reaches_pairs}
use Rattle.target_match.proofs.reach.+reached.Given as goal

abbrev pub decreases-reached : goal.decreases-reached
decreases-reached l = 3 * size-Value l.value.now

abbrev pub decreases-any_reached : goal.decreases-any_reached
decreases-any_reached l = 3 * most size-Value l.items.now + 1

abbrev pub decreases-pairs_reached : goal.decreases-pairs_reached
decreases-pairs_reached l = 3 * most size-Value (map (λ p. p.1) l.pairs.now) + 2

abbrev pub decreases-child_reached : goal.decreases-child_reached
decreases-child_reached l = 3 * most size-Value (map (λ p. p.1) l.pairs.now) + 1

abbrev pub invariant-any_reached-loop-item : goal.invariant-any_reached-loop-item
invariant-any_reached-loop-item l = record {
  kept : matcher_pattern l.matcher ≡ matcher_pattern l.initial.matcher;
  same : list_any (λ v. reaches (starts (regex_source l.pattern)) v l.path) l.items ≡ list_any (λ v. reaches (starts (regex_source l.pattern)) v l.path) (drop l.item-index l.items);
}

abbrev pub invariant-child_reached-loop-name : goal.invariant-child_reached-loop-name
invariant-child_reached-loop-name l = record {
  kept : matcher_pattern l.matcher ≡ matcher_pattern l.initial.matcher;
  same : child_passes (under l.key (reaches_pairs (starts (regex_source l.pattern)) l.pairs)) l.path ≡ child_passes (under l.key (reaches_pairs (starts (regex_source l.pattern)) (drop l.name-index l.pairs))) l.path;
}
