use Rattle.std.proofs.Common.{◌≡◌, drop}
use Rattle.std.specs.List.{list_any}
use Rattle.regex.specs.Strings.{regex_source, matcher_pattern}
use Rattle.target_match.specs.Patterns.{starts}
use Rattle.target_match.proofs.reach.any_key_passes.Given as goal

abbrev pub invariant-loop-name : goal.invariant-loop-name
invariant-loop-name l = record {
  kept : matcher_pattern l.matcher ≡ matcher_pattern l.initial.matcher;
  same : list_any (λ p. starts (regex_source l.pattern) p.0) l.pairs ≡ list_any (λ p. starts (regex_source l.pattern) p.0) (drop l.name-index l.pairs);
}
