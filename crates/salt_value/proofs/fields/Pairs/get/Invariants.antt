use Rattle.std.proofs.Common.{◌≡◌, drop}
use Rattle.salt_value.specs.Keys.{under}
use Rattle.salt_value.proofs.fields.Pairs.get.Given as goal

abbrev pub invariant-loop-name : goal.invariant-loop-name
invariant-loop-name g l = under l.key (drop l.name-index l.self) ≡ under l.key l.self
