use Rattle.std.proofs.Common.{◌≡◌, drop}
use Rattle.std.specs.List.{list_any}
use Rattle.salt_glob.specs.LowerCase.{glob_caseless}
use Rattle.target_match.proofs.data.any_key_meets.Given as goal

abbrev pub invariant-loop-name : goal.invariant-loop-name
invariant-loop-name l = list_any (λ p. glob_caseless l.glob p.0) l.pairs ≡ list_any (λ p. glob_caseless l.glob p.0) (drop l.name-index l.pairs)
