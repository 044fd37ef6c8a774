use Rattle.std.proofs.Common.{rules}
use Rattle.checkpoint_log.proofs.PartReads.{root_tells, even_tells, fails_with, ok_with}
use Rattle.checkpoint_log.proofs.log.first_generation.Goals as goal

pub returns-in-Some-clause-ok : goal.returns-in-Some-clause-ok
returns-in-Some-clause-ok c = λ image is_root is_even. fails_with image c.in-Some.fault (root_tells image c.args.root c.in-Some.fault is_root (search rules))

pub returns-in-Ok-clause-ok : goal.returns-in-Ok-clause-ok
returns-in-Ok-clause-ok c = λ image is_root is_even. ok_with image c.args.root c.args.even _ _ is_root (search rules) is_even (search rules)

pub returns-clause-ok : goal.returns-clause-ok
returns-clause-ok c = λ image is_root is_even. fails_with image c.in-Err.fault (even_tells image c.args.root c.args.even c.in-Err.fault is_root (search rules) is_even (search rules))
