use Rattle.salt_glob.proofs.Folds.{either_some, either_none}
use Rattle.salt_glob.proofs.folded.before_either.Goals as goal

pub returns-clause-some : goal.returns-clause-some
returns-clause-some c = either_some c.memchr2.result c.args.bytes.now c.args.byte c.to_ascii_uppercase.result c.to_ascii_uppercase.ensures.value c.memchr2.ensures

pub returns-clause-none : goal.returns-clause-none
returns-clause-none c = either_none c.memchr2.result c.args.bytes.now c.args.byte c.to_ascii_uppercase.result c.to_ascii_uppercase.ensures.value c.memchr2.ensures
