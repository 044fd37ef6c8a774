use Rattle.std.proofs.Common.{ap}
use Rattle.target_match.specs.Patterns.{starts}
use Rattle.target_match.specs.Data.{map_reaches, reaches_pairs}
use Rattle.target_match.proofs.Meeting.{carried}
use Rattle.target_match.proofs.search.Search.reaches.Goals as goal

pub returns-clause-ok : goal.returns-clause-ok
returns-clause-ok c =
    carried c.pairs_reached.result _ _ c.pairs_reached.ensures.ok
    (ap (λ p. map_reaches (starts p) (reaches_pairs (starts p) c.args.fields.now) c.args.path.now) c.self.view_is)
