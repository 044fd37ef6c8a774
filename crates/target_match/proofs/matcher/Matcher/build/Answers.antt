use Rattle.target_match.specs.Holds.{patterns}
use Rattle.target_match.proofs.Leaves.{handed}
use Rattle.target_match.proofs.Unread.{none_unread, fault_told}
use Rattle.target_match.proofs.matcher.Matcher.build.Goals as goal

pub returns-in_err-ready-clause-fault : goal.returns-in_err-ready-clause-fault
returns-in_err-ready-clause-fault c =
    let result = c.from_residual.result in
    fault_told result c.args.target.now
    (handed result c.in_err-ready.field-0.0 (patterns c.args.target.now) 0 c.from_residual.ensures.1 c.in_err-ready.ensures.fault)

pub returns-clause-readable : goal.returns-clause-readable
returns-clause-readable c = none_unread c.args.target.now c.in_ok-ready.ensures.ok.readable
