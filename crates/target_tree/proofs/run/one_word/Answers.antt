use Rattle.target_tree.specs.Words.{tokens_of}
use Rattle.std.proofs.Common.{◌∷◌}
use Rattle.target_tree.specs.WaitingTexts.{ReadsOn}
use Rattle.target_tree.proofs.Steps.{goes-plain, plain-fails, is_plain, handed}
use Rattle.target_tree.proofs.run.one_word.Goals as goal

pub returns-in_ok-next-in_default : goal.returns-in_ok-next-in_default
returns-in_ok-next-in_default c = goes-plain c.args.groups.now c.args.outers.now c.args.word c.args.reader c.in_ok-next-in_default.next c.args.more.now (is_plain c.args.word c.in_default.not-Nodegroup) c.in_ok-next-in_default.ensures

pub returns-in_err-next-in_default : goal.returns-in_err-next-in_default
returns-in_err-next-in_default c =
    handed c.from_residual.result c.in_err-next-in_default.field-0.0 (ReadsOn c.args.groups.now c.args.outers.now c.args.outers.now c.args.reader (c.args.word ∷ tokens_of c.args.more.now)) c.from_residual.ensures.1
    (plain-fails c.args.groups.now c.args.outers.now c.args.word (tokens_of c.args.more.now) c.args.reader c.in_err-next-in_default.field-0.0 (is_plain c.args.word c.in_default.not-Nodegroup) c.in_err-next-in_default.ensures)
