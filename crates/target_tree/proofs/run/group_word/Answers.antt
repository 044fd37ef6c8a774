use Rattle.target_tree.specs.Words.{tokens_of}
use Rattle.target_tree.specs.WaitingTexts.{ReadsOn}
use Rattle.target_tree.specs.declared.token.Token.TheVariants.{Nodegroup}
use Rattle.std.proofs.Common.{◌∷◌}
use Rattle.target_tree.proofs.Steps.{goes-open, shut-goes, handed}
use Rattle.target_tree.proofs.run.group_word.Goals as goal

pub returns : goal.returns
returns c =
    goes-open c.args.groups.now c.args.outer c.args.outers.now c.begin_group.new.outers c.in_ok-text.text.now c.in_ok-inner.inner c.requires.0
    c.in_ok-text.ensures c.in_ok-inner.ensures.outers c.in_ok-inner.ensures.ok

pub returns-in_err-text : goal.returns-in_err-text
returns-in_err-text c =
    handed c.from_residual.result c.in_err-text.field-0.0
    (ReadsOn c.args.groups.now c.args.outers.now c.args.outers.now c.args.outer.reader (Nodegroup c.args.outer.name ∷ tokens_of c.args.outer.rest.now)) c.from_residual.ensures.1
    (shut-goes c.args.groups.now c.args.outers.now c.args.outer.name (tokens_of c.args.outer.rest.now) c.args.outer.reader c.in_err-text.field-0.0 c.requires.0 c.requires.1 c.in_err-text.ensures)
