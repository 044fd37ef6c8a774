use Rattle.std.proofs.Common.{◌∙◌, sym, []}
use Rattle.target_tree.specs.Machine.{GivesTree, machine_tree}
use Rattle.target_tree.proofs.Joins.{sole-run, sole-fails, no-tokens}
use Rattle.target_tree.proofs.Steps.{handed}
use Rattle.target_tree.proofs.read.read_sole.Goals as goal

pub returns : goal.returns
returns c =
    sole-run c.args.kind c.args.groups.now c.args.text.now c.new-outers.result c.one_word.new.outers c.begin-begun.result c.in_ok-next.next c.in_ok-word.word [] c.in_ok-next.rest.now c.run.result
    c.requires (sym c.is_empty.ensures ∙ c.if-is_empty.false) c.if-text-gt-MOST_TEXT_BYTES.false c.new-outers.ensures c.begin-begun.ensures c.in_ok-word.ensures no-tokens c.in_ok-next.ensures c.run.ensures

pub returns-in_err-next : goal.returns-in_err-next
returns-in_err-next c =
    handed c.from_residual-in_err-next.result c.in_err-next.field-0.0 (λ r. GivesTree r (machine_tree c.args.kind c.args.groups.now c.args.text.now)) c.from_residual-in_err-next.ensures.1
    (sole-fails c.args.kind c.args.groups.now c.args.text.now c.new-outers.result c.begin-begun.result c.in_ok-word.word [] c.in_err-next.field-0.0
    c.requires (sym c.is_empty.ensures ∙ c.if-is_empty.false) c.if-text-gt-MOST_TEXT_BYTES.false c.new-outers.ensures c.begin-begun.ensures c.in_ok-word.ensures no-tokens c.in_err-next.ensures)
