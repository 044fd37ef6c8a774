use Rattle.std.proofs.Common.{◌++◌, refl, sym, ap, ◌∙◌}
use Rattle.std.specs.Prelude.{codes}
use Rattle.script_text.proofs.Drafts.{parent_taken, parent_stops, keys_joined}
use Rattle.script_text.proofs.Numbers.{not_both}
use Rattle.script_text.proofs.draft.Draft.take_parent.Goals as goal

pub returns-in_ok-insert : goal.returns-in_ok-insert
returns-in_ok-insert c =
    let line = c.is_parent_line.ensures.0 c.if-is_parent_line.true ∙ ap (λ t. codes "  parent: " ++ t) c.as_bytes.ensures.value in
    let keys = (c.in_ok-insert.ensures {u = tt}).keys ∙ keys_joined c.args.self.now c.requires.draft c.requires.stage in
    parent_taken c.args.self.now _ c.args.line.now c.requires.draft c.requires.stage line
    (record { top = refl; keys = keys; last = refl; turns = refl; stage = refl })

pub returns-else-is_parent_line : goal.returns-else-is_parent_line
returns-else-is_parent_line c =
    parent_stops c.args.self.now c.args.line.now c.requires.stage
    (λ h. not_both _ c.if-is_parent_line.false (c.is_parent_line.ensures.1 (h ∙ ap (λ t. codes "  parent: " ++ t) (sym c.as_bytes.ensures.value))))
