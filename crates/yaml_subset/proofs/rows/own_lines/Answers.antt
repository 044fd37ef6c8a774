use Rattle.std.proofs.Common.{◌∙◌, sym}
use Rattle.yaml_subset.specs.Rows.{begins_entry}
use Rattle.yaml_subset.proofs.Cuts.{cut_some, cut_none}
use Rattle.yaml_subset.proofs.rows.own_lines.Goals as goal

pub returns-in-Some-clause-first : goal.returns-in-Some-clause-first
returns-in-Some-clause-first c = λ head.
    rw (c.split_at.ensures.front, c.split_at.ensures.back)
    (cut_some (begins_entry c.args.of_map c.args.column) head c.args.rest.now c.in-Some.at (sym c.head_place.ensures.place ∙ c.in-Some.is))

pub returns-in-None-clause-first : goal.returns-in-None-clause-first
returns-in-None-clause-first c = λ head.
    rw (c.split_at-in-None.ensures.front, c.split_at-in-None.ensures.back)
    (cut_none (begins_entry c.args.of_map c.args.column) head c.args.rest.now (sym c.head_place.ensures.place ∙ c.in-None.is))
