use Rattle.std.proofs.Common.{ap, sym, ◌∙◌}
use Rattle.serde_json.specs.Written.{has_float}
use Rattle.value_json.proofs.Back.{data_levels, read_back}
use Rattle.value_json.proofs.writing.to_text.Goals as goal

pub returns-clause-read_back : goal.returns-clause-read_back
returns-clause-read_back c = λ h.
    let tree = c.in_ok-tree.ensures.view in
    read_back c.args.value.now c.new.result h (sym (ap has_float tree) ∙ c.in_ok-tree.ensures.whole)
    (rw c.new.ensures (rw (sym tree) (c.in_ok-to_string.ensures.reads_back (rw tree (data_levels c.args.value.now h)))))
