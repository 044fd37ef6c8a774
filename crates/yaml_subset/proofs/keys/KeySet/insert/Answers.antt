use Rattle.std.proofs.Common.{◌∙◌, ap, not, map}
use Rattle.std.specs.Prelude.{string_bytes}
use Rattle.yaml_subset.proofs.KeyLemmas.{found_by_text, inserted_text}
use Rattle.yaml_subset.proofs.keys.KeySet.insert.Goals as goal

pub returns-clause-ok : goal.returns-clause-ok
returns-clause-ok c =
    c.in_ok-insert.ensures.added ∙ ap not (found_by_text string_bytes c.self.inside.keys.keys c.in_ok-key.key c.args.key.now c.args.self.now (c.in_ok-key.ensures.ok ∙ c.as_str.ensures.value) c.self.view_is)

pub returns-clause-keys : goal.returns-clause-keys
returns-clause-keys c =
    let new = c.in_ok-insert.ensures.keys in
    ap (λ t. map string_bytes t) new
    ∙ inserted_text string_bytes c.self.inside.keys.keys c.in_ok-key.key c.args.key.now c.args.self.now (c.in_ok-key.ensures.ok ∙ c.as_str.ensures.value) c.self.view_is
