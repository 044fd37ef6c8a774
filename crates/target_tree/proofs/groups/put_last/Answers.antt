use Rattle.std.proofs.Common.{◌≡◌, ◌∷◌, ◌++◌, [], List, sym, subst, ◌∙◌, bytes_eq}
use Rattle.indexmap.proofs.CallerLemmas.{insert_entry-new}
use Rattle.target_tree.specs.Nodegroups.{Group, HaveIds}
use Rattle.target_tree.proofs.Named.{ids-more}
use Rattle.target_tree.proofs.groups.put_last.Goals as goal

pub returns-in-Ok-clause-ok : goal.returns-in-Ok-clause-ok
returns-in-Ok-clause-ok c = c.in-Ok.ensures.entries ∙ insert_entry-new bytes_eq c.args.texts.now c.args.name c.args.text c.requires.absent

pub returns-in-Ok-clause-ids : goal.returns-in-Ok-clause-ids
returns-in-Ok-clause-ids c =
    let added : c.insert.new.self.entries ≡ c.args.texts.now.entries ++ (c.args.name, c.args.text) ∷ [] =
    c.in-Ok.ensures.entries ∙ insert_entry-new bytes_eq c.args.texts.now c.args.name c.args.text c.requires.absent in
    subst (λ (groups : List Group). HaveIds groups) (sym added) (ids-more c.args.texts.now.entries c.args.name c.args.text c.requires.ids c.requires.id)
