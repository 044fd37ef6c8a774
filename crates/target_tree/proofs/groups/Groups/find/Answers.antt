use Rattle.std.proofs.Common.{sym, true≢false, rules}
use Rattle.target_tree.specs.Nodegroups.{HaveIds}
use Rattle.target_tree.proofs.Named.{not-named}
use Rattle.target_tree.proofs.groups.Groups.find.Goals as goal

pub returns-in-Err : goal.returns-in-Err
returns-in-Err c =
    let ids : HaveIds c.args.self.now = search rules in
    not-named c.args.self.now c.args.name.now ids (λ id. absurd (true≢false (sym (c.in-Err.ensures.complete id))))
