use Rattle.std.proofs.Common.{rules, ◌<◌, length}
use Rattle.std.proofs.lemmas.List.Sorted.{All-permutation}
use Rattle.std.proofs.lemmas.Fn.{always_returns_same}
use Rattle.fleet_config.specs.Tree.{id_of}
use Rattle.tree_world.specs.Report.{is_before}
use Rattle.tree_world.proofs.Orders.{sorted_is, is_order}
use Rattle.tree_world.proofs.report.sort_by_id.Goals as goal

pub returns-clause-ok : goal.returns-clause-ok
returns-clause-ok c =
    let order = is_order c.args.fleet.now.tree in
    let compares = always_returns_same _ _ _ (λ a r f k. (search rules, search rules)) in
    sorted_is (λ a b. is_before (id_of c.args.fleet.now.tree a) (id_of c.args.fleet.now.tree b)) order _ _ c.sort_by.ensures.permutation
    (c.in_ok-sort_by.ensures.sorted _ order compares) (c.sort_by.ensures.stable _ order compares)

pub returns-clause-within : goal.returns-clause-within
returns-clause-within c = λ h. All-permutation (λ m. m < length c.args.fleet.now.tree) _ _ c.sort_by.ensures.permutation h
