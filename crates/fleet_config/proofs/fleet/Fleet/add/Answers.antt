use Rattle.std.proofs.Common.{◌≡◌, ◌∙◌, sym, ap, subst, cond, Some, None, length, bytes_eq}
use Rattle.indexmap.specs.IndexMap.{get}
use Rattle.fleet_config.specs.declared.fleet.Member.{Member}
use Rattle.fleet_config.specs.Fleet.{FleetConfig}
use Rattle.fleet_config.specs.Growth.{node_fault}
use Rattle.fleet_config.proofs.Growth.{grown_index, same_index}
use Rattle.fleet_config.proofs.fleet.Fleet.add.Goals as goal

pub invariant_of-self : goal.invariant_of-self
invariant_of-self c = (same_index _ _ _ _ _ _ c.self.invariant.0 c.in_err-push_node.ensures.err_members c.in_err-push_node.ensures.err_places, c.self.invariant.1)

pub invariant_of-self-2 : goal.invariant_of-self-2
invariant_of-self-2 c =
    let none = subst (λ (f : FleetConfig). node_fault f.tree c.args.node ≡ None) (sym c.self.view_is) (sym c.fault_of.ensures.value ∙ c.in_default.is) in
    let place = c.new-place.ensures ∙ c.count.ensures.value ∙ ap (λ (f : FleetConfig). length f.tree) (sym c.self.view_is) in (
      rw (c.in_ok-push_node.ensures.members, c.member_of.ensures.value, c.one_where.ensures.value, c.runs_jobs.ensures.value, c.one_where-2.ensures.value, c.is_syndic.ensures.value)
          (grown_index c.self.inside.members.items c.self.inside.places c.push_node.new.places _ _ c.args.node c.self.invariant.0 none
          (λ id. c.in_ok-push_node.ensures.places id
          ∙ ap (λ (m : Member). cond (bytes_eq m.id id) (Some c.new-place.result) (get bytes_eq c.self.inside.places id)) c.member_of.ensures.value
          ∙ ap (λ n. cond (bytes_eq c.args.node.id id) (Some n) (get bytes_eq c.self.inside.places id)) place)),
      c.self.invariant.1,
    )
