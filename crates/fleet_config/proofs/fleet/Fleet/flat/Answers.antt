use Rattle.std.proofs.Common.{◌∙◌, sym, arith}
use Rattle.fleet_config.proofs.Fleets.{ids_of, flat_is_tree, flat_minions, flat_syndics}
use Rattle.fleet_config.proofs.fleet.Fleet.flat.Goals as goal

pub index-requires-clause-distinct : goal.index-requires-clause-distinct
index-requires-clause-distinct c = rw (c.as_slice-2.ensures.value, c.in_ok-members.ensures.ok, c.as_slice.ensures, ids_of c.args.top c.args.minions) c.requires.distinct

pub invariant_of-result : goal.invariant_of-result
invariant_of-result c = (
  record {
    tree = λ some. rw (c.in_ok-members.ensures.ok, c.as_slice.ensures) (flat_is_tree c.args.top c.args.minions c.requires.distinct c.requires.few);
    found = rw (sym c.as_slice-2.ensures.value) c.in_ok-places.ensures.ok;
    minions = rw (c.in_ok-members.ensures.ok, c.as_slice.ensures) (c.len.ensures ∙ sym (flat_minions c.args.top c.args.minions));
    syndics = rw (c.in_ok-members.ensures.ok, c.as_slice.ensures) (sym (flat_syndics c.args.top c.args.minions));
  },
  record { some_jobs = omega arith; few_jobs = omega arith; least = omega arith; most = omega arith },
)
