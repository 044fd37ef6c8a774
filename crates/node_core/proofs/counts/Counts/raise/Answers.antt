use Rattle.std.proofs.Common.{◌≡◌, ◌∙◌, ap, subst, max, nat_eq, List, ℕ}
use Rattle.indexmap.specs.IndexMap.{insert_entry}
use Rattle.node_core.specs.Counts.{known_count, raised_counts}
use Rattle.node_core.proofs.Known.{raised_is}
use Rattle.node_core.proofs.counts.Counts.raise.Goals.{in-Ok, in-Err}
use Rattle.node_core.proofs.counts.Counts.raise.Goals as goal

pub returns-clause-ok : goal.returns-clause-ok
returns-clause-ok c = elim c.match-insert.branch [
  | in-Ok w ↦ rw w.result-is
      (w.in-Ok.ensures.entries
      ∙ ap (λ n. insert_entry nat_eq c.self.inside.map.entries c.args.node n) (c.max-most.ensures ∙ ap (λ n. max c.args.count n) c.known.ensures.value)
      ∙ subst (λ (es : List (ℕ × ℕ)). insert_entry nat_eq c.self.inside.map.entries c.args.node (max c.args.count (known_count es c.args.node)) ≡ raised_counts es c.args.node c.args.count) c.self.view_is (raised_is c.self.inside.map.entries c.args.node c.args.count))
  | in-Err w ↦ rw w.result-is tt
]
