-- A tree that may have more levels begins with a tag.
use Rattle.std.proofs.Common.{◌≡◌, ℕ, suc, ◌-◌, ◌<◌, List, Err, ap, arith}
use Rattle.salt_value.specs.Readers.{◌>>=◌}
use Rattle.salt_wire.specs.declared.tree.Room.{Room}
use Rattle.salt_wire.specs.Decoding.{misreading, tag_field, node_after, tree_at}

pub tree_at-none : (n : ℕ) (room : Room) (bytes : List ℕ) → n ≡ 0 → tree_at n room bytes ≡ Err (misreading bytes)
unfolding tree_at
tree_at-none n room bytes e = ap (λ k. tree_at k room bytes) e

pub tree_at-some : (n : ℕ) (room : Room) (bytes : List ℕ) → 0 < n → tree_at n room bytes ≡ (tag_field room bytes >>= λ tag. node_after (tree_at (n - 1)) tag.0 tag.1 tag.2)
unfolding tree_at
tree_at-some n room bytes lt = let e : n ≡ suc (n - 1) = omega arith in ap (λ k. tree_at k room bytes) e

pub ruleset tree_steps = (tree_at-none, tree_at-some)
