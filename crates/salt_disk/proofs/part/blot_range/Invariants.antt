use Rattle.std.proofs.Common.{◌≡◌, ◌⊎◌, ◌<◌, ◌≤◌, ℕ, get_or}
use Rattle.salt_disk.proofs.part.blot_range.Given as goal

abbrev pub invariant-loop-place : goal.invariant-loop-place
invariant-loop-place l = record {
  kept : (k : ℕ) → (k < l.range.start) ⊎ (l.range.end ≤ k) → get_or l.image k 0 ≡ get_or l.initial.image k 0;
  picked : (k : ℕ) → l.range.start ≤ k → k < l.place → get_or l.image k 0 ≡ l.pick;
}
