-- A failure and the count beside it.
use Rattle.std.proofs.Common.{◌≡◌, ℕ, ◌≤◌, arith}
use Rattle.salt_outside.specs.Causes.{next_count, CountsFaults}

-- a failure that was counted
pub counted : {failed : Type 0} (before now : ℕ) → before ≤ now → now ≡ next_count before → failed → CountsFaults failed before now
counted before now later next is = record {
  rose = λ _. omega (arith, next);
  kept = λ not. absurd (not is);
  later = later;
}
