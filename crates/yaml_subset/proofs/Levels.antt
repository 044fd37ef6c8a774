-- A block by its levels.
use Rattle.std.proofs.Common.{◌≡◌, ℕ, zero, suc, ◌<◌, ◌-◌, List, refl, arith}
use Rattle.yaml_subset.specs.Rows.{IndentedLine}
use Rattle.yaml_subset.specs.Blocks.{block, block_of}
use Rattle.yaml_words.specs.Faults.{refused}
use Rattle.yaml_words.specs.declared.fault.YamlCause.TheVariants.{TooDeep}

pub block-none : (levels : ℕ) (first : IndentedLine) (rest : List IndentedLine) → levels ≡ 0 → block levels first rest ≡ refused first.number TooDeep
unfolding block
block-none levels first rest e = rw e refl

pub block-some : (levels : ℕ) (first : IndentedLine) (rest : List IndentedLine) → 0 < levels → block levels first rest ≡ block_of (levels - 1) (block (levels - 1)) first rest
unfolding block
block-some zero first rest h = absurd (omega arith)
block-some (suc n) first rest h = let e : suc n - 1 ≡ n = omega arith in rw e refl
