use Rattle.std.proofs.Common.{arith}
use Rattle.std.proofs.lemmas.Grind.{common_steps}
use Rattle.job_store.proofs.Stores.{count_of}
use Rattle.job_store.proofs.store.JobStore.count.Goals as goal

pub returns : goal.returns
returns c = record { value = grind (arith, common_steps, c.len.ensures, count_of _ _ c.self.invariant _ c.self.view_is) }
