-- What a target that is one glob of ids answers, which asks nothing of what a minion holds.
use Rattle.std.specs.Prelude.{◌≡◌, ℕ, Bool, List, None}
use Rattle.exec_functions.specs.declared.holdings.Holdings.{Holdings}
use Rattle.salt_wire.specs.declared.message.Job.{Job}
use Rattle.target_match.specs.Readability.{unread_leaf}
use Rattle.minion_core.specs.Flat.{does_hold}

-- The answer of a job's target for the minion with this id, whatever it holds, and no pattern. No public contract cites it.
pub record IsAnswerById (job : Job) (id : List ℕ) (answer : Bool) : Type 0 where
  pub is : (held : Holdings) → answer ≡ does_hold job id held
  pub readable : unread_leaf job.target ≡ None
