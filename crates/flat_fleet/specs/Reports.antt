-- The reports of the flat fleet.
use Rattle.std.specs.Prelude.{ℕ, ◌≡◌, ◌<◌, ◌+◌, length, take, map, zero, suc, List, [], ◌∷◌, ◌++◌, filter_map, Option, None, Some, slice_get, if◌then◌else◌}
use Rattle.salt_value.specs.declared.outcome.Outcome.{Outcome}
use Rattle.exec_functions.specs.Exec.{run, with_change}
use Rattle.target_tree.specs.declared.target.Target.{Target}
use Rattle.salt_wire.specs.declared.message.Job.{Job}
use Rattle.salt_value.specs.declared.outcome.Row.{Row}
pub use Rattle.minion_core.specs.Flat.{row_of}
use Rattle.minion_core.specs.Flat.{does_hold, flat_up, return_of}
use Rattle.flat_fleet.specs.declared.report.FlatMinion.{FlatMinion}
use Rattle.flat_fleet.specs.declared.report.FlatReport.{FlatReport}

-- the rows of job number k: of each minion its return in the flat minion's entries, if there is one
abbrev pub job_rows : ℕ → List FlatMinion → List Job → List Row
job_rows k fleet jobs = filter_map (λ m. row_of m.id (return_of k (flat_up 0 m.id m.held jobs))) fleet

-- the report of a job with this number, if there is one
abbrev pub report_of : ℕ → List FlatMinion → List Job → Option Job → List FlatReport
report_of k fleet jobs None = []
report_of k fleet jobs (Some job) = record { jid = job.jid; fun = job.fun; rows = job_rows k fleet jobs } ∷ []

-- the reports of the first so many jobs
abbrev pub reports_to : ℕ → List FlatMinion → List Job → List FlatReport
reports_to zero fleet jobs = []
reports_to (suc k) fleet jobs = reports_to k fleet jobs ++ report_of k fleet jobs (slice_get jobs k)

-- the reports of all jobs
abbrev pub flat_reports : List FlatMinion → List Job → List FlatReport
flat_reports fleet jobs = reports_to (length jobs) fleet jobs

-- the rows of each of these jobs rest on the jobs up to that one alone
abbrev pub RestOnFirstJobs : List FlatMinion → List Job → Type 0
RestOnFirstJobs fleet jobs = (k : ℕ) → k < length jobs → job_rows k fleet (take (k + 1) jobs) ≡ job_rows k fleet jobs

-- each of these targets is that of the job in its place, and there are as many of both
abbrev pub AreBuiltOf : List Job → List Target → Type 0
AreBuiltOf jobs targets = targets ≡ map (λ job. job.target) jobs

-- ---- one step

-- What a job gives on a minion, if its target holds. No public contract cites it.
abbrev pub outcome_of : Job → FlatMinion → Option Outcome
outcome_of job m = if does_hold job m.id m.held then Some (run job.fun job.args m.held).outcome else None

-- The minion after a job. No public contract cites it.
abbrev pub minion_after : Job → FlatMinion → FlatMinion
minion_after job m = record m { held = if does_hold job m.id m.held then with_change (run job.fun job.args m.held).change m.held else m.held }

-- The rows of a job on these minions as they are. No public contract cites it.
abbrev pub rows_after : Job → List FlatMinion → List Row
rows_after job ms = filter_map (λ m. row_of m.id (outcome_of job m)) ms
