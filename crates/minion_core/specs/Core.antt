-- The state of a minion: how often it started, how many jobs it has, what it holds, and its log.
use Rattle.std.specs.Prelude.{ℕ, ◌+◌, List, [], ◌∷◌, ◌++◌, Option}
use Rattle.exec_functions.specs.declared.holdings.Holdings.{Holdings}
use Rattle.salt_wire.specs.declared.message.Job.{Job}
use Rattle.salt_wire.specs.declared.message.Entry.{Entry}
use Rattle.salt_wire.specs.declared.message.Entry.TheVariants.{Start}
use Rattle.salt_wire.specs.declared.deed.Changed.{Changed}
use Rattle.salt_wire.specs.declared.deed.Deed.{Deed}
use Rattle.salt_wire.specs.declared.deed.Deed.TheVariants.{Publish, Up, Fire, React, Intake, Boot, Done}
use Rattle.minion_core.specs.Flat.{held_with, job_record}

-- how often a minion started, how many jobs it has, what it holds, and its log
pub record CoreState : Type 0 where
  pub boots : ℕ
  pub jobs : ℕ
  pub held : Holdings
  pub log : List Entry

-- the record of the next job
abbrev pub next_record : Job → List ℕ → CoreState → Deed
next_record job id s = job_record s.jobs job id s.held

-- the state with a job more, which changed this and has these entries
abbrev pub with_job_run : Option Changed → List Entry → CoreState → CoreState
with_job_run changed entries s = record { boots = s.boots; jobs = s.jobs + 1; held = held_with changed s.held; log = s.log ++ entries }

-- the state after a record
abbrev pub core_after : Deed → CoreState → CoreState
core_after (Publish job) s = s
core_after (Up minion entry) s = s
core_after (Fire event) s = s
core_after (React items) s = s
core_after (Intake job) s = s
core_after Boot s = record { boots = s.boots + 1; jobs = s.jobs; held = s.held; log = s.log ++ Start (s.boots + 1) ∷ [] }
core_after (Done seq changed entries) s = with_job_run changed entries s
