-- The limits of a fleet. All are this project's own.
use Rattle.std.specs.Prelude.{ℕ, ◌+◌}

-- the greatest number of minions
abbrev pub most_minions : ℕ
most_minions = 4096

-- the greatest number of syndics
abbrev pub most_syndics : ℕ
most_syndics = 256

-- the greatest number of nodes: a top, syndics and minions
abbrev pub most_nodes : ℕ
most_nodes = 1 + most_syndics + most_minions

-- the greatest number of levels, of which the top is the first
abbrev pub most_levels : ℕ
most_levels = 8

-- the greatest number of jobs that a fleet may say that its top holds; a job's number is below it
abbrev pub most_jobs : ℕ
most_jobs = 65535

-- the bytes of the shortest part of a journal that a fleet may set as its limit
abbrev pub least_journal_limit : ℕ
least_journal_limit = 64

-- the bytes of the longest one
abbrev pub most_journal_limit : ℕ
most_journal_limit = 1073741824
