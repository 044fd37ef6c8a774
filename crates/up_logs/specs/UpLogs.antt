-- The logs that a master keeps of the minions below it: a list of logs, in the order of the minions' places.
use Rattle.std.specs.Prelude.{ℕ, ◌<◌, ◌^◌, List, [], ◌∷◌, ◌++◌, ◌-◌, length, take, get_or, set, replicate, All}
use Rattle.salt_wire.specs.declared.message.Entry.{Entry}
use Rattle.salt_wire.specs.Limits.{EntryFits}

-- the log of the minion at place i, empty past the end
abbrev pub log_at : List (List Entry) → ℕ → List Entry
log_at logs i = get_or logs i []

-- the logs with an entry more at the end of the log at place i
abbrev pub with_entry : ℕ → Entry → List (List Entry) → List (List Entry)
with_entry i entry logs = set logs i (log_at logs i ++ entry ∷ [])

-- a log without its last entry
abbrev pub without_last : List Entry → List Entry
without_last log = take (length log - 1) log

-- the logs without the last entry of the log at place i
abbrev pub with_entry_less : ℕ → List (List Entry) → List (List Entry)
with_entry_less i logs = set logs i (without_last (log_at logs i))

-- n empty logs
abbrev pub empty_logs : ℕ → List (List Entry)
empty_logs n = replicate n []

-- a log has fewer than 2 ^ 32 entries. No public contract cites it.
abbrev pub IsShortLog : List Entry → Type 0
IsShortLog log = length log < 2 ^ 32

-- There are fewer than 2 ^ 32 logs, each is short, and each entry is within the limits of messages. No public contract cites it.
pub record AreSoundLogs (logs : List (List Entry)) : Type 0 where
  pub few : length logs < 2 ^ 32
  pub short : All IsShortLog logs
  pub fit : All (All EntryFits) logs
