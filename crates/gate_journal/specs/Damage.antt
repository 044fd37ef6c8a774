-- Which bytes are no journal, and which are a damaged one.
use Rattle.std.specs.Prelude.{◌≡◌, ◌≢◌, ◌⊎◌, ◌<◌, ◌≤◌, ◌+◌, ◌-◌, ℕ, List, ◌∷◌, ◌++◌, length, take, drop, Result, Ok, Err}
use Rattle.std.specs.Int.{w32, w64, from_be_bytes}
use Rattle.gate_journal.specs.declared.fault.LoadFault.{LoadFault}
use Rattle.gate_journal.specs.declared.fault.LoadFault.TheVariants.{NoMemory, Disk, NotAJournal, Damaged}
use Rattle.gate_journal.specs.Layout.{journal_name, least_limit, greatest_limit, first_gate, fresh_length, record_overhead, open_gate}
use Rattle.gate_journal.specs.Journal.{records, header}

-- the number at place 8
abbrev pub limit_in : List ℕ → ℕ
limit_in bytes = from_be_bytes w64 (take 8 (drop 8 bytes))

-- too short for a header and a gate, another name, or a limit out of range
abbrev pub IsNoJournal : List ℕ → Type 0
IsNoJournal bytes = (length bytes < fresh_length) ⊎ (take 8 bytes ≢ journal_name) ⊎ (limit_in bytes < least_limit) ⊎ (greatest_limit < limit_in bytes)

-- What stands behind an open gate is no whole record with a gate after it, or it goes past the limit.
-- With the gate after it a record has `record_overhead + 1` bytes beside its payload, and behind its own gate one fewer.
-- There is room for so many bytes from the gate on.
abbrev pub IsBroken : ℕ → List ℕ → Type 0
IsBroken room rest = (length rest < 4)
    ⊎ (length rest < record_overhead + from_be_bytes w32 (take 4 rest))
    ⊎ (room < record_overhead + 1 + from_be_bytes w32 (take 4 rest))

-- the first open gate whose record is broken stands at this place
pub record IsDamagedAt (at : ℕ) (bytes : List ℕ) : Type 0 where
  pub limit : ℕ
  pub payloads : List (List ℕ)
  pub rest : List ℕ
  pub bytes_are : bytes ≡ (header limit ++ records payloads) ++ open_gate ∷ rest
  pub place : at ≡ first_gate + length (records payloads)
  pub least : least_limit ≤ limit
  pub greatest : limit ≤ greatest_limit
  pub within : at < limit
  pub broken : IsBroken (limit - at) rest

-- the answer is Ok, or it tells nothing of the bytes: no memory was found, or the disk failed
abbrev pub IsAccepted : {T : Type 0} → Result T LoadFault → Type 0
IsAccepted (Ok journal) = Unit {0}
IsAccepted (Err NoMemory) = Unit {0}
IsAccepted (Err Disk) = Unit {0}
IsAccepted (Err NotAJournal) = ⊥
IsAccepted (Err (Damaged part at)) = ⊥

-- the answer is this refusal, or it tells nothing of the bytes
abbrev pub IsRefused : {T : Type 0} → LoadFault → Result T LoadFault → Type 0
IsRefused fault (Ok journal) = ⊥
IsRefused fault (Err NoMemory) = Unit {0}
IsRefused fault (Err Disk) = Unit {0}
IsRefused fault (Err NotAJournal) = fault ≡ NotAJournal
IsRefused fault (Err (Damaged part at)) = fault ≡ Damaged part at
