-- The payloads that a load finds, and where their records stand.
use Rattle.std.specs.Prelude.{◌≡◌, ◌<◌, ◌+◌, ℕ, List, length, take, slice_index}
use Rattle.gate_journal.specs.Journal.{records}

-- Payloads in order, and the place at which the gate of the first one stands.
pub record PlacedPayloads : Type 0 where
  pub first : ℕ
  pub items : List (List ℕ)

-- the place of the gate of record i: the records before it stand between
abbrev pub gate_place : PlacedPayloads → ℕ → ℕ
gate_place payloads i = payloads.first + length (records (take i payloads.items))

-- There is one place for each payload, and it is that of its gate. No public contract cites it.
pub record ArePlaced (first : ℕ) (items : List (List ℕ)) (places : List ℕ) : Type 0 where
  pub counts : length places ≡ length items
  pub placed : (i : ℕ) → i < length items → slice_index places i ≡ first + length (records (take i items))
