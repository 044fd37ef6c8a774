use Rattle.std.proofs.Common.{◌≡◌, ◌++◌, ◌∷◌, length, take}
use Rattle.std.specs.Int.{w32, to_be_bytes}
use Rattle.salt_value.specs.Spelling.{pairs_spelling, spelled_pairs}
use Rattle.journal_records.proofs.writing.put_fields.Given as goal

abbrev pub invariant-loop-key : goal.invariant-loop-key
invariant-loop-key l = l.out.items ≡ l.fn.out.items ++ 6 ∷ (to_be_bytes w32 (length l.pairs) ++ pairs_spelling (spelled_pairs (take l.key-index l.pairs)))
