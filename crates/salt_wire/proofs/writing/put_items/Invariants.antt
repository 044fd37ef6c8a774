use Rattle.std.proofs.Common.{◌≡◌, ◌++◌, ◌∷◌, length, map, take}
use Rattle.std.specs.Int.{w32, to_be_bytes}
use Rattle.salt_value.specs.Spelling.{bytes, concatenation}
use Rattle.salt_wire.proofs.writing.put_items.Given as goal

abbrev pub invariant-loop-item : goal.invariant-loop-item
invariant-loop-item l = l.out.items ≡ l.fn.out.items ++ 5 ∷ (to_be_bytes w32 (length l.items) ++ concatenation (map bytes (take l.item-index l.items)))
