use Rattle.std.proofs.Common.{◌≡◌, ◌+◌, length, drop, map}
use Rattle.std.specs.List.{list_all}
use Rattle.salt_value.specs.Spelling.{concatenation}
use Rattle.salt_wire.specs.Spelling.{id}
use Rattle.salt_wire.specs.Limits.{is_id}
use Rattle.salt_wire.proofs.fit.after_ids.Given as goal

abbrev pub invariant-loop-id : goal.invariant-loop-id
invariant-loop-id l = (list_all is_id l.ids ≡ list_all is_id (drop l.id-index l.ids))
    × (length (concatenation (map id l.ids)) + l.left ≡ length (concatenation (map id (drop l.id-index l.ids))) + l.bytes)
