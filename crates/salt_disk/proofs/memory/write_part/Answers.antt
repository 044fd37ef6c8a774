use Rattle.std.proofs.Common.{ℕ, List, ◌∙◌, ap, arith}
use Rattle.salt_disk.specs.declared.call.Call.TheVariants.{Write}
use Rattle.salt_disk.specs.Disk.{part_of}
use Rattle.salt_disk.specs.History.{with_part, wrote}
use Rattle.salt_disk.specs.Memory.{parts_state, honest_parts}
use Rattle.salt_disk.proofs.Record.{recorded, write_goes, write_bounded, owed_by_most}
use Rattle.salt_disk.proofs.memory.write_part.Goals as goal

pub returns-clause-recorded : goal.returns-clause-recorded
returns-clause-recorded c =
    let old = parts_state c.args.parts.now in
    let new = parts_state c.write.new.self in
    let is = c.in_ok-write.ensures.ok ∙ ap (λ (l : List ℕ). with_part old c.args.part (wrote (part_of old c.args.part) c.args.at l)) c.deref.ensures.value in
    recorded old new c.args.calls.now.items c.push_reserved.new.self.items (Write c.args.part c.args.at c.args.bytes) (honest_parts c.args.parts.now) c.push_reserved.ensures.items
    (write_goes c.args.part c.args.at c.args.bytes old new c.requires.within is)
    (write_bounded c.args.part c.args.at c.args.bytes old new (wrote (part_of old c.args.part) c.args.at c.args.bytes.items) c.args.calls.now.items is)

pub returns-clause-room : goal.returns-clause-room
returns-clause-room c = omega (arith, owed_by_most (parts_state c.write.new.self))
