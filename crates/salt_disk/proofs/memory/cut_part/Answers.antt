use Rattle.std.proofs.Common.{◌≡◌, ◌≤◌, ◌+◌, ap, arith}
use Rattle.salt_disk.specs.declared.call.Call.TheVariants.{Cut}
use Rattle.salt_disk.specs.Disk.{part_of}
use Rattle.salt_disk.specs.History.{owed_by}
use Rattle.salt_disk.specs.Memory.{parts_state, honest_parts}
use Rattle.salt_disk.proofs.Record.{recorded, not_recorded, cut_goes, cut_bounded, cut_unseen, cut_same, owed_cut, owed_cut_unseen}
use Rattle.salt_disk.proofs.Images.{cut_changes}
use Rattle.salt_disk.proofs.memory.cut_part.Goals as goal

pub returns-then-changes-clause-recorded : goal.returns-then-changes-clause-recorded
returns-then-changes-clause-recorded c =
    let old = parts_state c.args.parts.now in
    let new = parts_state c.cut.new.self in
    let less : owed_by new + 1 ≤ owed_by old = omega (arith, ap owed_by c.cut.ensures, owed_cut old c.args.part (omega (arith, c.least-changes.ensures, c.if-changes.true, (honest_parts c.args.parts.now c.args.part).0))) in
    recorded old new c.args.calls.now.items c.push_reserved.new.self.items (Cut c.args.part) (honest_parts c.args.parts.now) c.push_reserved.ensures.items
    (cut_goes c.args.part old new c.cut.ensures)
    (cut_bounded c.args.part old new c.args.calls.now.items less)

pub returns-then-changes-clause-room : goal.returns-then-changes-clause-room
returns-then-changes-clause-room c =
    let old = parts_state c.args.parts.now in
    omega (arith, ap owed_by c.cut.ensures, owed_cut old c.args.part (omega (arith, c.least-changes.ensures, c.if-changes.true, (honest_parts c.args.parts.now c.args.part).0)))

pub returns-then-changes-clause-still : goal.returns-then-changes-clause-still
returns-then-changes-clause-still c = λ same.
    absurd (cut_changes c.args.part (parts_state c.args.parts.now) (parts_state c.cut.new.self) (honest_parts c.args.parts.now) (omega (arith, c.least-changes.ensures, c.if-changes.true)) c.cut.ensures same)

pub returns-else-changes-clause-recorded : goal.returns-else-changes-clause-recorded
returns-else-changes-clause-recorded c =
    let old = parts_state c.args.parts.now in
    let new = parts_state c.cut.new.self in
    let none : (part_of old c.args.part).least ≡ 0 = omega (arith, c.least-changes.ensures, c.if-changes.false) in
    not_recorded old new c.args.calls.now.items (cut_unseen c.args.part old new none c.cut.ensures) (cut_same c.args.part old new none c.cut.ensures)
    (omega (arith, ap owed_by c.cut.ensures, owed_cut_unseen old c.args.part none))

pub returns-else-changes-clause-room : goal.returns-else-changes-clause-room
returns-else-changes-clause-room c =
    let old = parts_state c.args.parts.now in
    omega (arith, ap owed_by c.cut.ensures, owed_cut_unseen old c.args.part (omega (arith, c.least-changes.ensures, c.if-changes.false)))
